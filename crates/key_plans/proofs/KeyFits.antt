-- A record with new keys has a spelling, and a block has bytes enough for them.
use Rattle.std.proofs.Common.{◌≡◌, ℕ, ◌+◌, ◌*◌, ◌^◌, ◌<◌, ◌≤◌, Bool, true, false, List, length}
use Rattle.std.proofs.Common.{map, Option, Some, None, refl, sym, ap, subst, ◌∙◌, arith}
use Rattle.std.specs.Prelude.{bit_and, nat_le, nat_lt, if◌then◌else◌, IsTrue}
use Rattle.std.specs.Int.{bit_not}
use Rattle.std.specs.Int.Width.{w32}
use Rattle.std.specs.List.{All}
use Rattle.std.proofs.lemmas.Bool.{and_parts, eq-eqb, eqb-true, leb-false, leb-true, ltb-false}
use Rattle.std.proofs.lemmas.List.{length-map}
use Rattle.std.proofs.lemmas.Nat.{and_assoc, and_comm, and_le_l}
use Rattle.command_plans.proofs.Rooms.{found_holds}
use Rattle.command_plans.specs.KeptEntries.{is_drawn}
use Rattle.command_plans.specs.Targets.{IsBy}
use Rattle.kadm_commands.specs.Commands.{IsNewKeys}
use Rattle.kadm_commands.specs.declared.commands.ChangeKeys.{ChangeKeys}
use Rattle.kdb_base.specs.Key.{Key}
use Rattle.kdb_base.specs.Limits.{most_keys}
use Rattle.kdb_model.proofs.Accepted.{or_false}
use Rattle.kdb_model.specs.Fields.{By, expiry, needchange, rekeyed_head, without_bit}
use Rattle.kdb_model.specs.Records.{numbers_for}
use Rattle.kdb_model.specs.Refusals.{greatest_kvno}
use Rattle.kdb_plain.specs.Heads.{plain_head}
use Rattle.kdb_plain.specs.States.{is_policy_named, policy_named}
use Rattle.kdb_plain.specs.declared.princs.PlainPrinc.{PlainPrinc}
use Rattle.key_plans.specs.Changing.{lacks_room, next_items, plain_with}
use Rattle.key_plans.specs.declared.rekeying.With.{With}
use Rattle.plain_keys.proofs.Blocks.{once_drawn}
use Rattle.plain_keys.specs.Keys.{AreOnce, bytes_to_make, is_password, item_of, items_of, kept_keys}
use Rattle.plain_keys.specs.Keys.{made_keys, newest_keys, newest_kvno, normal_salt, remembered}
use Rattle.plain_keys.specs.declared.items.PlainItem.{PlainItem}
use Rattle.plain_keys.specs.declared.items.PlainSet.{PlainSet}
use Rattle.plain_keys.specs.declared.new_keys.NewKeys.{NewKeys}
use Rattle.plain_keys.specs.declared.new_keys.NewKeys.TheVariants.{Random, Password}
use Rattle.policy_rules.specs.Ranges.{is_history}
use Rattle.policy_rules.specs.Rules.{Rules}
use Rattle.princ_name.specs.Names.{NameParts}
use Rattle.princ_record.specs.Policies.{IsPolicy}
use Rattle.princ_record.specs.Princs.{are_attributes, known_bits}
use Rattle.princ_record.specs.declared.princs.Princ.{Princ}
use Rattle.row_keys.proofs.Blocks.{drawn_taken, kept_taken, password_types, random_types}
use Rattle.row_keys.proofs.FormedKeys.{new_formed, newest_few, remembered_formed}
use Rattle.row_keys.specs.Formed.{AreFields, AreItems, AreSets, IsFormed}
use Rattle.row_keys.specs.Wraps.{taken_lens}
use Rattle.tagged_data.specs.Numbers.{IsVersion}

-- ---- fields

-- attributes without one of them are attributes
cleared : (bit n : ℕ) → are_attributes n ≡ true → are_attributes (without_bit bit n) ≡ true
unfolding are_attributes
cleared bit n e =
    let mask = bit_not w32 bit in
    let known : bit_and n known_bits ≡ n = eqb-true (bit_and n known_bits) n e in
    eq-eqb (bit_and (bit_and n mask) known_bits) (bit_and n mask)
    (and_assoc known_bits n mask ∙ ap (bit_and n) (and_comm mask known_bits) ∙ sym (and_assoc mask n known_bits)
    ∙ ap (λ (m : ℕ). bit_and m mask) known)

expiry_short : (life secs : ℕ) → expiry life secs < 2 ^ 32
unfolding expiry
expiry_short life secs = grind arith

fields_formed : (version life : ℕ) (by : By) (h : Princ) → IsVersion version → IsBy by → AreFields h
    → AreFields (rekeyed_head version life by h)
unfolding rekeyed_head
fields_formed version life by h is by_is f = record {
  name = f.name;
  other = f.other;
  attributes = cleared needchange h.attributes f.attributes;
  attributes_short = let short = f.attributes_short in omega (arith, and_le_l h.attributes (bit_not w32 needchange));
  lives = record {
    max_life = f.lives.max_life;
    max_renew = f.lives.max_renew;
    expire = f.lives.expire;
    pw_expire = expiry_short life by.secs;
  };
  pw_changed = by_is.secs;
  modified = by_is.secs;
  modifier = by_is.client;
  mkvno = is;
  strings = f.strings;
  policy = f.policy;
}

-- ---- the numbers of a policy

history_few : (n : ℕ) → IsTrue (is_history n) → n ≤ 16
history_few n e = leb-true n 16 (and_parts (nat_le 1 n) (nat_le n 16) e).1

numbers_few : (name : List ℕ) (policies : List Rules) (found : Option Rules) → policy_named name policies ≡ found
    → All IsPolicy policies → (numbers_for (Some name) policies).history ≤ 16
unfolding policy_named
numbers_few name policies None e all = rw e (omega arith)
numbers_few name policies (Some p) e all =
    rw e (history_few p.history (found_holds IsPolicy (is_policy_named name) policies p e all).remembered)

pub few_remembered : (policy : Option (List ℕ)) (policies : List Rules) → All IsPolicy policies
    → (numbers_for policy policies).history ≤ 16
few_remembered None policies all = omega arith
few_remembered (Some name) policies all = numbers_few name policies (policy_named name policies) refl all

-- ---- new keys

once_made : (random : List ℕ) (name : NameParts) (keys : NewKeys) → IsNewKeys keys
    → AreOnce (map (λ (k : Key). k.etype) (made_keys random name keys))
once_made random name (Random etypes) is = subst AreOnce (sym (random_types random etypes)) is.once
once_made random name (Password password etypes) is =
    subst AreOnce (sym (password_types password (normal_salt name) etypes)) is.once

pub few_to_make : (keys : NewKeys) → IsNewKeys keys → bytes_to_make keys ≤ 160
few_to_make (Random etypes) is = once_drawn etypes is.once
few_to_make (Password password etypes) is = omega arith

-- ---- room

pub record HasRoom (count : ℕ) (keep : Bool) (q : PlainPrinc) : Type 0 where
  pub version : newest_kvno q.keys < 65535
  pub few : count + length (kept_keys keep q.keys) ≤ most_keys

pub room_there : (count : ℕ) (keep : Bool) (q : PlainPrinc) → lacks_room count keep q ≡ false → HasRoom count keep q
room_there count keep q e =
    let parts = or_false (nat_le greatest_kvno (newest_kvno q.keys))
    (nat_lt most_keys (count + length (kept_keys keep q.keys))) e in
    record {
      version = leb-false greatest_kvno (newest_kvno q.keys) parts.0;
      few = ltb-false most_keys (count + length (kept_keys keep q.keys)) parts.1;
    }

-- ---- the principal

old_formed : (count : ℕ) (password : Bool) (keys : List PlainItem) (old : List PlainSet) → count ≤ 16 → AreItems keys
    → AreSets old → AreSets (if password then remembered count keys old else old)
old_formed count true keys old le f g = remembered_formed count keys old le f g
old_formed count false keys old le f g = g

module _ (random : List ℕ) (c : ChangeKeys) (is : IsNewKeys c.keys) (q : PlainPrinc) (formed : IsFormed q)
    (room : HasRoom (length (made_keys random c.name c.keys)) c.keep_old q) where
  pub plain_formed : (w : With) (by : By) → IsVersion w.active.version → w.numbers.history ≤ 16 → IsBy by
      → IsFormed (plain_with w by c (made_keys random c.name c.keys) q)
  unfolding rekeyed_head
  plain_formed w by version few by_is = record {
    fields = fields_formed w.active.version w.numbers.max_life by (plain_head q) version by_is formed.fields;
    keys = new_formed (made_keys random c.name c.keys) q.keys c.keep_old formed.keys room.version
        (once_made random c.name c.keys is) room.few;
    old = old_formed w.numbers.history (is_password c.keys) q.keys q.old few formed.keys formed.old;
  }

  -- ---- the block

  taken_new : (keys : NewKeys) → IsNewKeys keys → length (made_keys random c.name keys) ≤ most_keys
      → taken_lens (is_drawn keys) (next_items (made_keys random c.name keys) q.keys) ≤ 672
  unfolding items_of
  taken_new (Random etypes) each few =
      omega (arith, drawn_taken random etypes (newest_kvno q.keys + 1), once_drawn etypes each.once)
  taken_new (Password password etypes) each few =
      omega (
        arith,
        kept_taken (next_items (made_keys random c.name (Password password etypes)) q.keys),
        length-map (made_keys random c.name (Password password etypes)) (item_of (newest_kvno q.keys + 1)),
      )

  pub block_serves : length random ≡ 2048
      → taken_lens (is_drawn c.keys) (next_items (made_keys random c.name c.keys) q.keys)
      + taken_lens false (kept_keys c.keep_old q.keys) + 16 * length (newest_keys q.keys) ≤ length random
  block_serves long =
      let few = room.few in
      let each = formed.keys.few in
      omega (
        arith,
        long,
        taken_new c.keys is (omega arith),
        kept_taken (kept_keys c.keep_old q.keys),
        newest_few q.keys,
      )

-- A principal as bytes.
use Rattle.std.proofs.Common.{◌≡◌, ℕ, ◌^◌, ◌<◌, Bool, true, List, [], ◌∷◌, ◌++◌, length, Option, Some, None}
use Rattle.std.specs.Prelude.{IsTrue, ◌||◌, nat_eq, bit_and}
use Rattle.kdb_format.specs.Readings.{Reading, ◌>>=◌, done, checked, big_at, counted_at}
use Rattle.kdb_format.specs.Spellings.{big, counted}
use Rattle.policy_rules.specs.Names.{is_policy_name}
use Rattle.princ_name.specs.Printed.{is_printed, is_master, IsPrinted}
use Rattle.tagged_data.specs.Numbers.{IsVersion}
use Rattle.princ_keys.specs.Keys.{keys_at, keys_text, AreKeys, AreMasters, fit_name}
use Rattle.princ_keys.specs.Remembered.{old_sets_at, old_sets, AreOldSets}
use Rattle.princ_record.specs.Facts.{facts_at, facts, IsFacts}
use Rattle.princ_keys.specs.declared.keys.KeyItem.{KeyItem}
use Rattle.princ_keys.specs.declared.remembered.OldSet.{OldSet}
use Rattle.princ_record.specs.declared.facts.Facts.{Facts}
use Rattle.princ_record.specs.declared.princs.Lives.{Lives}
use Rattle.princ_record.specs.declared.princs.Princ.{Princ}

-- ---- attributes

-- the bits that a kadmin flag sets or clears, 1 to 200, 1000, 2000 and 100000 to 800000 in hexadecimal
abbrev pub known_bits : ℕ
known_bits = 15741951

-- no other bit stands
unfoldable pub are_attributes : ℕ → Bool
are_attributes n = nat_eq (bit_and n known_bits) n

-- ---- the policy's name, which is empty for none

unfoldable pub policy_of : List ℕ → Option (List ℕ)
policy_of [] = None
policy_of (b ∷ name) = Some (b ∷ name)

unfoldable pub name_of : Option (List ℕ) → List ℕ
name_of None = []
name_of (Some name) = name

abbrev pub is_policy_or_none : List ℕ → Bool
is_policy_or_none name = nat_eq (length name) 0 || is_policy_name name

unfoldable pub policy_name_at : Reading (Option (List ℕ))
policy_name_at = do
  name ← checked is_policy_or_none counted_at
  done (policy_of name)

abbrev pub IsPolicyOr : Option (List ℕ) → Type 0
IsPolicyOr None = Unit {0}
IsPolicyOr (Some name) = IsTrue (is_policy_name name)

-- ---- lives and expirations, in seconds

unfoldable pub lives_at : Reading Lives
lives_at = do
  max_life ← big_at 4
  max_renew ← big_at 4
  expire ← big_at 4
  pw_expire ← big_at 4
  done (record { max_life = max_life; max_renew = max_renew; expire = expire; pw_expire = pw_expire })

unfoldable pub lives : Lives → List ℕ
lives v = big 4 v.max_life ++ (big 4 v.max_renew ++ (big 4 v.expire ++ big 4 v.pw_expire))

pub record AreLives (v : Lives) : Type 0 where
  pub max_life : v.max_life < 2 ^ 32
  pub max_renew : v.max_renew < 2 ^ 32
  pub expire : v.expire < 2 ^ 32
  pub pw_expire : v.pw_expire < 2 ^ 32

-- ---- the principal

abbrev pub lives_of : Princ → Lives
lives_of p = record { max_life = p.max_life; max_renew = p.max_renew; expire = p.expire; pw_expire = p.pw_expire }

abbrev pub facts_of : Princ → Facts
facts_of p = record {
  pw_changed = p.pw_changed;
  modified = p.modified;
  modifier = p.modifier;
  mkvno = p.mkvno;
  chain = p.chain;
  strings = p.strings;
}

abbrev pub princ_of : List ℕ → ℕ → Lives → Facts → List KeyItem → Option (List ℕ) → List OldSet → Princ
princ_of name attributes lives facts keys policy old = record {
  name = name;
  attributes = attributes;
  max_life = lives.max_life;
  max_renew = lives.max_renew;
  expire = lives.expire;
  pw_expire = lives.pw_expire;
  pw_changed = facts.pw_changed;
  modified = facts.modified;
  modifier = facts.modifier;
  mkvno = facts.mkvno;
  keys = keys;
  policy = policy;
  old = old;
  chain = facts.chain;
  strings = facts.strings;
}

-- A name of K and M has the chain, and no other name; its keys are the master keys by falling versions, and its version
-- is the newest.
unfoldable pub princ_at : Reading Princ
princ_at = do
  name ← checked is_printed counted_at
  attributes ← checked are_attributes (big_at 4)
  lives ← lives_at
  facts ← facts_at (is_master name)
  keys ← checked (fit_name (is_master name) facts.mkvno) keys_at
  policy ← policy_name_at
  old ← old_sets_at
  done (princ_of name attributes lives facts keys policy old)

unfoldable pub princ : Princ → List ℕ
princ p = counted p.name ++ (big 4 p.attributes ++ (lives (lives_of p)
    ++ (facts (facts_of p) ++ (keys_text p.keys ++ (counted (name_of p.policy) ++ old_sets p.old)))))

-- the principals that have a spelling
pub record IsPrinc (p : Princ) : Type 0 where
  pub name : IsPrinted p.name
  pub attributes : IsTrue (are_attributes p.attributes)
  pub attributes_short : p.attributes < 2 ^ 32
  pub lives : AreLives (lives_of p)
  pub facts : IsFacts (is_master p.name) (facts_of p)
  pub keys : AreKeys p.keys
  pub masters : is_master p.name ≡ true → AreMasters p.mkvno p.keys
  pub policy : IsPolicyOr p.policy
  pub old : AreOldSets p.old

-- ---- records that differ in their keys

-- the same record with these keys, under this version of the master key
abbrev pub with_keys : ℕ → List KeyItem → Princ → Princ
with_keys version keys p = record p { mkvno = version; keys = keys }

-- What new keys owe, so that the record has a spelling: at K/M also that they are the master keys by falling versions.
pub record FitKeys (p : Princ) (version : ℕ) (keys : List KeyItem) : Type 0 where
  pub known : IsVersion version
  pub fit : AreKeys keys
  pub masters : is_master p.name ≡ true → AreMasters version keys

-- The keys of a new principal, and what they take of the block.
use Rattle.std.proofs.Common.{◌≡◌, ℕ, ◌*◌, ◌≤◌, Bool, false, List, [], ◌∷◌, length, map}
use Rattle.std.proofs.Common.{Option, Some, refl, sym, ap, subst, ◌∙◌, append-nil, arith}
use Rattle.std.specs.Prelude.{IfOk, IfSome, Result, option_map, unwrap_or}
use Rattle.std.specs.List.{sum_by}
use Rattle.std.proofs.lemmas.List.{length-map}
use Rattle.std.proofs.lemmas.List.Elements.{All-nil}
use Rattle.std.proofs.lemmas.List.Sums.{sum_by-cons}
use Rattle.command_plans.specs.KeptEntries.{is_drawn}
use Rattle.command_plans.specs.declared.given.Given.{Given}
use Rattle.kadm_commands.specs.Commands.{AreEtypes, IsCommand, IsNewKeys}
use Rattle.kadm_commands.specs.declared.commands.AddPrinc.{AddPrinc}
use Rattle.kadm_commands.specs.declared.commands.Command.TheVariants as command
use Rattle.kdb_base.specs.Key.{Key}
use Rattle.kdb_base.specs.declared.keys.Etype.{Etype}
use Rattle.kdb_base.specs.declared.keys.Etype.TheVariants.{Aes128, Aes256, Aes128Sha2, Aes256Sha2}
use Rattle.plain_keys.proofs.Blocks.{once_drawn}
use Rattle.plain_keys.specs.Keys.{AreOnce, drawn_len, item_of, items_of, made_keys}
use Rattle.plain_keys.specs.Keys.{normal_salt, password_keys, random_keys}
use Rattle.plain_keys.specs.declared.items.PlainItem.{PlainItem}
use Rattle.plain_keys.specs.declared.new_keys.NewKeys.{NewKeys}
use Rattle.plain_keys.specs.declared.new_keys.NewKeys.TheVariants.{Random, Password}
use Rattle.princ_name.specs.Names.{NameParts}
use Rattle.princ_plans.specs.Adding.{items_given}
use Rattle.princ_plans.specs.Ready.{password_made, ready_keys, ready_new}
use Rattle.row_keys.proofs.Blocks.{drawn_taken, kept_taken, password_types, random_types}
use Rattle.row_keys.proofs.FormedKeys.{new_formed}
use Rattle.row_keys.specs.Formed.{AreItems, IsItem, are_ordered}
use Rattle.row_keys.specs.Wraps.{taken_lens}

-- ---- few

drawn_long : (e : Etype) → 32 ≤ drawn_len e
drawn_long Aes128 = omega arith
drawn_long Aes256 = omega arith
drawn_long Aes128Sha2 = omega arith
drawn_long Aes256Sha2 = omega arith

all_long : (etypes : List Etype) → 32 * length etypes ≤ sum_by drawn_len etypes
all_long [] = omega arith
all_long (e ∷ etypes) = omega (arith, sum_by-cons drawn_len e etypes, drawn_long e, all_long etypes)

few_types : (etypes : List Etype) → AreOnce etypes → length etypes ≤ 5
few_types etypes once = omega (arith, all_long etypes, once_drawn etypes once)

abbrev type_of : Key → Etype
type_of k = k.etype

pub no_items : AreItems []
unfolding are_ordered
no_items = record { few = omega arith; each = All-nil IsItem; ordered = refl }

module _ (keys : List Key) (etypes : List Etype) (types : map type_of keys ≡ etypes) (once : AreOnce etypes) where
  few_of : length keys ≤ 5
  few_of = omega (arith, length-map keys type_of, ap (λ (es : List Etype). length es) types, few_types etypes once)

  items_formed : AreItems (items_of 1 keys)
  items_formed =
      subst AreItems (append-nil (items_of 1 keys))
      (new_formed keys [] false no_items (omega arith) (subst AreOnce (sym types) once) (omega (arith, few_of)))

-- keys that a principal may have
pub made_formed : (random : List ℕ) (name : NameParts) (keys : NewKeys) → IsNewKeys keys
    → AreItems (items_of 1 (made_keys random name keys))
made_formed random name (Random etypes) are =
    items_formed (random_keys random etypes) etypes (random_types random etypes) are.once
made_formed random name (Password password etypes) are =
    items_formed (password_keys password (normal_salt name) etypes) etypes
    (password_types password (normal_salt name) etypes) are.once

items_long : (keys : List Key) → length (items_of 1 keys) ≡ length keys
unfolding items_of
items_long keys = length-map keys (item_of 1)

-- they take little of the block
pub made_take : (random : List ℕ) (name : NameParts) (keys : NewKeys) → IsNewKeys keys
    → taken_lens (is_drawn keys) (items_of 1 (made_keys random name keys)) ≤ 2048
made_take random name (Random etypes) are = omega (arith, drawn_taken random etypes 1, once_drawn etypes are.once)
made_take random name (Password password etypes) are =
    let keys = password_keys password (normal_salt name) etypes in
    let few = few_of keys etypes (password_types password (normal_salt name) etypes) are.once in
    omega (arith, kept_taken (items_of 1 keys), items_long keys, few)

-- ---- at a command

pub well_keys : (realm : List ℕ) (c : AddPrinc) (keys : NewKeys) → IsCommand realm (command.AddPrinc c)
    → c.keys ≡ Some keys → IsNewKeys keys
unfolding IsCommand
well_keys realm c keys is there = subst (λ (o : Option NewKeys). IfSome o IsNewKeys) there is.1

pub random_take : (random : List ℕ) (keys : NewKeys) (etypes slice : List Etype) → IsNewKeys keys → length random ≡ 2048
    → keys ≡ Random etypes
    → slice ≡ etypes → sum_by drawn_len slice ≤ length random
random_take random keys etypes slice are long random_is same =
    let known : AreEtypes etypes = subst IsNewKeys random_is are in
    omega (arith, ap (sum_by drawn_len) same, once_drawn etypes known.once, long)

pub ready_made : (c : AddPrinc) (keys : NewKeys) (ready : List Key) → c.keys ≡ Some keys
    → ready ≡ ready_keys (command.AddPrinc c)
    → ready ≡ password_made c.name keys
unfolding ready_keys
ready_made c keys ready there is = is ∙ ap (ready_new c.name) there

pub given_items : {E : Type 0} (r : Result (List PlainItem) E) (g : Given) (c : AddPrinc) (keys : NewKeys)
    → c.keys ≡ Some keys
    → IfOk r (λ items. items ≡ items_of 1 (made_keys g.random.now c.name keys))
    → IfOk r (λ items. items ≡ items_given g c)
given_items {E} r g c keys there made =
    subst (λ (o : Option NewKeys).
    IfOk r (λ items. items ≡ unwrap_or (option_map (λ k. items_of 1 (made_keys g.random.now c.name k)) o) []))
    (sym there) made

pub wrapped_take : (realm : List ℕ) (g : Given) (c : AddPrinc) (keys : NewKeys) (drawn : Bool) (items : List PlainItem)
    → IsCommand realm (command.AddPrinc c) → length g.random.now ≡ 2048 → c.keys ≡ Some keys → drawn ≡ is_drawn keys
    → items ≡ items_given g c
    → taken_lens drawn items ≤ length g.random.now
wrapped_take realm g c keys drawn items is long there drawn_is items_are =
    let made : items ≡ items_of 1 (made_keys g.random.now c.name keys) =
    items_are ∙ ap (λ (o : Option NewKeys).
    unwrap_or (option_map (λ k. items_of 1 (made_keys g.random.now c.name k)) o) []) there in
    let few = made_take g.random.now c.name keys (well_keys realm c keys is there) in
    omega (arith, ap (λ b. taken_lens b items) drawn_is, ap (taken_lens (is_drawn keys)) made, few, long)

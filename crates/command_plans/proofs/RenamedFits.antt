-- A record under a new name: its keys, its spelling and its place.
use Rattle.std.proofs.Common.{◌≡◌, ℕ, suc, zero, ◌+◌, ◌^◌, ◌<◌, ◌≤◌, Bool, true, false, ◌&&◌, ◌||◌, not, List, [], ◌∷◌}
use Rattle.std.proofs.Common.{length, map, get_or, Option, Some, None, refl, sym, ap, subst, ◌∙◌, ◌⊎◌, inl, inr, arith}
use Rattle.std.specs.Prelude.{find, nat_le}
use Rattle.std.specs.List.{All, list_all, list_any}
use Rattle.std.specs.Str.{bytes_eq}
use Rattle.std.proofs.lemmas.Bool.{and_from, false≢true, le-leb}
use Rattle.std.proofs.lemmas.List.{length-map}
use Rattle.std.proofs.lemmas.List.Edits.{length-remove}
use Rattle.command_plans.specs.Targets.{IsBy}
use Rattle.command_plans.proofs.Rooms.{any_default, found_holds}
use Rattle.kdb_base.specs.Key.{Key}
use Rattle.kdb_base.specs.Limits.{most_keys, most_rows}
use Rattle.kdb_base.specs.declared.keys.Etype.TheVariants as etype
use Rattle.kdb_base.specs.declared.keys.Salt.{Salt}
use Rattle.kdb_base.specs.declared.keys.Salt.TheVariants.{Normal, Special}
use Rattle.kdb_model.specs.Fields.{By, marked}
use Rattle.kdb_places.specs.Applying.{is_new_name, may_apply}
use Rattle.plain_keys.specs.Keys.{normal_salt, settled_item, settled_items, settled_salt}
use Rattle.plain_keys.specs.declared.items.PlainItem.{PlainItem}
use Rattle.princ_rows.specs.EntryLaws.{bytes_same, same_bytes}
use Rattle.princ_rows.specs.declared.entries.Op.TheVariants.{Rename}
use Rattle.princ_keys.specs.Keys.{AreKeys, IsKey, IsSalt, are_ordered, may_follow}
use Rattle.princ_keys.specs.declared.keys.KeyItem.{KeyItem}
use Rattle.princ_name.specs.Names.{IsName, NameParts, printed}
use Rattle.princ_name.specs.Printed.{IsPrinted, is_master}
use Rattle.princ_record.specs.Princs.{IsPrinc}
use Rattle.princ_record.specs.RowLimits.{IsRow}
use Rattle.princ_record.specs.declared.princs.Princ.{Princ}
use Rattle.princ_rows.proofs.Edits.{remove_is_drop}
use Rattle.princ_rows.proofs.Orders.{put_short}
use Rattle.princ_rows.specs.Effects.{IsRoom, drop_by, drop_princ, effect, put_by, put_princ}
use Rattle.princ_rows.specs.Rows.{AreRows, IsAt, RowLists}
use Rattle.tagged_data.specs.KeyOrder.{AreInOrder}
use Rattle.row_keys.proofs.FormedKeys.{settled_formed}
use Rattle.row_keys.proofs.Sides.{found_first, passed, truth}
use Rattle.row_keys.proofs.Whole.{find_there}
use Rattle.row_keys.specs.Formed.{AreItems, IsItem, are_ordered as plain_ordered}
use Rattle.row_keys.specs.KeptKeys.{settled_kept, settled_keys}
use Rattle.row_keys.specs.Lookups.{has_name, record_named}

-- ---- keys

-- the bytes of a key do not matter for the form of its salt
abbrev some_item : PlainItem
some_item = record { kvno = 1; salt = Normal; key = record { etype = etype.Aes128; bytes = [] } }

some_each : (i : ℕ) (d : PlainItem) → i < 1 → IsItem (get_or (some_item ∷ []) i d)
some_each zero d lt = record { from_one = omega arith; kvno = omega arith; salt = record { short = omega arith } }
some_each (suc i) d lt = absurd (omega arith)

some_formed : AreItems (some_item ∷ [])
unfolding plain_ordered
some_formed = record { few = omega arith; each = some_each; ordered = refl }

normal_fits : (name : NameParts) → IsName name → IsSalt (Special (normal_salt name))
unfolding settled_items
normal_fits name is =
    let formed : AreItems (settled_items name (some_item ∷ [])) = settled_formed name (some_item ∷ []) is some_formed in
    (formed.each 0 some_item (omega arith)).salt

salt_settles : (name : NameParts) (salt : Salt) → IsName name → IsSalt salt → IsSalt (settled_salt name salt)
salt_settles name Normal is fits = normal_fits name is
salt_settles name (Special bytes) is fits = fits

settled_each : (name : NameParts) (keys : List KeyItem) → IsName name → All IsKey keys
    → All IsKey (map (settled_kept name) keys)
settled_each name [] is all i d lt = absurd (omega arith)
settled_each name (k ∷ keys) is all zero d lt =
    let one = all 0 d (omega arith) in
    record {
      from_one = one.from_one;
      kvno = one.kvno;
      salt = salt_settles name k.salt is one.salt;
      wrapped = one.wrapped;
    }
settled_each name (k ∷ keys) is all (suc i) d lt =
    settled_each name keys is (λ j e within. all (suc j) e (omega arith)) i d (omega arith)

settled_follow : (name : NameParts) (k : KeyItem) (keys : List KeyItem)
    → list_all (may_follow (settled_kept name k)) (map (settled_kept name) keys) ≡ list_all (may_follow k) keys
settled_follow name k [] = refl
settled_follow name k (other ∷ keys) = ap (λ b. may_follow k other && b) (settled_follow name k keys)

settled_ordered : (name : NameParts) (keys : List KeyItem)
    → are_ordered (map (settled_kept name) keys) ≡ are_ordered keys
unfolding are_ordered
settled_ordered name [] = refl
settled_ordered name (k ∷ keys) =
    ap (λ b. b && are_ordered (map (settled_kept name) keys)) (settled_follow name k keys)
    ∙ ap (λ b. list_all (may_follow k) keys && b) (settled_ordered name keys)

pub settled_fit : (name : NameParts) (keys : List KeyItem) → IsName name → AreKeys keys
    → AreKeys (settled_keys name keys)
unfolding settled_keys
settled_fit name keys is f = record {
  few = let few = f.few in omega (arith, length-map keys (settled_kept name));
  each = settled_each name keys is f.each;
  ordered = settled_ordered name keys ∙ f.ordered;
}

-- ---- the record

pub renamed_fits : (by : By) (name : List ℕ) (keys : List KeyItem) (p : Princ) → IsBy by → IsPrinted name
    → is_master name ≡ false → is_master p.name ≡ false → AreKeys keys → IsPrinc p
    → IsPrinc (record (marked by (record p { name = name })) { keys = keys })
renamed_fits by name keys p is prints other was are f = record {
  name = prints;
  attributes = f.attributes;
  attributes_short = f.attributes_short;
  lives = f.lives;
  facts = record {
    pw_changed = f.facts.pw_changed;
    modified = is.secs;
    modifier = is.client;
    mkvno = f.facts.mkvno;
    chain_there = f.facts.chain_there ∙ was ∙ sym other;
    chain = f.facts.chain;
    strings = f.facts.strings;
    no_strings = λ master. absurd (false≢true (sym other ∙ master));
  };
  keys = are;
  masters = λ master. absurd (false≢true (sym other ∙ master));
  policy = f.policy;
  old = f.old;
}

-- ---- its place

pub row_name : (name : List ℕ) (rows : RowLists) (p : Princ) → record_named name rows.princs ≡ Some p → p.name ≡ name
unfolding record_named
row_name name rows p e = same_bytes p.name name (find_there (has_name name) rows.princs p e).1

pub row_fits : (name : List ℕ) (rows : RowLists) (p : Princ) → AreRows rows
    → record_named name rows.princs ≡ Some p → IsPrinc p
unfolding record_named
row_fits name rows p f e = (found_holds IsRow (has_name name) rows.princs p e f.princs).fits

drop_shorter : (name : List ℕ) (p : Princ) (xs : List Princ) → AreInOrder (map (λ (q : Princ). q.name) xs)
    → find (has_name name) xs ≡ Some p → length (drop_by (λ (q : Princ). q.name) name xs) + 1 ≡ length xs
drop_shorter name p xs order e =
    let at = find_there (has_name name) xs p e in
    let place : IsAt (λ (q : Princ). q.name) xs name at.0.0 = record {
      in_range = at.0.1;
      has_key =
          λ d. ap (λ (q : Princ). q.name) (any_default xs at.0.0 d p at.0.1 ∙ at.0.2) ∙ same_bytes p.name name at.1;
    } in
    ap (λ (zs : List Princ). length zs + 1) (sym (remove_is_drop (λ (q : Princ). q.name) xs name at.0.0 order place))
    ∙ length-remove xs at.0.0 at.0.1

rename_room : (old : List ℕ) (p q : Princ) (rows : RowLists) → AreRows rows → record_named old rows.princs ≡ Some q
    → IsRoom (effect (Some (Rename old p)) rows)
unfolding effect put_princ drop_princ record_named
rename_room old p q rows f e =
    let few = f.few in
    omega (
      arith,
      put_short (λ (x : Princ). x.name) p (drop_by (λ (x : Princ). x.name) old rows.princs),
      drop_shorter old q rows.princs f.princ_order e,
    )

module _ {X : Type 0} (p : X → Bool) where
  some_not : (x : X) → ◌≡◌ {A = Option X} (Some x) None → ⊥
  some_not x h = cc

  none_any : (xs : List X) → find p xs ≡ None → list_any p xs ≡ false
  none_any [] e = refl
  none_any (x ∷ xs) e = elim (truth (p x)) [
    | inl is ↦ absurd (some_not x (sym (found_first p x xs is) ∙ e))
    | inr is ↦ rw is (none_any xs (sym (passed p x xs is) ∙ e))
  ]

or_true : (b : Bool) → (b || true) ≡ true
or_true true = refl
or_true false = refl

pub may_rename : (old : List ℕ) (p q : Princ) (rows : RowLists) → AreRows rows → record_named old rows.princs ≡ Some q
    → record_named p.name rows.princs ≡ None → may_apply (Rename old p) rows ≡ true
unfolding may_apply record_named
may_rename old p q rows f there free =
    and_from (nat_le (length (effect (Some (Rename old p)) rows).princs
    + length (effect (Some (Rename old p)) rows).policies) most_rows) (is_new_name (Rename old p) rows)
    (le-leb _ _ (rename_room old p q rows f there))
    (rw (none_any (has_name p.name) rows.princs free) (or_true (bytes_eq p.name old)))

-- A tagged list: a count in two bytes, and that many items by rising types.
use Rattle.std.proofs.Common.{◌≡◌, ℕ, ◌+◌, ◌<◌, ◌≤◌, List, [], ◌∷◌, length, map, refl, arith}
use Rattle.std.specs.Prelude.{nat_eq, Option, option_map}
use Rattle.std.specs.List.{All, AllByRecursion, find, sum_by}
use Rattle.kdb_base.specs.Versions.{AreRising}
use Rattle.kdb_format.specs.Readings.{Reading, checked, counted_list_at}
use Rattle.kdb_format.specs.Spellings.{counted_list}
use Rattle.kdb_format.specs.Fields.{IsField}
use Rattle.kdb_format.specs.Laws.{same_field, checked_field, counted_list_field}
use Rattle.kdb_format.specs.Lengths.{length-counted_list}
use Rattle.std.proofs.lemmas.List.{length-map}
use Rattle.std.proofs.lemmas.Map.Views.{length-le_from_below}
use Rattle.std.proofs.lemmas.List.Elements.{All-from_recursion, recursion_from_All}
use Rattle.tagged_data.specs.Kinds.{kind_small}
use Rattle.tagged_data.specs.Rising.{rising_from, rising_is, is_rising}
use Rattle.tagged_data.specs.Items.{item_at, item, IsItem, item_field}
use Rattle.tagged_data.specs.declared.items.TagItem.{TagItem}

-- the types of the items
abbrev pub kinds_of : List TagItem → List ℕ
kinds_of items = map (λ i. i.kind) items

unfoldable pub tagged_at : Reading (List TagItem)
tagged_at = checked (λ items. rising_from 0 (kinds_of items)) (counted_list_at 2 item_at)

unfoldable pub tagged : List TagItem → List ℕ
tagged items = counted_list 2 item items

pub record IsTagged (list : List TagItem) : Type 0 where
  pub rising : AreRising (kinds_of list)
  pub items : All IsItem list

-- the bytes of the item of a type
unfoldable pub content : ℕ → List TagItem → Option (List ℕ)
content kind items = option_map (λ i. i.bytes) (find (λ i. nat_eq i.kind kind) items)

small_kinds : (items : List TagItem) → AllByRecursion IsItem items → AllByRecursion (λ n. n < 100) (kinds_of items)
small_kinds [] f = tt
small_kinds (i ∷ items) f = (kind_small i.kind f.0.known, small_kinds items f.1)

pub few : (items : List TagItem) → IsTagged items → length items ≤ 100
few items f =
    let small =
    All-from_recursion (λ n. n < 100) (kinds_of items) (small_kinds items (recursion_from_All IsItem items f.items)) in
    omega (arith, length-le_from_below 100 (kinds_of items) f.rising small, length-map items (λ (i : TagItem). i.kind))

pub tagged_field : IsField tagged_at tagged IsTagged
unfolding tagged_at tagged
tagged_field = same_field (checked_field (λ items. rising_from 0 (kinds_of items)) (counted_list_field 2 item_field))
    (λ items f. (refl, record { rising = rising_is _ f.1; items = f.0.1 }))
    (λ items f. let n = few items f in ((omega arith, f.items), is_rising _ f.rising))

pub length-tagged : (items : List TagItem) → length (tagged items) ≡ 2 + sum_by (λ i. length (item i)) items
unfolding tagged
length-tagged items = length-counted_list 2 item items

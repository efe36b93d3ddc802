-- An item: its type in two bytes, and a counted text.
use Rattle.std.proofs.Common.{◌≡◌, ℕ, ◌+◌, ◌^◌, ◌<◌, List, ◌++◌, length, refl, sym, ap, arith}
use Rattle.std.specs.Prelude.{IsTrue}
use Rattle.kdb_format.specs.Readings.{Reading, ◌>>=◌, done, checked, big_at, counted_at}
use Rattle.kdb_format.specs.Spellings.{big, counted}
use Rattle.kdb_format.specs.Fields.{IsField}
use Rattle.kdb_format.specs.Laws.{same_field, first_field, last_field, big_field, checked_field, counted_field}
use Rattle.kdb_format.specs.Lengths.{length-counted}
use Rattle.kdb_format.specs.Numbers.{length-big}
use Rattle.std.proofs.lemmas.List.{length-append}
use Rattle.tagged_data.specs.Kinds.{is_kind, kind_small}
use Rattle.tagged_data.specs.declared.items.TagItem.{TagItem}

unfoldable pub item_at : Reading TagItem
item_at = do
  kind ← checked is_kind (big_at 2)
  bytes ← counted_at
  done (record { kind = kind; bytes = bytes })

unfoldable pub item : TagItem → List ℕ
item i = big 2 i.kind ++ counted i.bytes

-- one of the types, and fewer than 65536 bytes
pub record IsItem (i : TagItem) : Type 0 where
  pub known : IsTrue (is_kind i.kind)
  pub short : length i.bytes < 2 ^ 16

pub item_field : IsField item_at item IsItem
unfolding item_at item
item_field = same_field
    (first_field (checked_field is_kind (big_field 2)) (λ (i : TagItem). i.kind) (λ kind _.
    last_field counted_field (λ (i : TagItem). i.bytes) (λ bytes. record { kind = kind; bytes = bytes })
    (λ _ _. (refl, refl)) (λ i k. ap (λ (n : ℕ). record { kind = n; bytes = i.bytes }) (sym k))))
    (λ i f. (refl, record { known = f.0.1; short = f.1 }))
    (λ i f. let small = kind_small i.kind f.known in ((omega arith, f.known), f.short))

pub length-item : (i : TagItem) → length (item i) ≡ 4 + length i.bytes
unfolding item
length-item i =
    omega (arith, length-append (big 2 i.kind) (counted i.bytes), length-big 2 i.kind, length-counted i.bytes)

-- String attributes that stay in form.
use Rattle.std.proofs.Common.{◌≡◌, ℕ, suc, ◌≤◌, Bool, true, false, List, [], ◌∷◌}
use Rattle.std.proofs.Common.{length, map, refl, sym, ap, ◌∙◌, ◌⊎◌, inl, inr, arith}
use Rattle.std.specs.Prelude.{IsTrue, nat_lt}
use Rattle.std.specs.List.{list_any}
use Rattle.std.proofs.lemmas.Bool.{or_cases, ltb-true}
use Rattle.std.proofs.lemmas.List.{length-set}
use Rattle.kdb_base.specs.Limits.{most_strings}
use Rattle.princ_rows.specs.Effects.{put_by}
use Rattle.princ_rows.specs.EntryLaws.{same_bytes}
use Rattle.princ_rows.specs.Rows.{IsAt}
use Rattle.tagged_data.specs.KeyOrder.{AreInOrder}
use Rattle.princ_rows.proofs.Edits.{set_is_put}
use Rattle.princ_rows.proofs.Orders.{put_order, put_each, put_short, drop_order, drop_each, drop_short}
use Rattle.tagged_data.specs.Strings.{AreStrings, IsString, is_string_key, is_string_value}
use Rattle.tagged_data.specs.declared.string_attributes.StringAttribute.{StringAttribute}
use Rattle.kdb_plain.specs.Strings.{has_room_for, has_string, is_string, key_of, with_string, without_string}

truth : (b : Bool) → (b ≡ true) ⊎ (b ≡ false)
truth true = inl refl
truth false = inr refl

passed : (key : List ℕ) (a : StringAttribute) (list : List StringAttribute) → is_string key a ≡ false
    → list_any (is_string key) (a ∷ list) ≡ list_any (is_string key) list
passed key a list e = rw e refl

-- an attribute of the key stands somewhere
there : (key : List ℕ) (list : List StringAttribute) → list_any (is_string key) list ≡ true
    → (at : ℕ) × IsAt key_of list key at
there key [] e = absurd cc
there key (a ∷ list) e =
    elim (truth (is_string key a)) [
      | inl here ↦ (0, record { in_range = omega arith; has_key = λ d. same_bytes a.key key here })
      | inr other ↦
          let more = there key list (sym (passed key a list other) ∙ e) in
          let lt = more.1.in_range in
          (suc more.0, record { in_range = omega arith; has_key = λ d. more.1.has_key d })
    ]

same_length : (a : StringAttribute) (list : List StringAttribute) → AreInOrder (map key_of list)
    → list_any (is_string a.key) list ≡ true → length (put_by key_of a list) ≡ length list
same_length a list order e =
    let at = there a.key list e in
    ap (λ (xs : List StringAttribute). length xs) (sym (set_is_put key_of list a at.0 order at.1))
    ∙ length-set list at.0 a

few : (a : StringAttribute) (list : List StringAttribute) → AreInOrder (map key_of list) → length list ≤ most_strings
    → has_room_for a.key list ≡ true → length (put_by key_of a list) ≤ most_strings
unfolding has_room_for has_string
few a list order le room =
    elim (or_cases (list_any (is_string a.key) list) (nat_lt (length list) most_strings) room) [
      | inl here ↦ let same = same_length a list order here in omega arith
      | inr lt ↦ let below = ltb-true _ _ lt in omega (arith, put_short key_of a list)
    ]

pub set_in_form : (key value : List ℕ) (strings : List StringAttribute)
    → AreStrings strings → IsTrue (is_string_key key) → IsTrue (is_string_value value) → has_room_for key strings ≡ true
    → AreStrings (with_string key value strings)
set_in_form key value strings f k v room =
    let a : StringAttribute = record { key = key; value = value } in
    record {
      few = few a strings f.rising f.few room;
      each = put_each IsString key_of a strings (record { key = k; value = v }) f.each;
      rising = put_order key_of a strings f.rising;
    }

pub taken_in_form : (key : List ℕ) (strings : List StringAttribute) → AreStrings strings
    → AreStrings (without_string key strings)
taken_in_form key strings f = record {
  few = let le = f.few in omega (arith, drop_short key_of key strings);
  each = drop_each IsString key_of key strings f.each;
  rising = drop_order key_of key strings f.rising;
}

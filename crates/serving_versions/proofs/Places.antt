-- Where a record is that is found by its key, and what holds of it.
use Rattle.std.proofs.Common.{◌≡◌, ℕ, suc, ◌+◌, ◌<◌, Bool, true, false, List, [], ◌∷◌, length, map, get_or}
use Rattle.std.proofs.Common.{Option, Some, None, refl, sym, ap, subst, ◌∙◌, ◌⊎◌, inl, inr, arith}
use Rattle.std.specs.Prelude.{find}
use Rattle.std.specs.List.{All}
use Rattle.std.proofs.lemmas.List.{length-set}
use Rattle.princ_rows.specs.Effects.{put_by, drop_by}
use Rattle.princ_rows.specs.EntryLaws.{same_bytes}
use Rattle.princ_rows.specs.Rows.{IsAt}
use Rattle.tagged_data.specs.KeyOrder.{AreInOrder}
use Rattle.princ_rows.proofs.Edits.{remove_is_drop, set_is_put}
use Rattle.std.proofs.lemmas.List.Edits.{length-remove}
use Rattle.kdb_plain.proofs.Finds.{has}

truth : (b : Bool) → (b ≡ true) ⊎ (b ≡ false)
truth true = inl refl
truth false = inr refl

same_some : {A : Type 0} (x y : A) → Some x ≡ Some y → x ≡ y
same_some x y e = cc

module _ {X : Type 0} (key : X → List ℕ) where
  first : (name : List ℕ) (y : X) (ys : List X) → has key name y ≡ true → find (has key name) (y ∷ ys) ≡ Some y
  first name y ys e = rw e refl

  passed : (name : List ℕ) (y : X) (ys : List X) → has key name y ≡ false
      → find (has key name) (y ∷ ys) ≡ find (has key name) ys
  passed name y ys e = rw e refl

  pub found_place : (name : List ℕ) (xs : List X) (x : X) → find (has key name) xs ≡ Some x
      → (at : ℕ) × ((at < length xs) × (((d : X) → get_or xs at d ≡ x) × (key x ≡ name)))
  found_place name [] x e = absurd cc
  found_place name (y ∷ ys) x e =
      elim (truth (has key name y)) [
        | inl here ↦
            let is : y ≡ x = same_some y x (sym (first name y ys here) ∙ e) in
            (0, (omega arith, (λ d. is, ap key (sym is) ∙ same_bytes (key y) name here)))
        | inr other ↦
            let rest = found_place name ys x (sym (passed name y ys other) ∙ e) in
            (suc rest.0, (omega (arith, rest.1.0), (λ d. rest.1.1.0 d, rest.1.1.1)))
      ]

  pub named_place : (name : List ℕ) (xs : List X) (x : X) → find (has key name) xs ≡ Some x
      → (at : ℕ) × IsAt key xs name at
  named_place name xs x e =
      let place = found_place name xs x e in
      (place.0, record { in_range = place.1.0; has_key = λ d. ap key (place.1.1.0 d) ∙ place.1.1.1 })

  pub named_so : (name : List ℕ) (xs : List X) (x : X) → find (has key name) xs ≡ Some x → key x ≡ name
  named_so name xs x e = (found_place name xs x e).1.1.1

  pub named_holds : (F : X → Type 0) (name : List ℕ) (xs : List X) (x : X) → find (has key name) xs ≡ Some x
      → All F xs → F x
  named_holds F name xs x e all =
      let place = found_place name xs x e in
      subst F (place.1.1.0 x) (all place.0 x place.1.0)

  -- a put in the place of another adds none
  pub put_same : (xs : List X) (x y : X) → AreInOrder (map key xs) → find (has key (key x)) xs ≡ Some y
      → length (put_by key x xs) ≡ length xs
  put_same xs x y order e =
      let place = named_place (key x) xs y e in
      ap (λ (zs : List X). length zs) (sym (set_is_put key xs x place.0 order place.1)) ∙ length-set xs place.0 x

  -- a drop of one that is there
  pub drop_one : (xs : List X) (name : List ℕ) (y : X) → AreInOrder (map key xs) → find (has key name) xs ≡ Some y
      → length (drop_by key name xs) + 1 ≡ length xs
  drop_one xs name y order e =
      let place = named_place name xs y e in
      ap (λ (zs : List X). length zs + 1) (sym (remove_is_drop key xs name place.0 order place.1))
      ∙ length-remove xs place.0 place.1.in_range

-- The last item of a list.
use Rattle.std.proofs.Common.{◌≡◌, ℕ, suc, ◌-◌, ◌≤◌, List, [], ◌∷◌, length, get_or}
use Rattle.std.proofs.Common.{Option, Some, None, refl, sym, ap, ◌∙◌, arith}
use Rattle.std.specs.List.{last_or}

module _ {X : Type 0} where
  last_at : (o : Option X) (xs : List X) (d : X) → 1 ≤ length xs → last_or o xs ≡ Some (get_or xs (length xs - 1) d)
  last_at o [] d le = absurd (omega arith)
  last_at o (x ∷ []) d le = refl
  last_at o (x ∷ y ∷ xs) d le =
      let place : suc (length (y ∷ xs) - 1) ≡ length (x ∷ y ∷ xs) - 1 = omega arith in
      last_at (Some x) (y ∷ xs) d (omega arith) ∙ ap (λ (i : ℕ). Some (get_or (x ∷ y ∷ xs) i d)) place

  pub last_is : (xs : List X) (x : X) → 1 ≤ length xs → x ≡ get_or xs (length xs - 1) x → last_or None xs ≡ Some x
  last_is xs x le is = last_at None xs x le ∙ ap Some (sym is)

-- Whether each item of a list is so, one after another.
use Rattle.std.proofs.Common.{◌≡◌, ℕ, ◌+◌, ◌<◌, ◌≤◌, List, [], ◌∷◌, ◌++◌, length, get_or, take, sym, ap, subst, ◌∙◌}
use Rattle.std.specs.List.{All}
use Rattle.std.proofs.lemmas.List.{take_all, take_more}
use Rattle.std.proofs.lemmas.List.Elements.{All-push}

module _ {A : Type 0} (F : A → Type 0) (xs : List A) where
  pub each_more : (i : ℕ) (x : A) → i < length xs → x ≡ get_or xs i x → F x → All F (take i xs)
      → All F (take (i + 1) xs)
  each_more i x lt is f h =
      subst (λ l. All F l) (ap (λ z. take i xs ++ z ∷ []) is ∙ sym (take_more xs i x lt)) (All-push F (take i xs) x h f)

  pub each_all : (i : ℕ) → length xs ≤ i → All F (take i xs) → All F xs
  each_all i le h = subst (λ l. All F l) (take_all i xs le) h

  pub not_each : (i : ℕ) (x : A) → i < length xs → x ≡ get_or xs i x → (F x → ⊥) → All F xs → ⊥
  not_each i x lt is never h = never (subst F (sym is) (h i x lt))

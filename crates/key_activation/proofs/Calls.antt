-- What `reduce` answers where its closure computes a function.
use Rattle.std.proofs.Common.{◌≡◌, List, [], ◌∷◌, Option, Some, None, ap}
use Rattle.std.specs.Fn.{Called}
use Rattle.std.specs.Iterator.{Drains, FoldTurn, ReducesItems}
use Rattle.std.specs.List.{FoldsTo, reduce}
use Rattle.std.specs.Option.{MatchOption}
use Rattle.std.proofs.lemmas.Iterator.{YieldsList}
use Rattle.std.proofs.lemmas.Iterator.Consumers.{reduce_from_yields_List}
use denote.Param.Members.{Mut}

module _ {A F : Type 0} (g : Mut F (A × (A × Unit {0})) A) (f : A → A → A)
    (says : (p : F) (a b r : A) (q : F) → Called g p (a, (b, tt)) r q → r ≡ f a b) where
  folds : (p q : F) (a r : A) (xs : List A) → FoldsTo (FoldTurn g) (p, a) xs (q, r)
      → FoldsTo (λ b x c. c ≡ f b x) a xs r
  folds p q a r [] e = ap (λ (z : F × A). z.1) e
  folds p q a r (x ∷ xs) (j, called, others) = (j.1, says p a x j.1 j.0 called, folds j.0 q j.1 r xs others)

  reduces : {S : Type 0} (steps : S → Option A → S → Type 0) (s : S) (p : F) (r : Option A) → ReducesItems steps g s p r
      → MatchOption r (Drains steps s [])
      (λ y. (x : A) × (xs : List A) × Drains steps s (x ∷ xs) × FoldsTo (λ b z c. c ≡ f b z) x xs y)
  reduces steps s p None h = h
  reduces steps s p (Some y) (x, xs, q, drains, turns) = (x, xs, drains, folds p q x y xs turns)

pub reduce_is : {A F S : Type 0} {steps : S → Option A → S → Type 0} {g : Mut F (A × (A × Unit {0})) A} {all : List A}
    (f : A → A → A) (s : S) (p : F) (r : Option A) → ReducesItems steps g s p r
    → ((p : F) (a b r : A) (q : F) → Called g p (a, (b, tt)) r q → r ≡ f a b) → YieldsList steps (λ x. x) s all
    → r ≡ reduce f all
reduce_is {steps = steps} {g = g} f s p r ran says yields =
    reduce_from_yields_List f s r (reduces g f says steps s p r ran) yields

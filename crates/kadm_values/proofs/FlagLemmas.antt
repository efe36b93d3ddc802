-- What is found among the flags is what is found among their rows.
use Rattle.std.proofs.Common.{◌≡◌, Bool, true, false, cond, List, [], ◌∷◌, map, Option, Some, option_map, refl, ap}
use Rattle.std.specs.List.{filter, find}

find_step : {A B : Type 0} (f : A → B) (b : Bool) (x : A) (l : Option A) (r : Option B) → option_map f l ≡ r
    → option_map f (cond b (Some x) l) ≡ cond b (Some (f x)) r
find_step f true x l r e = refl
find_step f false x l r e = e

pub find-map : {A B : Type 0} (f : A → B) (p : B → Bool) (xs : List A)
    → option_map f (find (λ x. p (f x)) xs) ≡ find p (map f xs)
find-map f p [] = refl
find-map f p (x ∷ xs) = find_step f (p (f x)) x _ _ (find-map f p xs)

filter_step : {A B : Type 0} (f : A → B) (b : Bool) (x : A) (l : List A) (r : List B) → map f l ≡ r
    → map f (cond b (x ∷ l) l) ≡ cond b (f x ∷ r) r
filter_step f true x l r e = ap (λ ys. f x ∷ ys) e
filter_step f false x l r e = e

pub filter-map : {A B : Type 0} (f : A → B) (p : B → Bool) (xs : List A)
    → map f (filter (λ x. p (f x)) xs) ≡ filter p (map f xs)
filter-map f p [] = refl
filter-map f p (x ∷ xs) = filter_step f (p (f x)) x _ _ (filter-map f p xs)

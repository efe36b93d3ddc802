-- Lists whose items are seen by a function.
use Rattle.std.proofs.Common.{◌≡◌, ℕ, zero, suc, ◌<◌, Bool, true, false, cond, List, [], ◌∷◌, ◌++◌}
use Rattle.std.proofs.Common.{length, get_or, map, refl, sym, ap, subst, ◌∙◌, arith, Result, Ok, Err}
use Rattle.std.specs.Prelude.{◌||◌, OnErr, OnOk}
use Rattle.std.specs.List.{All, AllByRecursion, filter, list_any}
use Rattle.std.proofs.lemmas.List.{map-append}
use Rattle.std.proofs.lemmas.List.Elements.{All-append, All-push, recursion_from_All}

pub mapped_any : {X Y : Type 0} (p : Y → Bool) (f : X → Y) (xs : List X)
    → list_any (λ x. p (f x)) xs ≡ list_any p (map f xs)
mapped_any p f [] = refl
mapped_any p f (x ∷ xs) = ap (λ (b : Bool). p (f x) || b) (mapped_any p f xs)

pub mapped_filter : {X Y : Type 0} (p : Y → Bool) (f : X → Y) (xs : List X)
    → map f (filter (λ x. p (f x)) xs) ≡ filter p (map f xs)
mapped_filter p f [] = refl
mapped_filter p f (x ∷ xs) = by_test f x _ _ (p (f x)) (mapped_filter p f xs)
  where
    by_test : {X Y : Type 0} (f : X → Y) (x : X) (xs : List X) (ys : List Y) (b : Bool) → map f xs ≡ ys
        → map f (cond b (x ∷ xs) xs) ≡ cond b (f x ∷ ys) ys
    by_test {X} {Y} f x xs ys true e = ap (λ (zs : List Y). f x ∷ zs) e
    by_test f x xs ys false e = e

pub at_item : {X Y : Type 0} (P : Y → Type 0) (f : X → Y) (xs : List X) (i : ℕ) (x : X) → i < length xs
    → x ≡ get_or xs i x → All P (map f xs) → P (f x)
at_item P f xs i x lt is all = by_place P f xs i x lt is (recursion_from_All P (map f xs) all)
  where
    by_place : {X Y : Type 0} (P : Y → Type 0) (f : X → Y) (xs : List X) (i : ℕ) (x : X) → i < length xs
        → x ≡ get_or xs i x → AllByRecursion P (map f xs) → P (f x)
    by_place P f [] i x lt is all = absurd (omega arith)
    by_place P f (y ∷ ys) zero x lt is all = subst (λ z. P (f z)) (sym is) all.0
    by_place P f (y ∷ ys) (suc i) x lt is all = by_place P f ys i x (omega arith) is all.1

pub all_more : {X Y : Type 0} (P : Y → Type 0) (f : X → Y) (xs : List X) (x : X) → All P (map f xs) → P (f x)
    → All P (map f (xs ++ x ∷ []))
all_more P f xs x all one = subst (All P) (sym (map-append f xs (x ∷ []))) (All-push P (map f xs) (f x) all one)

-- others were moved behind, or nothing changed
pub all_moved : {X Y A E : Type 0} (P : Y → Type 0) (f : X → Y) (result : Result A E) (old more new : List X)
    → OnOk result (new ≡ old ++ more) → OnErr result (new ≡ old)
    → All P (map f old) → All P (map f more) → All P (map f new)
all_moved {X} P f (Ok x) old more new ok err first second =
    subst (All P) (sym (ap (map f) ok ∙ map-append f old more)) (All-append P (map f old) (map f more) first second)
all_moved {X} P f (Err fault) old more new ok err first second =
    subst (λ (xs : List X). All P (map f xs)) (sym err) first

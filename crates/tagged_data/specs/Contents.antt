-- Contents: readings of all of the bytes, and spellings that belong to them.
use Rattle.std.proofs.Common.{◌≡◌, ℕ, zero, suc, ◌<◌, ◌≤◌, Bool, true, cond, List, [], ◌∷◌, ◌++◌}
use Rattle.std.proofs.Common.{length, map, Option, Some, None, refl, ap, subst, ◌∙◌, arith}
use Rattle.std.specs.Prelude.{option_map, option_and_then, if◌then◌else◌}
use Rattle.std.specs.List.{All, AllByRecursion, flat_map}
use Rattle.std.proofs.lemmas.List.{length-append}
use Rattle.std.proofs.lemmas.List.Elements.{All-from_recursion, recursion_from_All}
use Rattle.std.proofs.lemmas.Option.{same_Some, cond_some}
use Rattle.kdb_base.specs.Versions.{AreRising}
use Rattle.kdb_format.specs.Readings.{Reading, whole}
use Rattle.kdb_format.specs.Fields.{IsBytes, IsField, rest_fits}
use Rattle.kdb_format.specs.Laws.{bind_some, whole_spelled, whole_again}
use Rattle.tagged_data.specs.Rising.{rising_from, rising_is, is_rising}

-- What is read is spelled so, and fits. What fits and is spelled so is read.
pub record IsContent {A : Type 0} (read : List ℕ → Option A) (spelling : A → List ℕ) (Fits : A → Type 0) : Type 0 where
  pub spelled : (bytes : List ℕ) (x : A) → IsBytes bytes → read bytes ≡ Some x → bytes ≡ spelling x
  pub fits : (bytes : List ℕ) (x : A) → IsBytes bytes → read bytes ≡ Some x → Fits x
  pub again : (x : A) → Fits x → read (spelling x) ≡ Some x

-- one value
pub whole_content : {A : Type 0} {read : Reading A} {s : A → List ℕ} {F : A → Type 0} → IsField read s F
    → IsContent (whole read) s F
whole_content field = record {
  spelled = λ bytes x fits e. (whole_spelled field bytes x fits e).0;
  fits = λ bytes x fits e. (whole_spelled field bytes x fits e).1;
  again = λ x f. whole_again field x f;
}

-- items to the end of the bytes, at most this many
unfoldable pub items_within : {A : Type 0} → Reading A → ℕ → List ℕ → Option (List A)
items_within item most [] = Some []
items_within item zero (b ∷ bytes) = None
items_within item (suc most) (b ∷ bytes) =
    option_and_then (λ x. option_map (λ xs. x.0 ∷ xs) (items_within item most x.1)) (item (b ∷ bytes))

-- Items to the end of the bytes. Each takes a byte at least, so there are no more items than bytes.
unfoldable pub items_of : {A : Type 0} → Reading A → List ℕ → Option (List A)
items_of item bytes = items_within item (length bytes) bytes

pub map_some : {A B : Type 0} (f : A → B) (o : Option A) (y : B) → option_map f o ≡ Some y
    → (x : A) × (o ≡ Some x) × (f x ≡ y)
map_some f None y e = absurd cc
map_some f (Some x) y e = (x, refl, same_Some (f x) y e)

within_taken : {A : Type 0} {item : Reading A} {s : A → List ℕ} {F : A → Type 0} → IsField item s F
    → (most : ℕ) (bytes : List ℕ) (xs : List A) → IsBytes bytes
    → items_within item most bytes ≡ Some xs → (bytes ≡ flat_map s xs) × AllByRecursion F xs
unfolding items_within
within_taken {A = A} {s = s} {F = F} field most [] xs fits e =
    subst (λ (ys : List A). ([] ≡ flat_map s ys) × AllByRecursion F ys) (same_Some [] xs e) (refl, tt)
within_taken field zero (b ∷ bytes) xs fits e = absurd cc
within_taken {A = A} {item = item} {s = s} {F = F} field (suc most) (b ∷ bytes) xs fits e =
    let a = bind_some (λ (x : A × List ℕ). option_map (λ (ys : List A). x.0 ∷ ys) (items_within item most x.1))
    (item (b ∷ bytes)) xs e in
    let c = map_some (λ (ys : List A). a.0.0 ∷ ys) (items_within item most a.0.1) xs a.2 in
    let others = within_taken field most a.0.1 c.0 (rest_fits field (b ∷ bytes) a.0.0 a.0.1 fits a.1) c.1 in
    subst (λ (ys : List A). ((b ∷ bytes) ≡ flat_map s ys) × AllByRecursion F ys) c.2 (
      field.spelled (b ∷ bytes) a.0.0 a.0.1 fits a.1 ∙ ap (λ (t : List ℕ). s a.0.0 ++ t) others.0,
      (field.fits (b ∷ bytes) a.0.0 a.0.1 fits a.1, others.1),
    )

-- a value at the front of bytes, which are not none
pub front_step : {A : Type 0} (item : Reading A) (most : ℕ) (bytes : List ℕ) (x : A) (rest : List ℕ) → 0 < length bytes
    → item bytes ≡ Some (x, rest)
    → items_within item (suc most) bytes ≡ option_map (λ xs. x ∷ xs) (items_within item most rest)
unfolding items_within
front_step item most [] x rest lt e = absurd (omega arith)
front_step {A = A} item most (b ∷ bytes) x rest lt e = ap (λ (o : Option (A × List ℕ)).
    option_and_then (λ (y : A × List ℕ). option_map (λ (ys : List A). y.0 ∷ ys) (items_within item most y.1)) o) e

-- no value at the front
pub no_front_step : {A : Type 0} (item : Reading A) (most : ℕ) (bytes : List ℕ) → 0 < length bytes → item bytes ≡ None
    → items_within item (suc most) bytes ≡ None
unfolding items_within
no_front_step item most [] lt e = absurd (omega arith)
no_front_step {A = A} item most (b ∷ bytes) lt e = ap (λ (o : Option (A × List ℕ)).
    option_and_then (λ (y : A × List ℕ). option_map (λ (ys : List A). y.0 ∷ ys) (items_within item most y.1)) o) e

within_again : {A : Type 0} {item : Reading A} {s : A → List ℕ} {F : A → Type 0} → IsField item s F
    → ((x : A) → F x → 0 < length (s x))
    → (most : ℕ) (xs : List A) → length (flat_map s xs) ≤ most → AllByRecursion F xs
    → items_within item most (flat_map s xs) ≡ Some xs
unfolding items_within
within_again field some zero [] le f = refl
within_again field some (suc most) [] le f = refl
within_again {s = s} field some zero (x ∷ xs) le f =
    let lt = some x f.0 in absurd (omega (arith, length-append (s x) (flat_map s xs)))
within_again {A = A} {item = item} {s = s} field some (suc most) (x ∷ xs) le f =
    let lt = some x f.0 in
    let len = length-append (s x) (flat_map s xs) in
    front_step item most (s x ++ flat_map s xs) x (flat_map s xs) (omega arith) (field.again x (flat_map s xs) f.0)
    ∙ ap (option_map (λ (ys : List A). x ∷ ys)) (within_again field some most xs (omega arith) f.1)

-- items to the end of the bytes
pub items_content : {A : Type 0} {item : Reading A} {s : A → List ℕ} {F : A → Type 0} → IsField item s F
    → ((x : A) → F x → 0 < length (s x))
    → IsContent (items_of item) (flat_map s) (All F)
unfolding items_of
items_content {s = s} {F = F} field some = record {
  spelled = λ bytes xs fits e. (within_taken field (length bytes) bytes xs fits e).0;
  fits = λ bytes xs fits e. All-from_recursion F xs (within_taken field (length bytes) bytes xs fits e).1;
  again = λ xs f. within_again field some (length (flat_map s xs)) xs (omega arith) (recursion_from_All F xs f);
}

-- the same reading, where what fits is said by another name
pub same_content : {A : Type 0} {read : List ℕ → Option A} {s : A → List ℕ} {F G : A → Type 0} → IsContent read s F
    → ((x : A) → F x → G x) → ((x : A) → G x → F x) → IsContent read s G
same_content content to from = record {
  spelled = λ bytes x fits e. content.spelled bytes x fits e;
  fits = λ bytes x fits e. to x (content.fits bytes x fits e);
  again = λ x f. content.again x (from x f);
}

-- a value that passes a test
pub checked_content : {A : Type 0} {read : List ℕ → Option A} {s : A → List ℕ} {F : A → Type 0} (test : A → Bool)
    → IsContent read s F
    → IsContent (λ bytes. option_and_then (λ x. if test x then Some x else None) (read bytes)) s
    (λ x. F x × (test x ≡ true))
checked_content {A = A} {read = read} {s = s} {F = F} test content =
    let taken : (bytes : List ℕ) (x : A) → IsBytes bytes
    → option_and_then (λ (y : A). cond (test y) (Some y) None) (read bytes) ≡ Some x
    → (bytes ≡ s x) × (F x × (test x ≡ true)) = λ bytes x fits e.
    let a = bind_some (λ (y : A). cond (test y) (Some y) None) (read bytes) x e in
    let g = cond_some (test a.0) a.0 x a.2 in
    subst (λ (y : A). (bytes ≡ s y) × (F y × (test y ≡ true))) g.1
    (content.spelled bytes a.0 fits a.1, (content.fits bytes a.0 fits a.1, g.0)) in
    record {
      spelled = λ bytes x fits e. (taken bytes x fits e).0;
      fits = λ bytes x fits e. (taken bytes x fits e).1;
      again = λ x f.
          ap (option_and_then (λ (y : A). cond (test y) (Some y) None)) (content.again x f.0)
          ∙ ap (λ (b : Bool). cond b (Some x) None) f.1;
    }

-- values whose numbers rise
unfoldable pub in_order : {A : Type 0} → (A → ℕ) → (List ℕ → Option (List A)) → List ℕ → Option (List A)
in_order number read bytes =
    option_and_then (λ xs. if rising_from 0 (map number xs) then Some xs else None) (read bytes)

pub in_order_content : {A : Type 0} {read : List ℕ → Option (List A)} {s : List A → List ℕ} {F : List A → Type 0}
    (number : A → ℕ) → IsContent read s F
    → IsContent (in_order number read) s (λ xs. F xs × AreRising (map number xs))
unfolding in_order
in_order_content number content = same_content (checked_content (λ xs. rising_from 0 (map number xs)) content)
    (λ xs f. (f.0, rising_is _ f.1))
    (λ xs f. (f.0, is_rising _ f.1))

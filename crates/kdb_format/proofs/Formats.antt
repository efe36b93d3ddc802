-- What the answer of a function that reads a format says.
use Rattle.std.proofs.Common.{◌≡◌, ℕ, ◌≤◌, List, ◌++◌, length, Option, Some}
use Rattle.std.proofs.Common.{Result, Ok, Err, ap, subst, refl, ◌∙◌, inl, inr}
use Rattle.std.specs.Prelude.{IfOk}
use Rattle.std.proofs.lemmas.Bool.{cases_lt}
use Rattle.std.proofs.lemmas.List.{get_or_append_left, get_or-append_right}
use Rattle.kdb_format.specs.declared.faults.FormatFault.{FormatFault}
use Rattle.kdb_format.specs.declared.faults.FormatFault.TheVariants as faults
use Rattle.kdb_format.specs.Answers.{Finds, Gives}
use Rattle.kdb_format.specs.Readings.{Reading, whole}
use Rattle.kdb_format.specs.Fields.{IsAtMost, IsBytes, IsField, with_more, read_in_front}
use Rattle.kdb_format.specs.Laws.{whole_spelled, whole_again}

-- what was found is spelled so
pub whole_found : {A : Type 0} {read : Reading A} {s : A → List ℕ} {F : A → Type 0} → IsField read s F
    → (bytes : List ℕ) (r : Result A FormatFault) → IsBytes bytes
    → Finds r (whole read bytes) → IfOk r (λ x. (bytes ≡ s x) × F x)
whole_found field bytes (Ok x) fits given = whole_spelled field bytes x fits given
whole_found field bytes (Err e) fits given = tt

-- what is spelled so is found
pub whole_only : {A : Type 0} {read : Reading A} {s : A → List ℕ} {F : A → Type 0} → IsField read s F
    → (bytes : List ℕ) (r : Result A FormatFault)
    → Finds r (whole read bytes) → (x : A) → F x → bytes ≡ s x → Finds r (Some x)
whole_only {read = read} field bytes r given x f e = subst (Finds r) (ap (whole read) e ∙ whole_again field x f) given

-- what was read is spelled so
pub next_found : {A : Type 0} {read : Reading A} {s : A → List ℕ} {F : A → Type 0} → IsField read s F
    → (bytes left : List ℕ) (r : Result A FormatFault) → IsBytes bytes
    → Gives r left (read bytes) → IfOk r (λ x. (bytes ≡ s x ++ left) × F x)
next_found field bytes left (Ok x) fits given =
    (field.spelled bytes x left fits given, field.fits bytes x left fits given)
next_found field bytes left (Err e) fits given = tt

IsBytes-append : (xs ys : List ℕ) → IsBytes xs → IsBytes ys → IsBytes (xs ++ ys)
IsBytes-append xs ys fx fy i =
    elim (cases_lt i (length xs)) [
      | inl lt ↦ rw (get_or_append_left xs ys 0 i lt) (fx i)
      | inr le ↦ rw (get_or-append_right xs ys (length xs) i 0 refl le) (fy _)
    ]

gives_more : {A : Type 0} (r : Result A FormatFault) (left more : List ℕ) (o : Option (A × List ℕ)) → Gives r left o
    → Gives r (left ++ more) (with_more more o)
gives_more (Ok x) left more o given = ap (with_more more) given
gives_more (Err faults.Malformed) left more o given = ap (with_more more) given
gives_more (Err faults.MemoryOut) left more o given = tt

-- what was read in a window is what is read in all of the bytes
pub next_window : {A : Type 0} {read : Reading A} {s : A → List ℕ} {F : A → Type 0} → IsField read s F
    → (bytes left : List ℕ) (r : Result A FormatFault) → IsBytes bytes
    → Gives r left (read bytes) → (longest : ℕ) (more : List ℕ) → IsAtMost longest s F → IsBytes more
    → longest ≤ length bytes
    → Gives r (left ++ more) (read (bytes ++ more))
next_window {read = read} field bytes left r fits given longest more most more_fits le =
    rw (read_in_front field longest most bytes more (IsBytes-append bytes more fits more_fits) le)
    (gives_more r left more (read bytes) given)

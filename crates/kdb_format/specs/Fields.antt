-- A field: a reading and a spelling that belong together.
use Rattle.std.proofs.Common.{◌≡◌, ℕ, ◌+◌, ◌<◌, ◌≤◌, List, ◌++◌, length, take, drop, Option, Some}
use Rattle.std.proofs.Common.{None, refl, sym, ap, subst, ◌∙◌, append_assoc, arith, ◌⊎◌, inl, inr}
use Rattle.std.specs.Prelude.{slice_index, option_map}
use Rattle.std.proofs.lemmas.Bool.{cases_lt}
use Rattle.std.proofs.lemmas.List.{get_or_append_left, get_or-append-add, get_or_past}
use Rattle.std.proofs.lemmas.List.{take_at, take-append-le, take-append-drop}
use Rattle.kdb_format.specs.Readings.{Reading}

-- each is below 256
abbrev pub IsBytes : List ℕ → Type 0
IsBytes bytes = (i : ℕ) → slice_index bytes i < 256

-- What is read is spelled so, and fits. What fits and is spelled so is read, whatever follows.
pub record IsField {A : Type 0} (read : Reading A) (spelling : A → List ℕ) (Fits : A → Type 0) : Type 0 where
  pub spelled : (bytes : List ℕ) (x : A) (rest : List ℕ) → IsBytes bytes → read bytes ≡ Some (x, rest)
      → bytes ≡ spelling x ++ rest
  pub fits : (bytes : List ℕ) (x : A) (rest : List ℕ) → IsBytes bytes → read bytes ≡ Some (x, rest) → Fits x
  pub again : (x : A) (rest : List ℕ) → Fits x → read (spelling x ++ rest) ≡ Some (x, rest)

-- ---- bytes

pub IsBytes-front : (xs ys : List ℕ) → IsBytes (xs ++ ys) → IsBytes xs
IsBytes-front xs ys h i =
    elim (cases_lt i (length xs)) [
      | inl lt ↦ rw (← get_or_append_left xs ys 0 i lt) (h i)
      | inr le ↦ rw (get_or_past xs i 0 le) (omega arith)
    ]

pub IsBytes-back : (xs ys : List ℕ) → IsBytes (xs ++ ys) → IsBytes ys
IsBytes-back xs ys h i = rw (← get_or-append-add xs ys i 0) (h (length xs + i))

pub IsBytes-take : (n : ℕ) (bytes : List ℕ) → IsBytes bytes → IsBytes (take n bytes)
IsBytes-take n bytes h = IsBytes-front (take n bytes) (drop n bytes) (rw (take-append-drop n bytes) h)

-- ---- what follows from the laws of a field

-- what is read from a front, with more bytes behind it
abbrev pub with_more : {A : Type 0} → List ℕ → Option (A × List ℕ) → Option (A × List ℕ)
with_more more read = option_map (λ x. (x.0, x.1 ++ more)) read

-- no spelling is longer than n bytes
abbrev pub IsAtMost : {A : Type 0} → ℕ → (A → List ℕ) → (A → Type 0) → Type 0
IsAtMost {A} n spelling Fits = (x : A) → Fits x → length (spelling x) ≤ n

-- the rest of what is read
pub rest_fits : {A : Type 0} {read : Reading A} {spelling : A → List ℕ} {Fits : A → Type 0} → IsField read spelling Fits
    → (bytes : List ℕ) (x : A) (rest : List ℕ) → IsBytes bytes → read bytes ≡ Some (x, rest) → IsBytes rest
rest_fits {spelling = spelling} field bytes x rest fits e =
    IsBytes-back (spelling x) rest (subst IsBytes (field.spelled bytes x rest fits e) fits)

-- a value that was read from a front is read from all of the bytes
pub read_more : {A : Type 0} {read : Reading A} {spelling : A → List ℕ} {Fits : A → Type 0} → IsField read spelling Fits
    → (held more : List ℕ) (x : A) (rest : List ℕ) → IsBytes held → read held ≡ Some (x, rest)
    → read (held ++ more) ≡ Some (x, rest ++ more)
read_more {read = read} {spelling = spelling} field held more x rest fits e =
    let parts : held ++ more ≡ spelling x ++ (rest ++ more) =
    ap (λ (b : List ℕ). b ++ more) (field.spelled held x rest fits e) ∙ append_assoc (spelling x) rest more in
    ap read parts ∙ field.again x (rest ++ more) (field.fits held x rest fits e)

-- a value whose spelling is no longer than a front is read from the front
pub read_less : {A : Type 0} {read : Reading A} {spelling : A → List ℕ} {Fits : A → Type 0} → IsField read spelling Fits
    → (held more : List ℕ) (x : A) (rest : List ℕ) → IsBytes (held ++ more) → length (spelling x) ≤ length held
    → read (held ++ more) ≡ Some (x, rest)
    → read held ≡ Some (x, drop (length (spelling x)) held)
read_less {read = read} {spelling = spelling} field held more x rest fits le e =
    let parts = field.spelled (held ++ more) x rest fits e in
    let n = length (spelling x) in
    let front : take n held ≡ spelling x =
    sym (take-append-le n held more le) ∙ ap (take n) parts ∙ take_at (spelling x) rest n refl in
    let whole : held ≡ spelling x ++ drop n held =
    sym (take-append-drop n held) ∙ ap (λ (b : List ℕ). b ++ drop n held) front in
    ap read whole ∙ field.again x (drop n held) (field.fits (held ++ more) x rest fits e)

-- a value or none, with the equation
cases : {A : Type 0} (o : Option A) → (o ≡ None) ⊎ ((x : A) × (o ≡ Some x))
cases None = inl refl
cases (Some x) = inr (x, refl)

-- where enough bytes are held for any value, reading them is reading all of the bytes
pub read_in_front : {A : Type 0} {read : Reading A} {spelling : A → List ℕ} {Fits : A → Type 0}
    → IsField read spelling Fits
    → (n : ℕ) → IsAtMost n spelling Fits → (held more : List ℕ) → IsBytes (held ++ more) → n ≤ length held
    → read (held ++ more) ≡ with_more more (read held)
read_in_front {A = A} {read = read} {spelling = spelling} field n most held more fits le =
    elim (cases (read held)) [
      | inr found ↦ read_more field held more found.0.0 found.0.1 (IsBytes-front held more fits) found.1
          ∙ sym (ap (with_more more) found.1)
      | inl none ↦
          elim (cases (read (held ++ more))) [
            | inl none_of_all ↦ none_of_all ∙ sym (ap (with_more more) none)
            | inr found ↦
                let le_held = most found.0.0 (field.fits (held ++ more) found.0.0 found.0.1 fits found.1) in
                let here = read_less field held more found.0.0 found.0.1 fits (omega arith) found.1 in
                absurd cc
          ]
    ]

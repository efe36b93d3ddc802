-- What a function that reads answers.
use Rattle.std.specs.Prelude.{◌≡◌, ℕ, List, Option, Some, None, Result, Ok, Err}
use Rattle.kdb_format.specs.declared.faults.Malformed.{Malformed}
use Rattle.kdb_format.specs.declared.faults.FormatFault.{FormatFault}
use Rattle.kdb_format.specs.declared.faults.FormatFault.TheVariants as faults

-- What was returned, seen by view, and the bytes that are left are what the reading gives.
abbrev pub ReadsAs : {X A : Type 0} → (X → A) → Result X Malformed → List ℕ → Option (A × List ℕ) → Type 0
ReadsAs view (Ok x) left read = read ≡ Some (view x, left)
ReadsAs view (Err e) left read = read ≡ None

abbrev pub Reads : {A : Type 0} → Result A Malformed → List ℕ → Option (A × List ℕ) → Type 0
Reads result left read = ReadsAs (λ x. x) result left read

-- there is no value, unless memory ran out
abbrev pub Refuses : {A : Type 0} → FormatFault → Option A → Type 0
Refuses faults.Malformed read = read ≡ None
Refuses faults.MemoryOut read = Unit {0}

-- What was returned, seen by view, and the bytes that are left are what the reading gives, unless memory ran out.
abbrev pub GivesAs : {X A : Type 0} → (X → A) → Result X FormatFault → List ℕ → Option (A × List ℕ) → Type 0
GivesAs view (Ok x) left read = read ≡ Some (view x, left)
GivesAs view (Err e) left read = Refuses e read

abbrev pub Gives : {A : Type 0} → Result A FormatFault → List ℕ → Option (A × List ℕ) → Type 0
Gives result left read = GivesAs (λ x. x) result left read

-- What was returned is the value that was found, unless memory ran out.
abbrev pub Finds : {A : Type 0} → Result A FormatFault → Option A → Type 0
Finds (Ok x) found = found ≡ Some x
Finds (Err e) found = Refuses e found

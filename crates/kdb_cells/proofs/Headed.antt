-- Reading the first unit of a file.
use Rattle.std.proofs.Common.{◌≡◌, ℕ, ◌<◌, Bool, true, false, cond, ltb, eqb, List, length}
use Rattle.std.proofs.Common.{take, drop, Option, Some, None, refl, sym, ap, ◌∙◌, arith}
use Rattle.std.specs.Prelude.{option_and_then}
use Rattle.std.specs.List.{list_all}
use Rattle.std.proofs.lemmas.Bool.{le-ltb, lt-ltb}
use Rattle.std.proofs.lemmas.List.{take_all}
use Rattle.kdb_format.specs.declared.faults.FormatFault.{FormatFault}
use Rattle.kdb_format.specs.declared.faults.FormatFault.TheVariants as faults
use Rattle.kdb_format.specs.Answers.{Refuses}
use Rattle.kdb_format.specs.Readings.{padded, known, bytes_at}
use Rattle.kdb_cells.specs.Cells.{unit_size, front_of}
use Rattle.kdb_cells.specs.Sheets.{heading_at, realm_in, unit_bytes}
use Rattle.kdb_cells.specs.Scanning.{heading_of}

-- what was read, where zeros alone stand behind it
abbrev with_zeros : Option (List ℕ × List ℕ) → Option (List ℕ)
with_zeros read = option_and_then (λ (x : List ℕ × List ℕ). cond (list_all (λ b. eqb b 0) x.1) (Some x.0) None) read

front_known : (o : Option (List ℕ)) (rest : List ℕ) → front_of (known o rest) ≡ o
front_known None rest = refl
front_known (Some c) rest = refl

heading_is : (format : ℕ) (bytes : List ℕ) → length bytes ≡ unit_size format
    → heading_of format bytes ≡ with_zeros (heading_at format bytes)
unfolding heading_of padded bytes_at
heading_is format bytes long =
    let enough : ltb (length bytes) (unit_size format) ≡ false =
    le-ltb (length bytes) (unit_size format) (omega (arith, long)) in
    let all : take (unit_size format) bytes ≡ bytes = take_all (unit_size format) bytes (omega (arith, long)) in
    rw (enough, all) (front_known (with_zeros (heading_at format bytes)) (drop (unit_size format) bytes))

pub no_heading : (e : FormatFault) (format : ℕ) (bytes : List ℕ) → length bytes ≡ unit_size format
    → Refuses e (heading_at format bytes) → Refuses e (heading_of format bytes)
no_heading faults.MemoryOut format bytes long none = tt
no_heading faults.Malformed format bytes long none = heading_is format bytes long ∙ ap with_zeros none

pub heading_found : (format : ℕ) (bytes rest left realm : List ℕ) (b : Bool) → length bytes ≡ unit_size format
    → heading_at format bytes ≡ Some (realm, rest) → left ≡ rest → list_all (λ b. eqb b 0) left ≡ b
    → heading_of format bytes ≡ cond b (Some realm) None
heading_found format bytes rest left realm b long e same test =
    heading_is format bytes long ∙ ap with_zeros e
    ∙ ap (λ (l : List ℕ). cond (list_all (λ b. eqb b 0) l) (Some realm) None) (sym same)
    ∙ ap (λ (t : Bool). cond t (Some realm) None) test

-- a unit that is not whole names no realm
pub short_heading : (format : ℕ) (bytes : List ℕ) → length bytes < unit_size format → heading_of format bytes ≡ None
unfolding heading_of padded bytes_at
short_heading format bytes short =
    let less : ltb (length bytes) (unit_size format) ≡ true = lt-ltb (length bytes) (unit_size format) short in
    rw less refl

pub realm_heading : (format : ℕ) (file : List ℕ) → realm_in format file ≡ heading_of format (unit_bytes format 0 file)
unfolding realm_in heading_of
realm_heading format file = refl

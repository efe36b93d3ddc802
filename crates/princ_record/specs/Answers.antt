-- What a function that decodes answers.
use Rattle.std.specs.Prelude.{◌≡◌, Option, Some, None, Result, Ok, Err}
use Rattle.kdb_format.specs.declared.faults.FormatFault.{FormatFault}
use Rattle.kdb_format.specs.declared.faults.FormatFault.TheVariants as format
use Rattle.princ_record.specs.declared.faults.RowFault.{RowFault}
use Rattle.princ_record.specs.declared.faults.RowFault.TheVariants as faults

-- a fault of a format, where a record is read
abbrev pub fault_of : FormatFault → RowFault
fault_of format.Malformed = faults.BadRecord
fault_of format.MemoryOut = faults.MemoryOut

-- there is no value, unless memory ran out
abbrev pub Refuses : {A : Type 0} → RowFault → Option A → Type 0
Refuses faults.BadRecord found = found ≡ None
Refuses faults.MemoryOut found = Unit {0}

-- what was returned is the value that was found, unless memory ran out
abbrev pub Finds : {A : Type 0} → Result A RowFault → Option A → Type 0
Finds (Ok x) found = found ≡ Some x
Finds (Err e) found = Refuses e found

-- What a function that reads answers.
use Rattle.std.specs.Prelude.{◌≡◌, Option, Some, None, Result, Ok, Err}
use Rattle.kdb_format.specs.declared.faults.FormatFault.{FormatFault}
use Rattle.kdb_format.specs.declared.faults.FormatFault.TheVariants as format
use Rattle.kdb_format.specs.Answers.{Refuses as FormatRefuses}
use Rattle.tagged_data.specs.declared.faults.TagFault.{TagFault}
use Rattle.tagged_data.specs.declared.faults.TagFault.TheVariants as faults

-- a fault of a format, where a tagged list is read
abbrev pub fault_of : FormatFault → TagFault
fault_of format.Malformed = faults.BadTagged
fault_of format.MemoryOut = faults.MemoryOut

-- there is no value, unless memory ran out
abbrev pub Refuses : {A : Type 0} → TagFault → Option A → Type 0
Refuses faults.BadTagged found = found ≡ None
Refuses faults.MemoryOut found = Unit {0}

-- what was returned is the value that was found, unless memory ran out
abbrev pub Finds : {A : Type 0} → Result A TagFault → Option A → Type 0
Finds (Ok x) found = found ≡ Some x
Finds (Err e) found = Refuses e found

-- the same of a reader of a format, whose result is seen by view
abbrev pub FindsAs : {X A : Type 0} → (X → A) → Result X FormatFault → Option A → Type 0
FindsAs view (Ok x) found = found ≡ Some (view x)
FindsAs view (Err e) found = FormatRefuses e found

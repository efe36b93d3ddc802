-- What the control file is answered by.
use Rattle.std.specs.Prelude.{◌≡◌, Result, Ok, Err}
use Rattle.kdb_control.specs.declared.force.Force.{Force}
use Rattle.kdb_control.specs.declared.force.Force.TheVariants.{Nothing, Is, Broken}
use Rattle.kdb_control.specs.declared.reading.ControlStop.{ControlStop}
use Rattle.kdb_control.specs.declared.reading.ControlStop.TheVariants.{NotADatabase, Damaged, DiskFault}
use Rattle.kdb_control.specs.Choice.{Choice}

-- the answer is what is in force, unless the disk failed
abbrev pub Answers : Result Choice ControlStop → Force → Type 0
Answers (Ok choice) force = force ≡ Is choice
Answers (Err NotADatabase) force = force ≡ Nothing
Answers (Err (Damaged file place)) force = (file ≡ 0) × (force ≡ Broken place)
Answers (Err DiskFault) force = Unit {0}

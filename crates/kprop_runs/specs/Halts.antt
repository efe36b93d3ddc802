-- How a replica's run ends early, and its status.
use Rattle.std.specs.Prelude.{Bool, true, false, Result, Ok, Err, ⊤}
use Rattle.kdb_base.specs.declared.outcomes.Halt.{Halt}
use Rattle.kdb_base.specs.declared.outcomes.Halt.TheVariants as disk
use Rattle.kdb_base.specs.declared.outcomes.Status.{Status}
use Rattle.kdb_base.specs.declared.outcomes.Status.TheVariants as status
use Rattle.kprop_rounds.specs.declared.words.RoundHalt.{RoundHalt}
use Rattle.kprop_rounds.specs.declared.words.RoundHalt.TheVariants as round
use Rattle.kprop_runs.specs.declared.halts.RunHalt.{RunHalt}
use Rattle.kprop_runs.specs.declared.halts.RunHalt.TheVariants as run

abbrev pub round_as_run : RoundHalt → RunHalt
round_as_run round.MemoryOut = run.MemoryOut
round_as_run round.DiskFault = run.DiskFault
round_as_run round.LinkFault = run.LinkFault
round_as_run round.InputTooLong = run.InputTooLong

abbrev pub disk_as_run : Halt → RunHalt
disk_as_run disk.MemoryOut = run.MemoryOut
disk_as_run disk.DiskFault = run.DiskFault

-- how the writing of a text may be stopped
abbrev pub IsSayHalt : RunHalt → Type 0
IsSayHalt run.MemoryOut = Unit {0}
IsSayHalt run.WriteFault = Unit {0}
IsSayHalt other = ⊥

abbrev pub status_of : RunHalt → Status
status_of run.MemoryOut = status.MemoryOut
status_of run.WriteFault = status.WriteFault
status_of run.DiskFault = status.DiskFault
status_of run.LinkFault = status.LinkFault
status_of run.InputTooLong = status.InputTooLong

-- of a run that went through, by whether a refusal was written, or was stopped
abbrev pub status_after : Result Bool RunHalt → Status
status_after (Ok true) = status.Refused
status_after (Ok false) = status.Done
status_after (Err halt) = status_of halt

-- a fact of a run that went through, by whether a refusal was written
abbrev pub OnEnd : Status → (Bool → Type 0) → Type 0
OnEnd status.Done P = P false
OnEnd status.Refused P = P true
OnEnd _ P = ⊤

-- a fact of a run that was stopped
abbrev pub OnStop : Status → Type 0 → Type 0
OnStop status.Done P = ⊤
OnStop status.Refused P = ⊤
OnStop _ P = P

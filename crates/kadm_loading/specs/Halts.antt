-- Why a load ended early.
use Rattle.session_base.specs.declared.halts.SessionHalt.{SessionHalt}
use Rattle.session_base.specs.declared.halts.SessionHalt.TheVariants.{MemoryOut, WriteFault, DiskFault}

-- neither the sink nor the disk failed
abbrev pub SparesOutput : SessionHalt → Type 0
SparesOutput WriteFault = ⊥
SparesOutput DiskFault = ⊥
SparesOutput other = Unit {0}

-- how it may be stopped once the input was read
abbrev pub IsLoadingHalt : SessionHalt → Type 0
IsLoadingHalt MemoryOut = Unit {0}
IsLoadingHalt WriteFault = Unit {0}
IsLoadingHalt DiskFault = Unit {0}
IsLoadingHalt other = ⊥

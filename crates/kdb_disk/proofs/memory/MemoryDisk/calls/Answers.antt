use Rattle.std.proofs.Common.{rules}
use Rattle.kdb_disk.specs.Memory.{view_of}
use Rattle.kdb_disk.proofs.memory.MemoryDisk.calls.Goals as goal

pub returns : goal.returns
unfolding view_of
returns c = search rules

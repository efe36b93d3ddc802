use Rattle.std.proofs.Common.{◌∙◌}
use Rattle.kdb_disk.specs.Memory.{view_of}
use Rattle.kdb_disk.proofs.memory.MemoryDisk.bytes.Goals as goal

pub returns : goal.returns
unfolding view_of
returns c = c.file_at.ensures ∙ c.args.self.now.kept.reads c.args.file

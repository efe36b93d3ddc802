use Rattle.std.proofs.Common.{length, ap, ◌∙◌}
use Rattle.kdb_disk.specs.Files.{Files}
use Rattle.kdb_disk.proofs.memory.MemoryDiskDisk.length.Goals as goal

pub returns-in-Ok-clause-value : goal.returns-in-Ok-clause-value
returns-in-Ok-clause-value c =
    ap length (c.bytes.ensures ∙ ap (λ (files : Files). files c.args.file) c.look.ensures.looks.seen)

use Rattle.std.proofs.Common.{◌≡◌, ◌<◌, ℕ, length}
use Rattle.kdb_disk.specs.Memory.{contents}
use Rattle.kdb_disk.proofs.memory.copy_files.Given as goal

abbrev pub invariant-loop-file : goal.invariant-loop-file
invariant-loop-file l = record {
  long : length l.copy.items ≡ l.file-index;
  same : (f : ℕ) → f < l.file-index → contents l.copy.items f ≡ contents l.files.items f;
}

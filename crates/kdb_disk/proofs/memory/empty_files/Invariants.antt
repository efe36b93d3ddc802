use Rattle.std.proofs.Common.{◌≡◌, ◌<◌, ℕ, [], length}
use Rattle.kdb_disk.specs.Memory.{contents}
use Rattle.kdb_disk.proofs.memory.empty_files.Given as goal

abbrev pub invariant-loop : goal.invariant-loop
invariant-loop l = record {
  long : length l.files.items ≡ l.counter;
  empty : (f : ℕ) → f < l.counter → contents l.files.items f ≡ [];
}

use Rattle.std.proofs.Common.{◌≡◌, ◌<◌, ◌-◌, ℕ, length, drop}
use Rattle.kdb_disk.specs.Memory.{contents, file_after}
use Rattle.kdb_disk.specs.Inside.{IsPicked}
use Rattle.kdb_disk.proofs.memory.MemoryDisk.image_at.Given as goal

abbrev pub invariant-loop-file : goal.invariant-loop-file
invariant-loop-file l = record {
  long : length l.files.items ≡ l.file;
  picked : (f : ℕ) → f < l.file → IsPicked l.pick (file_after (contents l.self.start.items)
      (drop (length l.self.calls.items - l.count) l.self.calls.items) f) (contents l.files.items f);
}

use Rattle.std.proofs.Common.{◌≡◌, ◌-◌, length, drop}
use Rattle.kdb_disk.specs.Files.{Files}
use Rattle.kdb_disk.specs.Memory.{file_after}
use Rattle.kdb_disk.specs.Replays.{pending_of}
use Rattle.kdb_disk.proofs.replay.redo.Given as goal

abbrev pub invariant-loop-done : goal.invariant-loop-done
invariant-loop-done l = (starts : Files) → starts l.file ≡ l.start
    → pending_of l.replay ≡ file_after starts (drop (length l.calls.items - l.done) l.calls.items) l.file

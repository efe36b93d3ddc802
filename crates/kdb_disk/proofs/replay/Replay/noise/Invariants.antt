use Rattle.std.proofs.Common.{◌≡◌, ◌<◌, ℕ, length, get_or}
use Rattle.kdb_disk.specs.Memory.{IsApart}
use Rattle.kdb_disk.proofs.replay.Replay.noise.Given as goal

abbrev pub invariant-loop-place : goal.invariant-loop-place
invariant-loop-place l = record {
  long : length l.bytes.items ≡ l.place;
  stays : (i : ℕ) → i < l.place → i < l.self.least → IsApart i l.self.ranges.items
      → get_or l.bytes.items i 0 ≡ get_or l.self.base.items i 0;
  free : (i : ℕ) → i < l.place → (i < l.self.least → IsApart i l.self.ranges.items → ⊥)
      → get_or l.bytes.items i 0 ≡ 165;
}

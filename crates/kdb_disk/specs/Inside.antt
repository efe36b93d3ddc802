-- The moment inside a call of a disk in memory, and an image of it.
use Rattle.std.specs.Prelude.{ℕ, List, ◌∷◌, ◌≡◌, ◌<◌, ◌+◌, ◌-◌, length, drop, slice_index}
use Rattle.kdb_disk.specs.declared.record.Call.{Call}
use Rattle.kdb_disk.specs.declared.record.Call.TheVariants.{Synced}
use Rattle.kdb_disk.specs.declared.record.Pick.{Pick}
use Rattle.kdb_disk.specs.declared.record.Pick.TheVariants.{Written, Old, Noise}
use Rattle.kdb_disk.specs.declared.memory.MemoryDisk.{MemoryDisk}
use Rattle.kdb_disk.specs.Files.{Files}
use Rattle.kdb_disk.specs.Memory.{Pending, file_after, IsApart, AreImages, contents}

-- the calls that count inside the first of these, the newest: a sync has done nothing yet
unfoldable pub unsynced : List Call → List Call
unsynced (Synced g ∷ calls) = calls
unsynced calls = calls

-- those that count inside the call of this number, counted from 0
unfoldable pub calls_inside : MemoryDisk → ℕ → List Call
calls_inside d k = unsynced (drop (length d.calls.items - (k + 1)) d.calls.items)

-- a file inside that call
unfoldable pub pending_inside : MemoryDisk → ℕ → ℕ → Pending
pending_inside d k f = file_after (contents d.start.items) (calls_inside d k) f

-- what a crash inside that call may leave
unfoldable pub MayLeaveInside : MemoryDisk → ℕ → Files → Type 0
MayLeaveInside d k c = AreImages (contents d.start.items) (calls_inside d k) c

-- the greatest length, and a5 in each byte that may be any byte
pub record IsNoise (p : Pending) (c : List ℕ) : Type 0 where
  pub longest : length c ≡ p.greatest
  pub stays : (i : ℕ) → i < p.least → IsApart i p.ranges → slice_index c i ≡ slice_index p.base i
  pub free : (i : ℕ) → i < p.greatest → (i < p.least → IsApart i p.ranges → ⊥) → slice_index c i ≡ 165

-- the content that is taken
abbrev pub IsPicked : Pick → Pending → List ℕ → Type 0
IsPicked Written p c = c ≡ p.now
IsPicked Old p c = c ≡ p.base
IsPicked Noise p c = IsNoise p c

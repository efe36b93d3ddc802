-- What a crash may leave of a log file while it is made or changed.
use Rattle.std.specs.Prelude.{ℕ, ◌+◌, ◌*◌, ◌<◌, ◌≤◌, ◌≡◌, ◌≢◌, ◌⊎◌, List, [], ◌∷◌, length, slice_index, Some}
use Rattle.kdb_disk.specs.Files.{Files}
use Rattle.kdb_disk.specs.View.{View}
use Rattle.kdb_base.specs.declared.moments.Point.{Point}
use Rattle.princ_rows.specs.declared.entries.Logged.{Logged}
use Rattle.update_log.specs.Slots.{slot_of, slot_bytes, Spells, Shuts, Fills}
use Rattle.update_log.specs.Logs.{Journal, Holds, ComesNext, marker_of}

-- This body is written for the entry: it spells the entry behind a closed gate.
pub record IsBodyFor (next : Logged) (block : ℕ) (body : List ℕ) : Type 0 where
  pub long : length body + 1 ≡ block
  pub spelled : Spells block (0 ∷ body) next

-- Whatever a crash leaves holds what the log holds.
pub record HasLog (log : Journal) (now : View) : Type 0 where
  pub each : (c : Files) → now.images c → Holds log (c log.file)

-- files whose file of this number has P, of which all others are those of an image of before
pub record Leaves (file : ℕ) (P : List ℕ → Type 0) (old : View) (c : Files) : Type 0 where
  pub before : Files
  pub was : old.images before
  pub others : (g : ℕ) → g ≢ file → c g ≡ before g
  pub here : P (c file)

-- files whose log holds what it held
abbrev pub LeavesLog : Journal → View → Files → Type 0
LeavesLog log old c = Leaves log.file (Holds log) old c

-- files whose log holds the one or the other
abbrev pub LeavesEither : Journal → Journal → View → Files → Type 0
LeavesEither one other old c = Leaves one.file (λ bytes. Holds one bytes ⊎ Holds other bytes) old c

-- The slot of the next entry wants no more than an open gate.
pub record IsReady (log : Journal) (next : Logged) (bytes : List ℕ) : Type 0 where
  pub comes : ComesNext log.held next
  pub whole : length (slot_bytes log.block (slot_of log.base log.size next.entry.point.sno) bytes) ≡ log.block
  pub gate : slice_index (slot_bytes log.block (slot_of log.base log.size next.entry.point.sno) bytes) 0 ≢ 165
  pub entry : Spells log.block (slot_bytes log.block (slot_of log.base log.size next.entry.point.sno) bytes) next

-- The log stands, and the entry that is prepared is ready in what a read gives and in whatever a crash leaves.
pub record HasPrepared (log : Journal) (now : View) : Type 0 where
  pub stands : HasLog log now
  pub seen : (next : Logged) → log.prepared ≡ Some next → IsReady log next (now.seen log.file)
  pub each : (next : Logged) (c : Files) → log.prepared ≡ Some next → now.images c → IsReady log next (c log.file)

-- all other files read as before
abbrev pub ReadsOthers : ℕ → View → View → Type 0
ReadsOthers file old new = (g : ℕ) → g ≢ file → new.seen g ≡ old.seen g

-- what a crash leaves of the file is what a read gives
pub record IsDurable (file : ℕ) (now : View) : Type 0 where
  pub durable : (c : Files) → now.images c → c file ≡ now.seen file

-- files of which one slot of the log is closed, or none
abbrev pub MayShut : ℕ → ℕ → ℕ → View → Files → Type 0
MayShut file block slot old c =
    Leaves file (λ bytes. (bytes ≡ old.seen file) ⊎ Shuts block slot (old.seen file) bytes) old c

-- The slot begins with a closed gate, on the disk, and all else is as before.
pub record IsShut (file block slot : ℕ) (old new : View) : Type 0 where
  pub shuts : Shuts block slot (old.seen file) (new.seen file)
  pub gate : slice_index (new.seen file) (slot * block) ≢ 165
  pub begun : slot * block < length (new.seen file)
  pub durable : IsDurable file new
  pub others : ReadsOthers file old new

-- The slot has this body behind a closed gate, on the disk, and all else is as before.
pub record IsFilled (file block slot : ℕ) (body : List ℕ) (old new : View) : Type 0 where
  pub fills : Fills block slot body (old.seen file) (new.seen file)
  pub durable : IsDurable file new
  pub others : ReadsOthers file old new

-- The body is that of the next entry, and the place is that of its slot.
pub record IsNext (log : Journal) (next : Logged) (file at : ℕ) (body : List ℕ) : Type 0 where
  pub file_is : log.file ≡ file
  pub place : at ≡ slot_of log.base log.size next.entry.point.sno * log.block
  pub long : length body + 1 ≡ log.block
  pub comes : ComesNext log.held next
  pub spelled : Spells log.block (0 ∷ body) next

-- The next entry is ready, on the disk, behind those that are held, and all other files read as before.
pub record Prepares (log : Journal) (next : Logged) (old new : View) : Type 0 where
  pub stands : Holds log (new.seen log.file)
  pub ready : IsReady log next (new.seen log.file)
  pub durable : IsDurable log.file new
  pub others : ReadsOthers log.file old new

-- The body is that of the base marker.
pub record IsMarker (base : Point) (size block : ℕ) (marker : Logged) (body : List ℕ) : Type 0 where
  pub some_size : 0 < size
  pub long : length body + 1 ≡ block
  pub is : marker ≡ marker_of base
  pub spelled : Spells block (0 ∷ body) marker

-- What is kept of a log that is to be made: numbers in their ranges, the base marker alone, and the body that spells
-- it.
pub record IsMaking (file : ℕ) (base : Point) (size block : ℕ) (body : List ℕ) (held : List Logged)
    (len : ℕ) : Type 0 where
  pub in_file : (3 ≤ file) × (file ≤ 4)
  pub some_size : (2 ≤ size) × (size ≤ 10000)
  pub some_block : (2048 ≤ block) × (block ≤ 16384)
  pub long : length body + 1 ≡ block
  pub spelled : Spells block (0 ∷ body) (marker_of base)
  pub alone : held ≡ marker_of base ∷ []
  pub many : len ≡ 1

-- What a crash may leave of the control file while it is changed.
use Rattle.std.specs.Prelude.{ℕ, Option, Some, None, ◌≡◌, ◌≢◌, ◌≤◌, ◌<◌, ◌⊎◌, ◌+◌, List, [], ◌∷◌}
use Rattle.std.specs.Prelude.{◌++◌, length, max, take, drop, nat_eq, slice_index, if◌then◌else◌}
use Rattle.kdb_disk.specs.Files.{Files}
use Rattle.kdb_disk.specs.View.{View}
use Rattle.kdb_disk.specs.Moments.{LeavesOnly}
use Rattle.kdb_disk.specs.declared.disk.Disk.{Ghosts}
use Rattle.kdb_control.specs.declared.force.Slot.TheVariants.{Closed, Holds, Torn}
use Rattle.kdb_control.specs.declared.force.Slot.{Slot}
use Rattle.kdb_control.specs.declared.force.Force.{Force}
use Rattle.kdb_control.specs.declared.force.Force.TheVariants.{Nothing, Is}
use Rattle.kdb_control.specs.Choice.{Choice}
use Rattle.kdb_control.specs.Bodies.{body, IsBody}
use Rattle.kdb_control.specs.Force.{slot, slot_bytes, newer, in_force, turn_after}

-- the bytes of the control file, as a read gives them
abbrev pub control_file : {D : Type 0} → Ghosts D → D → List ℕ
control_file g disk = (g.view disk).seen 0

-- the first bytes of the one are those of the other
abbrev pub StartAlike : ℕ → List ℕ → List ℕ → Type 0
StartAlike n one other = take n one ≡ take n other

-- what a choice or none has in force
abbrev pub force_of : Option Choice → Force
force_of (Some choice) = Is choice
force_of None = Nothing

-- the turn of the slot that comes next
abbrev pub next_turn : Option Choice → ℕ
next_turn (Some choice) = turn_after choice.turn
next_turn None = 0

-- every image of the disk has this in force
abbrev pub HasInForce : Force → View → Type 0
HasInForce force now = (c : Files) → now.images c → in_force (c 0) ≡ force

-- files with this in force, of which all but the control file are those of an image of before
pub record Leaves (force : Force) (old : View) (c : Files) : Type 0 where
  pub before : Files
  pub was : old.images before
  pub others : (g : ℕ) → g ≢ 0 → c g ≡ before g
  pub here : in_force (c 0) ≡ force

-- with the one or the other in force
abbrev pub LeavesEither : Force → Force → View → Files → Type 0
LeavesEither one other old c = Leaves one old c ⊎ Leaves other old c

-- This is in force, on the disk, and all other files read as before.
pub record IsInForce (force : Force) (old new : View) : Type 0 where
  pub here : in_force (new.seen 0) ≡ force
  pub durable : (c : Files) → new.images c → c 0 ≡ new.seen 0
  pub others : (g : ℕ) → g ≢ 0 → new.seen g ≡ old.seen g

-- the place of a slot
abbrev pub IsPlace : ℕ → Type 0
IsPlace at = (at ≡ 0) ⊎ (at ≡ 64)

-- what is in force where the slot at this place is closed
unfoldable pub without : ℕ → List ℕ → Force
without at file =
    if nat_eq at 0 then newer Closed (slot (slot_bytes 64 file)) else newer (slot (slot_bytes 0 file)) Closed

-- At each moment a crash leaves in force what was, or what is in force where the slot at this place is closed.
abbrev pub ChangesSlot : ℕ → View → View → Type 0
ChangesSlot at old new = (one other : Force) → in_force (old.seen 0) ≡ one → without at (old.seen 0) ≡ other
    → LeavesOnly old new (LeavesEither one other old)

-- At each moment a crash leaves in force what was, where the slot at this place counts for nothing.
abbrev pub SparesForce : ℕ → View → View → Type 0
SparesForce at old new = (one : Force) → in_force (old.seen 0) ≡ one → without at (old.seen 0) ≡ one
    → LeavesOnly old new (LeavesEither one one old)

-- one of the slots says this still
abbrev pub StillHolds : Choice → List ℕ → Type 0
StillHolds now file = (slot (slot_bytes 0 file) ≡ Holds now) ⊎ (slot (slot_bytes 64 file) ≡ Holds now)

-- what a crash leaves of the control file is what a read gives
pub record IsDurable (now : View) : Type 0 where
  pub durable : (c : Files) → now.images c → c 0 ≡ now.seen 0

-- the turn of what is in force is one
abbrev pub HasTurn : Option Choice → Type 0
HasTurn (Some choice) = choice.turn < 3
HasTurn None = Unit {0}

-- the place of the slot that is not the newer one, by what stands in the first and the turn in force
unfoldable pub spare_at : Slot → ℕ → ℕ
spare_at (Holds choice) turn = if nat_eq choice.turn turn then 64 else 0
spare_at Closed turn = 0
spare_at Torn turn = 0

-- The gate at this place is closed, on the disk, and all else is as before.
pub record IsShut (at : ℕ) (old new : View) : Type 0 where
  pub gate : slice_index (new.seen 0) at ≢ 165
  pub durable : IsDurable new
  pub others : (g : ℕ) → g ≢ 0 → new.seen g ≡ old.seen g
  pub rest : without at (new.seen 0) ≡ without at (old.seen 0)
  pub front : take at (new.seen 0) ≡ take at (old.seen 0)
  pub long : length (old.seen 0) ≤ length (new.seen 0)

-- the control file is as long as it was, or as this
abbrev pub IsLonger : ℕ → View → View → Type 0
IsLonger least old new = length (new.seen 0) ≡ max (length (old.seen 0)) least

-- The slot at this place wants no more than an open gate, on the disk.
pub record IsReady (at : ℕ) (next : Choice) (now : View) : Type 0 where
  pub gate : slice_index (now.seen 0) at ≢ 165
  pub long : at + 64 ≤ length (now.seen 0)
  pub bytes : take 63 (drop (at + 1) (now.seen 0)) ≡ body next
  pub fits : IsBody next
  pub durable : IsDurable now

-- and all else is as before
pub record IsFilled (at : ℕ) (next : Choice) (old new : View) : Type 0 where
  pub ready : IsReady at next new
  pub others : (g : ℕ) → g ≢ 0 → new.seen g ≡ old.seen g
  pub rest : without at (new.seen 0) ≡ without at (old.seen 0)

-- The slot at this place is ready, and takes over from what the other one says, if anything.
pub record MayOpen (at : ℕ) (now : Option Choice) (next : Choice) (old : View) : Type 0 where
  pub ready : IsReady at next old
  pub known : HasTurn now
  pub rest : without at (old.seen 0) ≡ force_of now
  pub turn : next.turn ≡ next_turn now

-- nothing is in force
pub record HasNothing (c : Files) : Type 0 where
  pub is : in_force (c 0) ≡ Nothing

-- the choice is in force still, with all other files as before, or nothing is
abbrev pub Erases : Choice → View → Files → Type 0
Erases now old c = Leaves (Is now) old c ⊎ HasNothing c

-- The first choice stands in the first slot alone, and the second slot begins with a closed gate.
pub record IsFirst (next : Choice) (old new : List ℕ) : Type 0 where
  pub here : without 64 new ≡ Is next
  pub gate : slice_index new 64 ≢ 165
  pub begun : 64 < length new
  -- where there was no second slot, the file ends with that gate
  pub fresh : length old ≤ 64 → new ≡ 165 ∷ (body next ++ (0 ∷ []))

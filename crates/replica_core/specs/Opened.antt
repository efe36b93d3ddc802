-- A replica as it is kept in memory, and what it and its disk hold.
use Rattle.std.specs.Prelude.{ℕ, ◌≡◌, ◌≤◌, ◌⊎◌, Bool, true, false, List, [], ◌∷◌, Option, Some, None}
use Rattle.dump_text.specs.declared.dumps.Dump.{Dump}
use Rattle.kdb_base.specs.declared.outcomes.Halt.{Halt}
use Rattle.kdb_base.specs.declared.outcomes.Halt.TheVariants as halting
use Rattle.kdb_base.specs.declared.outcomes.Stop.{Stop}
use Rattle.kdb_base.specs.declared.outcomes.Stop.TheVariants as stop
use Rattle.kdb_disk.specs.Files.{Files}
use Rattle.kdb_disk.specs.View.{View}
use Rattle.kdb_places.specs.Places.{Contents, Place}
use Rattle.store_files.specs.Kept.{Kept, IsOnDisk, place_kept}
use Rattle.store_files.specs.Recovery.{HasNone, LeavesPart, RecoversToNone}

-- The database, where there is one, the log size with which the replica was opened, and whether the first load of it
-- failed by the disk.
pub record Opened : Type 0 where
  pub database : Option Kept
  pub size : ℕ
  pub failed : Bool

abbrev pub place_in : Option Kept → Option Place
place_in None = None
place_in (Some k) = Some (place_kept k)

abbrev pub place_of : Opened → Option Place
place_of o = place_in o.database

-- no change failed by the disk
abbrev pub IsWhole : Option Kept → Type 0
IsWhole None = Unit {0}
IsWhole (Some k) = k.broken ≡ false

-- one did
abbrev pub IsFaulty : Option Kept → Type 0
IsFaulty None = ⊥
IsFaulty (Some k) = k.broken ≡ true

-- one did, or the first load
abbrev pub MayBeFaulty : Option Kept → Type 0
MayBeFaulty None = Unit {0}
MayBeFaulty (Some k) = k.broken ≡ true

-- a call failed by the disk
abbrev pub is_broken : Option Kept → Bool → Bool
is_broken None failed = failed
is_broken (Some k) failed = k.broken

-- the log has the replica's size, and the files are of format 2
abbrev pub HasSize : ℕ → Option Kept → Type 0
HasSize size None = Unit {0}
HasSize size (Some k) = (k.control.size ≡ size) × (k.control.format ≡ 2)

pub record IsOpened (o : Opened) : Type 0 where
  pub low : 2 ≤ o.size
  pub high : o.size ≤ 10000
  pub sized : HasSize o.size o.database

-- The disk has what is kept, or no database.
abbrev pub IsHeldOn : Option Kept → View → Type 0
IsHeldOn None now = RecoversToNone now
IsHeldOn (Some k) now = IsOnDisk k now

-- the files stand for no database, where there was none, or for one of the places that are made
abbrev pub LeavesFirst : List Place → Files → Type 0
LeavesFirst [] files = HasNone files
LeavesFirst (q ∷ made) files = HasNone files ⊎ LeavesPart q made files

-- the files stand for what there was, or for one of the places that are made
abbrev pub LeavesMade : Option Place → List Place → Files → Type 0
LeavesMade None made files = LeavesFirst made files
LeavesMade (Some p) made files = LeavesPart p made files

-- what a dump has, as a replica is told it
abbrev pub told_dump : Dump → Contents
told_dump d = record { realm = d.realm; point = d.point; rows = d.rows }

-- how a creation ends early: a control slot that is open is as want of memory
abbrev pub halted : Stop → Halt
halted (stop.Refused why) = halting.MemoryOut
halted (stop.Halt halt) = halt

-- Disks that are handed over by value, and handed back.
use Rattle.std.specs.Prelude.{Result, Ok, Err}
use Rattle.kdb_base.specs.declared.outcomes.Stop.{Stop}
use Rattle.primary_core.specs.Opened.{Opened}
use Rattle.primary_disk.specs.Held.{Held}

-- ---- an opening, which keeps the disk, or hands it back with an error

abbrev pub opened_in : {D : Type 0} → Result (Held D) (D × Stop) → Result Opened Stop
opened_in (Ok h) = Ok h.opened
opened_in (Err both) = Err both.1

-- the disk behind it
abbrev pub disk_behind : {D : Type 0} → Result (Held D) (D × Stop) → D
disk_behind (Ok h) = h.disk
disk_behind (Err both) = both.0

-- ---- an end, which hands the disk back in any case

abbrev pub ended_in : {D : Type 0} → Result D (D × Stop) → Result (Unit {0}) Stop
ended_in (Ok disk) = Ok tt
ended_in (Err both) = Err both.1

abbrev pub disk_back : {D : Type 0} → Result D (D × Stop) → D
disk_back (Ok disk) = disk
disk_back (Err both) = both.0

-- A change behind a log that is begun anew.
use Rattle.std.specs.Prelude.{◌≡◌, ◌+◌, Some}
use Rattle.kdb_base.specs.Moment.{Moment}
use Rattle.kdb_base.specs.declared.moments.Point.{Point}
use Rattle.kdb_disk.specs.View.{View}
use Rattle.kdb_control.specs.Choice.{Choice}
use Rattle.princ_rows.specs.Entries.{IsOp}
use Rattle.princ_rows.specs.declared.entries.Entry.{Entry}
use Rattle.princ_rows.specs.declared.entries.Op.{Op}
use Rattle.princ_rows.specs.Rows.{AreRows}
use Rattle.princ_rows.specs.Effects.{effect, IsRoom}
use Rattle.princ_rows.specs.Undoing.{IsNewName}
use Rattle.kdb_cells.specs.CellFiles.{CellFile, units}
use Rattle.kdb_places.specs.Places.{change}
use Rattle.store_files.specs.Kept.{Kept}
use Rattle.store_switches.specs.Switched.{IsUnder}
use Rattle.kdb_store.specs.Parts.{LeadsAlike}
use Rattle.kdb_store.specs.Writes.{IsPlan}
use Rattle.store_opening.specs.declared.unit_writes.UnitWrite.{UnitWrite}

-- the point of the change behind the base at this time: the next serial
abbrev pub point_behind : Point → Moment → Point
point_behind base time = record { sno = base.sno + 1; time = time }

-- A change is planned over what is kept, and its unit is given in the file of cells.
pub record IsPlanned (k : Kept) (given : CellFile) (w : UnitWrite) (op : Op) : Type 0 where
  pub newer : k.cells.format ≡ 2
  pub same : LeadsAlike k.cells given
  pub sound : AreRows k.rows
  pub plan : IsPlan w op (units k.cells) k.rows
  pub fits : IsOp (Some op)
  pub name : IsNewName op k.rows
  pub room : IsRoom (effect (Some op) k.rows)

-- What is kept stands under this choice, and the entry is that of a change of it behind this base, at this time.
pub record IsBehind (now : Choice) (base : Point) (time : Moment) (k : Kept) (given : CellFile) (e : Entry)
    (w : UnitWrite) (op : Op) (v : View) : Type 0 where
  pub under : IsUnder now k v
  pub planned : IsPlanned k given w op
  pub entry_is : e ≡ change op (point_behind base time)

-- What is known of the units of a file of cells, whatever a disk tells, and of a key that no row has.
use Rattle.std.specs.Prelude.{◌≡◌, ◌<◌, ◌≤◌, ◌+◌, ℕ, true, false, List, length, Option, Some, None, Ok}
use Rattle.std.specs.List.{AllByRecursion}
use Rattle.std.specs.Str.{bytes_eq}
use Rattle.kdb_base.specs.Limits.{most_rows}
use Rattle.policy_rules.specs.Rules.{Rules}
use Rattle.princ_record.specs.Policies.{IsPolicy}
use Rattle.princ_record.specs.RowLimits.{IsRow}
use Rattle.princ_record.specs.declared.princs.Princ.{Princ as Principal}
use Rattle.princ_rows.specs.Rows.{princ_keys, policy_keys}
use Rattle.kdb_cells.specs.declared.units.StoredRow.TheVariants.{Princ, Policy}
use Rattle.kdb_cells.specs.Cells.{Cell, IsCell}
use Rattle.kdb_cells.specs.CellFiles.{CellFile, units, count}
use Rattle.kdb_cells.specs.Changes.{cell_no}
use Rattle.kdb_cells.specs.FileCells.{AreCellsOf}
use Rattle.kdb_cells.specs.Leads.{Units}
use Rattle.kdb_cells.specs.Scanning.{skipping}
use Rattle.kdb_cells.specs.Sheets.{Sheet, count_of, sheet_in, taken}
use Rattle.kdb_control.specs.Choice.{Choice}
use Rattle.kdb_control.specs.Force.{in_force}
use Rattle.kdb_control.specs.declared.force.Force.TheVariants.{Is}
use Rattle.kdb_disk.specs.Files.{Files}
use Rattle.princ_rows.specs.declared.entries.Logged.{Logged}
use Rattle.update_log.specs.Runs.{log_in}
use Rattle.store_files.specs.Found.{Found, unit_changed, left_by, redone, is_placed, last_of, stash_in}

-- The index leads to these cells, each of the format.
pub record AreUnits (format : ℕ) (c : CellFile) (all : List Cell) : Type 0 where
  pub leads : AreCellsOf (units c) all
  pub many : count c ≡ taken all
  pub stored : (i : ℕ) → IsCell format (cell_no i all)

-- There is a unit, no row has the key, and there is room for one row more.
pub record IsHeld (unit : Option ℕ) (key : List ℕ) (u : Units) (n : ℕ) : Type 0 where
  pub place : ℕ
  pub given : unit ≡ Some place
  pub new : u.of key ≡ None
  pub few : n < most_rows

-- What the files hold, with the unit of the last entry passed over, in which what the entry leaves may stand.
pub record IsLookedAt (choice : Choice) (held : List Logged) (last : Logged) (sheet : Sheet) (stash : Option (List ℕ))
    (files : Files) : Type 0 where
  pub force : in_force (files 0) ≡ Is choice
  pub log : log_in choice.format choice.base choice.size choice.block (files choice.log) ≡ Ok held
  pub last_is : last_of choice.base held ≡ last
  pub within : last.cell ≤ count_of choice.format (files choice.image)
  pub sheet_is : sheet_in choice.format (skipping choice.format (unit_changed last) (files choice.image)) ≡ Ok sheet
  pub placed : is_placed (unit_changed last) (left_by last.entry.op) sheet.cells ≡ true
  pub stash_is : stash_in choice files ≡ stash

-- what is found of them: the entry is done again
abbrev pub found_again : Choice → List Logged → Logged → Sheet → Option (List ℕ) → Found
found_again choice held last sheet stash = record {
  control = choice;
  held = held;
  sheet = record { realm = sheet.realm; cells = redone last sheet.cells };
  stash = stash;
}

-- ---- the rows with what the last entry leaves

-- A row may join these: it has a spelling, its key is that of none of its kind, and there are not too many.
abbrev pub MayJoin : Cell → List Principal → List Rules → Type 0
MayJoin None princs policies = Unit {0}
MayJoin (Some (Princ p)) princs policies = IsRow p × AllByRecursion (λ k. bytes_eq p.name k ≡ false) (princ_keys princs)
    × (length princs + length policies < most_rows)
MayJoin (Some (Policy p)) princs policies =
    IsPolicy p × AllByRecursion (λ k. bytes_eq p.name k ≡ false) (policy_keys policies)
    × (length princs + length policies < most_rows)

-- The unit is free, or is to be. Where there is no unit, nothing is left.
abbrev pub MayHold : Option ℕ → Cell → List Cell → Type 0
MayHold None left all = left ≡ None
MayHold (Some i) left all = cell_no i all ≡ None

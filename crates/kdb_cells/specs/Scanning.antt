-- What a scan of a file of cells reads, and what it answers.
use Rattle.std.specs.Prelude.{Bool, false, nat_eq, nat_lt, if◌then◌else◌, ℕ, ◌≡◌, ◌≢◌, ◌≤◌, ◌<◌, ◌+◌, ◌*◌}
use Rattle.std.specs.Prelude.{◌⊎◌, List, [], ◌∷◌, ◌++◌, length, Option, Some, None, Result, Ok, Err}
use Rattle.std.specs.List.{All, IsDistinct}
use Rattle.std.specs.Str.{bytes_eq}
use Rattle.kdb_base.specs.Limits.{most_rows}
use Rattle.kdb_base.specs.declared.outcomes.Refusal.{Refusal}
use Rattle.kdb_base.specs.declared.outcomes.Refusal.TheVariants.{Damaged}
use Rattle.kdb_base.specs.declared.outcomes.Stop.{Stop}
use Rattle.kdb_base.specs.declared.outcomes.Stop.TheVariants.{Refused, Halt}
use Rattle.kdb_format.specs.Readings.{padded}
use Rattle.policy_rules.specs.Rules.{Rules}
use Rattle.princ_record.specs.Policies.{IsPolicy}
use Rattle.princ_record.specs.RowLimits.{IsRow}
use Rattle.princ_record.specs.declared.princs.Princ.{Princ as Principal}
use Rattle.princ_rows.specs.Rows.{princ_keys, policy_keys}
use Rattle.kdb_cells.specs.declared.units.StoredRow.{StoredRow}
use Rattle.kdb_cells.specs.declared.units.StoredRow.TheVariants.{Princ, Policy}
use Rattle.kdb_cells.specs.Cells.{Cell, IsCell, unit_size, cell_of, front_of}
use Rattle.kdb_cells.specs.Changes.{cell_no}
use Rattle.kdb_cells.specs.CellFiles.{CellFile, units, count}
use Rattle.kdb_cells.specs.FileCells.{AreCellsOf, IsFileOf}
use Rattle.kdb_cells.specs.Leads.{Units}
use Rattle.kdb_cells.specs.Sheets.{Sheet, heading_at, cell_in, last_unit, put_cell, set_cell, sheet_in, taken}

-- the realm that the bytes of the first unit spell
unfoldable pub heading_of : ℕ → List ℕ → Option (List ℕ)
heading_of format unit = front_of (padded (unit_size format) (heading_at format) unit)

-- the file with one unit free, where one is passed over
abbrev pub skipping : ℕ → Option ℕ → List ℕ → List ℕ
skipping format None file = file
skipping format (Some i) file = put_cell format i None file

-- ---- rows in the order of their units

abbrev pub princ_in : Cell → List Principal
princ_in None = []
princ_in (Some (Princ p)) = p ∷ []
princ_in (Some (Policy p)) = []

abbrev pub policy_in : Cell → List Rules
policy_in None = []
policy_in (Some (Princ p)) = []
policy_in (Some (Policy p)) = p ∷ []

unfoldable pub princs_of : List Cell → List Principal
princs_of [] = []
princs_of (c ∷ cells) = princ_in c ++ princs_of cells

unfoldable pub policies_of : List Cell → List Rules
policies_of [] = []
policies_of (c ∷ cells) = policy_in c ++ policies_of cells

-- ---- what was gathered

-- What is kept of the units that were read: where each key leads, and the rows. A unit that is given is one of them,
-- and no row stands in it.
pub record IsGathered (format : ℕ) (u : Units) (count : ℕ) (princs : List Principal) (policies : List Rules)
    (cells : List Cell) : Type 0 where
  pub cells_are : AreCellsOf u cells
  pub count_is : count ≡ taken cells
  pub few : count ≤ most_rows
  pub stored : (i : ℕ) → IsCell format (cell_no i cells)
  pub near : (i : ℕ) (r : StoredRow) → cell_no i cells ≡ Some r → i ≤ last_unit
  pub princs_are : princs ≡ princs_of cells
  pub policies_are : policies ≡ policies_of cells
  pub given : (i : ℕ) → u.placed ≡ Some i → (i < length cells) × (cell_no i cells ≡ None)

-- Rows in any order: each has a spelling, no two of one kind have one key, and there are no more than there may be.
pub record AreApart (princs : List Principal) (policies : List Rules) : Type 0 where
  pub each_princ : All IsRow princs
  pub each_policy : All IsPolicy policies
  pub princ_once : IsDistinct bytes_eq (princ_keys princs)
  pub policy_once : IsDistinct bytes_eq (policy_keys policies)
  pub few : length princs + length policies ≤ most_rows

-- the row is refused: it stands too far, is one too many, or has the key of another
abbrev pub IsRefused : Units → ℕ → List ℕ → Type 0
IsRefused u count key = (last_unit < u.next) ⊎ ((most_rows ≤ count) ⊎ (u.of key ≢ None))

-- the cell that a unit spells, or that it spells none, unless memory ran out or the disk failed
abbrev pub UnitAnswers : Result Cell Stop → ℕ → ℕ → Option Cell → Type 0
UnitAnswers (Ok c) file place found = found ≡ Some c
UnitAnswers (Err (Refused refusal)) file place found = (refusal ≡ Damaged file place) × (found ≡ None)
UnitAnswers (Err (Halt halt)) file place found = Unit {0}

-- ---- one unit after the other

-- the unit is the one that is passed over
abbrev pub is_torn : Option ℕ → ℕ → Bool
is_torn None unit = false
is_torn (Some i) unit = nat_eq i unit

-- the unit that is given once so many were read
abbrev pub placed_at : Option ℕ → ℕ → Option ℕ
placed_at None unit = None
placed_at (Some i) unit = if nat_lt i unit then Some i else None

-- the cell at the front of these bytes, or a free one where it is passed over
abbrev pub cell_next : ℕ → Bool → List ℕ → Option Cell
cell_next format skips bytes = if skips then Some None else cell_of format bytes

-- The unit that is passed over is no first one, and begins within the file.
abbrev pub MaySkip : ℕ → Option ℕ → List ℕ → Type 0
MaySkip format torn file = (i : ℕ) → torn ≡ Some i → (1 ≤ i) × (i * unit_size format ≤ length file)

-- the units of the file, with one passed over, hold these cells
abbrev pub AreCellsIn : ℕ → Option ℕ → List ℕ → List Cell → Type 0
AreCellsIn format torn file cells =
    (i : ℕ) → i < length cells → cell_in format (skipping format torn file) i ≡ Some (cell_no i cells)

-- the file is damaged at the place that the refusal names
abbrev pub IsDamaged : ℕ → ℕ → Option ℕ → List ℕ → Refusal → Type 0
IsDamaged file format torn bytes refusal =
    (place : ℕ) × ((refusal ≡ Damaged file place) × (sheet_in format (skipping format torn bytes) ≡ Err place))

-- a refusal is that a file is damaged at some place
abbrev pub IsDamage : Stop → Type 0
IsDamage (Refused refusal) = (file : ℕ) × ((place : ℕ) × (refusal ≡ Damaged file place))
IsDamage (Halt halt) = Unit {0}

-- One cell more was gathered, which is the next unit's where the file is told.
pub record IsMore (format : ℕ) (torn : Option ℕ) (told : Type 0) (file : List ℕ) (u : Units) (count : ℕ)
    (princs : List Principal) (policies : List Rules) (cells : List Cell) : Type 0 where
  pub cell : Cell
  pub gathered : IsGathered format u count princs policies (set_cell (length cells) cell cells)
  pub read : told → AreCellsIn format torn file (set_cell (length cells) cell cells)

-- So many units were gathered.
pub record AreGathered (format : ℕ) (torn : Option ℕ) (told : Type 0) (file : List ℕ) (u : Units) (count : ℕ)
    (princs : List Principal) (policies : List Rules) (n : ℕ) : Type 0 where
  pub cells : List Cell
  pub long : length cells ≡ n
  pub gathered : IsGathered format u count princs policies cells
  pub read : told → AreCellsIn format torn file cells

-- ---- the whole file

-- how many units there are, with one passed over
abbrev pub end_of : Option ℕ → ℕ → ℕ
end_of torn count = if is_torn torn count then count + 1 else count

-- What was read of a file: the realm and the cells, to which the index leads, and their rows in the order of the units.
pub record IsScanned (c : CellFile) (realm : List ℕ) (princs : List Principal) (policies : List Rules) (torn : Option ℕ)
    (file : List ℕ) : Type 0 where
  pub sheet : Sheet
  pub tie : IsFileOf c sheet (skipping c.format torn file)
  pub realm_is : realm ≡ sheet.realm
  pub princs_are : princs ≡ princs_of sheet.cells
  pub policies_are : policies ≡ policies_of sheet.cells
  pub placed : c.index.placed ≡ torn

-- What was gathered of a file: the index leads to cells that have these rows, and where the disk tells, they are those
-- of the file, and the unit that was passed over is given.
pub record AreScanned (told : Type 0) (c : CellFile) (realm : List ℕ) (princs : List Principal) (policies : List Rules)
    (torn : Option ℕ) (file : List ℕ) : Type 0 where
  pub cells : List Cell
  pub gathered : IsGathered c.format (units c) (count c) princs policies cells
  pub read : told → sheet_in c.format (skipping c.format torn file) ≡ Ok (record { realm = realm; cells = cells })
  pub placed : told → c.index.placed ≡ torn

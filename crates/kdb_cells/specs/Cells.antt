-- The cells of a file: what a unit holds, and the bytes that say so.
use Rattle.std.specs.Prelude.{◌≡◌, ℕ, ◌+◌, ◌-◌, Bool, true, nat_eq, if◌then◌else◌}
use Rattle.std.specs.Prelude.{List, [], ◌++◌, length, Option, Some, None}
use Rattle.kdb_format.specs.Readings.{Reading, ◌>>=◌, done, checked, refuse, padded, big_at}
use Rattle.kdb_format.specs.Spellings.{big, counted, zeros}
use Rattle.princ_record.specs.RowLimits.{IsRow, IsRow1, is_row_1, row_at, policy_row_at}
use Rattle.princ_record.specs.Policies.{policy, IsPolicy}
use Rattle.princ_record.specs.Princs.{princ}
use Rattle.princ_record.specs.declared.princs.Princ.{Princ as Principal}
use Rattle.kdb_cells.specs.declared.units.StoredRow.{StoredRow}
use Rattle.kdb_cells.specs.declared.units.StoredRow.TheVariants.{Princ, Policy}

-- a unit holds a row, or is free
abbrev pub Cell : Type 0
Cell = Option StoredRow

-- the length of a unit in files of this format
unfoldable pub unit_size : ℕ → ℕ
unit_size format = if nat_eq format 1 then 8192 else 16384

-- ---- rows

abbrev pub kind_of : StoredRow → ℕ
kind_of (Princ p) = 1
kind_of (Policy p) = 2

abbrev pub name_of : StoredRow → List ℕ
name_of (Princ p) = p.name
name_of (Policy p) = p.name

unfoldable pub row_text : StoredRow → List ℕ
row_text (Princ p) = princ p
row_text (Policy p) = policy p

-- a principal's row in files of this format: in format 1 it is shorter, and has no string attributes
pub record IsRowOf (format : ℕ) (p : Principal) : Type 0 where
  pub row : IsRow p
  pub first : format ≡ 1 → IsRow1 p

abbrev pub is_row_of : ℕ → Principal → Bool
is_row_of format p = if nat_eq format 1 then is_row_1 p else true

-- a row that files of this format may have
abbrev pub IsStored : ℕ → StoredRow → Type 0
IsStored format (Princ p) = IsRowOf format p
IsStored format (Policy p) = IsPolicy p

abbrev pub IsCell : ℕ → Cell → Type 0
IsCell format None = Unit {0}
IsCell format (Some r) = IsStored format r

-- ---- a cell as bytes: its state in one byte, and a row with its length

abbrev pub free_at : Reading Cell
free_at = done None

abbrev pub princ_at : ℕ → Reading Cell
princ_at format = do
  p ← checked (is_row_of format) row_at
  done (Some (Princ p))

abbrev pub policy_at : Reading Cell
policy_at = do
  p ← policy_row_at
  done (Some (Policy p))

-- what stands behind the state
unfoldable pub in_state : ℕ → ℕ → Reading Cell
in_state format state =
    if nat_eq state 0 then free_at
    else if nat_eq state 1 then princ_at format
    else if nat_eq state 2 then policy_at
    else refuse

unfoldable pub cell_at : ℕ → Reading Cell
cell_at format = do
  state ← big_at 1
  in_state format state

abbrev pub state_of : Cell → ℕ
state_of None = 0
state_of (Some r) = kind_of r

unfoldable pub behind_state : Cell → List ℕ
behind_state None = []
behind_state (Some r) = counted (row_text r)

unfoldable pub cell_text : Cell → List ℕ
cell_text c = big 1 (state_of c) ++ behind_state c

-- ---- a unit as bytes: a cell, and zeros to its end

unfoldable pub unit_at : ℕ → Reading Cell
unit_at format = padded (unit_size format) (cell_at format)

unfoldable pub unit_text : ℕ → Cell → List ℕ
unit_text format c = cell_text c ++ zeros (unit_size format - length (cell_text c))

abbrev pub front_of : {A : Type 0} → Option (A × List ℕ) → Option A
front_of (Some x) = Some x.0
front_of None = None

-- the cell that the bytes of a unit spell, if they spell one
unfoldable pub cell_of : ℕ → List ℕ → Option Cell
cell_of format unit = front_of (unit_at format unit)

-- the bytes of a unit of this length with a row, of which the kind and the bytes are given
unfoldable pub unit_with : ℕ → ℕ → List ℕ → List ℕ
unit_with unit kind row = (big 1 kind ++ counted row) ++ zeros (unit - (3 + length row))

-- these are the kind, the name and the bytes of a row that files of this format may have
pub record IsRowText (format kind : ℕ) (name text : List ℕ) (r : StoredRow) : Type 0 where
  pub stored : IsStored format r
  pub of_kind : kind ≡ kind_of r
  pub named : name ≡ name_of r
  pub spelled : text ≡ row_text r

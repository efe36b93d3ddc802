-- What a file of cells holds: the realm in its first unit, and the cells in the others.
use Rattle.std.specs.Prelude.{◌≡◌, ℕ, zero, suc, ◌+◌, ◌*◌, ◌/◌, Bool, true, false, ◌||◌, nat_eq, nat_lt, if◌then◌else◌}
use Rattle.std.specs.Prelude.{List, [], ◌∷◌, ◌++◌, length, take, drop, Option, Some, None, Result, Ok, Err}
use Rattle.std.specs.List.{AllByRecursion}
use Rattle.std.specs.Str.{bytes_eq}
use Rattle.kdb_base.specs.Limits.{most_rows}
use Rattle.kdb_base.specs.declared.moments.Point.{Point}
use Rattle.kdb_format.specs.Readings.{Reading, ◌>>=◌, ◌>>◌, done, checked, padded, literal_at, counted_at}
use Rattle.kdb_format.specs.Spellings.{big, counted}
use Rattle.kdb_format.specs.Moments.{point_at, point}
use Rattle.kdb_disk.specs.Files.{put}
use Rattle.princ_name.specs.Realms.{is_realm}
use Rattle.kdb_cells.specs.declared.units.StoredRow.{StoredRow}
use Rattle.kdb_cells.specs.declared.units.StoredRow.TheVariants.{Princ, Policy}
use Rattle.kdb_cells.specs.Cells.{Cell, unit_size, cell_of, unit_text, front_of}

-- the bytes of a unit; the last of a file may have fewer
abbrev pub unit_bytes : ℕ → ℕ → List ℕ → List ℕ
unit_bytes format i file = take (unit_size format) (drop (i * unit_size format) file)

-- ---- the first unit

-- `KDBC`, and the format in two bytes
unfoldable pub magic : ℕ → List ℕ
magic format = 75 ∷ 68 ∷ 66 ∷ 67 ∷ big 2 format

-- the realm, and the point at which the file was made, which is not compared
unfoldable pub heading_at : ℕ → Reading (List ℕ)
heading_at format = do
  literal_at (magic format)
  realm ← checked is_realm counted_at
  made ← point_at
  done realm

unfoldable pub heading : ℕ → List ℕ → Point → List ℕ
heading format realm made = magic format ++ (counted realm ++ point made)

-- the realm that the first unit spells
unfoldable pub realm_in : ℕ → List ℕ → Option (List ℕ)
realm_in format file = front_of (padded (unit_size format) (heading_at format) (unit_bytes format 0 file))

-- ---- the cells

-- the cell that a unit spells, if it spells one; no row stands in the first unit
unfoldable pub cell_in : ℕ → List ℕ → ℕ → Option Cell
cell_in format file i = if nat_eq i 0 then Some None else cell_of format (unit_bytes format i file)

abbrev pub cell_or_free : Option Cell → Cell
cell_or_free (Some c) = c
cell_or_free None = None

-- the cells of so many units from this one on
unfoldable pub cells_from : ℕ → List ℕ → ℕ → ℕ → List Cell
cells_from format file i zero = []
cells_from format file i (suc n) = cell_or_free (cell_in format file i) ∷ cells_from format file (i + 1) n

-- the number of units; one that is not whole is not there
unfoldable pub count_of : ℕ → List ℕ → ℕ
count_of format file = length file / unit_size format

abbrev pub cells_of : ℕ → List ℕ → List Cell
cells_of format file = cells_from format file 0 (count_of format file)

-- ---- one row for each key

-- two rows of one kind with one key
abbrev pub same_key : StoredRow → StoredRow → Bool
same_key (Princ p) (Princ q) = bytes_eq p.name q.name
same_key (Princ p) (Policy q) = false
same_key (Policy p) (Princ q) = false
same_key (Policy p) (Policy q) = bytes_eq p.name q.name

abbrev pub clash : Cell → Cell → Bool
clash None d = false
clash (Some r) None = false
clash (Some r) (Some s) = same_key r s

-- one of the cells has the key of this one
unfoldable pub clashes : Cell → List Cell → Bool
clashes c [] = false
clashes c (d ∷ cells) = clash c d || clashes c cells

abbrev pub taken_by : Cell → ℕ
taken_by None = 0
taken_by (Some r) = 1

-- the number of rows
unfoldable pub taken : List Cell → ℕ
taken [] = 0
taken (c ∷ cells) = taken_by c + taken cells

-- ---- faults

-- the greatest number of a unit that may have a row
abbrev pub last_unit : ℕ
last_unit = 4294967295

abbrev pub is_too_far : ℕ → Cell → Bool
is_too_far i None = false
is_too_far i (Some r) = nat_lt last_unit i

-- The unit breaks the grammar, has a row where none may stand, has the key of one before it, or is the 100001st row.
abbrev pub is_fault : ℕ → Option Cell → List Cell → Bool
is_fault i None earlier = true
is_fault i (Some c) earlier = is_too_far i c || (clashes c earlier || nat_lt most_rows (taken_by c + taken earlier))

-- the number of the first unit that does, of so many from this one on, behind these cells
unfoldable pub fault_from : ℕ → List ℕ → ℕ → ℕ → List Cell → Option ℕ
fault_from format file i zero earlier = None
fault_from format file i (suc n) earlier =
    if is_fault i (cell_in format file i) earlier then Some i
    else fault_from format file (i + 1) n (cell_or_free (cell_in format file i) ∷ earlier)

-- ---- the file

pub record Sheet : Type 0 where
  pub realm : List ℕ
  -- by the numbers of their units; the first one is not used
  pub cells : List Cell

abbrev pub sheet_with : ℕ → List ℕ → Option ℕ → Option (List ℕ) → Result Sheet ℕ
sheet_with format file fault None = Err 0
sheet_with format file (Some i) (Some realm) = Err (i * unit_size format)
sheet_with format file None (Some realm) = Ok (record { realm = realm; cells = cells_of format file })

-- what the bytes of a file hold, or the place of the first unit that is at fault
unfoldable pub sheet_in : ℕ → List ℕ → Result Sheet ℕ
sheet_in format file =
    sheet_with format file (fault_from format file 0 (count_of format file) []) (realm_in format file)

-- ---- one unit changes

-- the cells with another one at this number, or with one more
unfoldable pub set_cell : ℕ → Cell → List Cell → List Cell
set_cell i x [] = x ∷ []
set_cell zero x (c ∷ cells) = x ∷ cells
set_cell (suc i) x (c ∷ cells) = c ∷ set_cell i x cells

-- the file with another cell in this unit, or with one unit more
unfoldable pub put_cell : ℕ → ℕ → Cell → List ℕ → List ℕ
put_cell format i c file = put (i * unit_size format) (unit_text format c) file

-- two cells do not have one key
abbrev pub Apart : Cell → Cell → Type 0
Apart c d = clash c d ≡ false

-- no two cells have one key
unfoldable pub AreOnce : List Cell → Type 0
AreOnce [] = Unit {0}
AreOnce (c ∷ cells) = AllByRecursion (Apart c) cells × AreOnce cells

-- no other cell has the key of this one
unfoldable pub IsAlone : Cell → ℕ → List Cell → Type 0
IsAlone c i [] = Unit {0}
IsAlone c zero (d ∷ cells) = AllByRecursion (Apart c) cells
IsAlone c (suc i) (d ∷ cells) = Apart c d × IsAlone c i cells

-- A file of cells as it is kept in memory: which file it is, its format, and what is known of its units.
use Rattle.std.specs.Prelude.{ℕ, ◌*◌, Bool, ◌||◌, nat_eq}
use Rattle.kdb_cells.specs.Cells.{unit_size}
use Rattle.kdb_cells.specs.Leads.{Units}
use Rattle.kdb_cells.specs.Indexes as index
use Rattle.kdb_cells.specs.Indexes.{Index}

-- the files of a database that hold its rows
abbrev pub is_image : ℕ → Bool
is_image file = nat_eq file 1 || nat_eq file 2

-- the formats that there are
abbrev pub is_format : ℕ → Bool
is_format format = nat_eq format 1 || nat_eq format 2

pub record CellFile : Type 0 where
  pub file : ℕ
  pub format : ℕ
  pub index : Index

-- to which unit each key leads
abbrev pub units : CellFile → Units
units c = index.units c.index

-- how many keys there are
abbrev pub count : CellFile → ℕ
count c = index.count c.index

-- the place of a unit in the file
abbrev pub place_of : ℕ → CellFile → ℕ
place_of unit c = unit * unit_size c.format

abbrev pub unit_len : CellFile → ℕ
unit_len c = unit_size c.format

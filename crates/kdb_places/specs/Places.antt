-- A place in the history of a database, and the five things that lead from one to the next.
use Rattle.std.specs.Prelude.{ℕ, ◌+◌, ◌-◌, List, [], ◌∷◌, ◌++◌, length, drop, Option, Some, None}
use Rattle.kdb_base.specs.Moment.{Moment}
use Rattle.kdb_base.specs.declared.moments.Point.{Point}
use Rattle.princ_rows.specs.Effects.{effect}
use Rattle.princ_rows.specs.Rows.{RowLists}
use Rattle.princ_rows.specs.declared.entries.Entry.{Entry}
use Rattle.princ_rows.specs.declared.entries.Op.{Op}

pub record Place : Type 0 where
  pub realm : List ℕ
  pub rows : RowLists
  -- the entries that the log holds, oldest first, the base marker among them
  pub held : List Entry
  -- the bytes that open the database without a password, where such are kept
  pub stash : Option (List ℕ)
  -- how many entries the log holds at most, and the length of their blocks
  pub size : ℕ
  pub block : ℕ
  -- the format of the files, 1 or 2
  pub format : ℕ

-- ---- points

-- serial 0 at 0.000000, where nothing is held
abbrev pub no_point : Point
no_point = record { sno = 0; time = record { secs = 0; usecs = 0 } }

-- the point of the last of these entries, or this one where there is none
unfoldable pub last_point : Point → List Entry → Point
last_point point [] = point
last_point point (e ∷ entries) = last_point e.point entries

-- the point of the last entry that is held
abbrev pub point_of : Place → Point
point_of p = last_point no_point p.held

-- the point of a change that is made at this time
abbrev pub next_point : Moment → Place → Point
next_point time p = record { sno = (point_of p).sno + 1; time = time }

-- ---- entries

abbrev pub base_marker : Point → Entry
base_marker point = record { point = point; op = None }

abbrev pub change : Op → Point → Entry
change op point = record { point = point; op = Some op }

-- the last entries, of which there are at most so many
abbrev pub last_entries : ℕ → List Entry → List Entry
last_entries size entries = drop (length entries - size) entries

-- ---- what leads on

-- A change: its entry comes behind those that are held, of which the last ones stay.
abbrev pub committed : Op → Moment → Place → Place
committed op time p = record {
  realm = p.realm;
  rows = effect (Some op) p.rows;
  held = last_entries p.size (p.held ++ change op (next_point time p) ∷ []);
  stash = p.stash;
  size = p.size;
  block = p.block;
  format = p.format;
}

-- The log is begun anew, with another size and block perhaps. The files are then of format 2.
abbrev pub log_anew : Point → ℕ → ℕ → Place → Place
log_anew base size block p = record {
  realm = p.realm;
  rows = p.rows;
  held = base_marker base ∷ [];
  stash = p.stash;
  size = size;
  block = block;
  format = 2;
}

-- All rows are replaced, and the log is begun anew. The files are then of format 2.
abbrev pub replaced : List ℕ → RowLists → Point → Place → Place
replaced realm rows base p = record {
  realm = realm;
  rows = rows;
  held = base_marker base ∷ [];
  stash = p.stash;
  size = p.size;
  block = p.block;
  format = 2;
}

-- Another stash is kept.
abbrev pub restashed : List ℕ → Place → Place
restashed bytes p = record {
  realm = p.realm;
  rows = p.rows;
  held = p.held;
  stash = Some bytes;
  size = p.size;
  block = p.block;
  format = p.format;
}

-- A database is made.
abbrev pub created : List ℕ → RowLists → Point → ℕ → ℕ → Option (List ℕ) → ℕ → Place
created realm rows base size block stash format = record {
  realm = realm;
  rows = rows;
  held = base_marker base ∷ [];
  stash = stash;
  size = size;
  block = block;
  format = format;
}

-- ---- contents

-- what a dump has of a place, and what a replica shows
pub record Contents : Type 0 where
  pub realm : List ℕ
  pub point : Point
  pub rows : RowLists

abbrev pub contents_of : Place → Contents
contents_of p = record { realm = p.realm; point = point_of p; rows = p.rows }

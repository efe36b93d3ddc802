-- Dumps that are under way.
use Rattle.std.specs.Prelude.{ℕ}
use Rattle.kdb_places.specs.Places.{Contents}
use Rattle.primary_core.specs.Opened.{Opened}
use Rattle.primary_core.specs.declared.dumping.Snapshot.{Snapshot}

-- what a snapshot has of a place
abbrev pub contents_in : Snapshot → Contents
contents_in s = record { realm = s.realm; point = s.point; rows = s.rows }

-- the same primary, with so many dumps under way
abbrev pub with_dumps : ℕ → Opened → Opened
with_dumps dumps o = record o { dumps = dumps }

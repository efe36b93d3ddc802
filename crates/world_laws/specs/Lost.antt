-- For which points a dump is wanted.
use Rattle.std.specs.Prelude.{◌≢◌, List}
use Rattle.std.specs.List.{All}
use Rattle.kdb_base.specs.declared.moments.Point.{Point}
use Rattle.kdb_histories.specs.Sites.{Site, Stands, story_of}
use Rattle.kdb_histories.specs.Stages.{epoch}
use Rattle.kdb_places.specs.Places.{last_entries}
use Rattle.princ_rows.specs.declared.entries.Entry.{Entry}

-- none of these entries has the point
abbrev pub IsLost : Point → List Entry → Type 0
IsLost point entries = All (λ (e : Entry). e.point ≢ point) entries

-- The place that stands holds no entry with the point, and none of those that were made since the last base marker has
-- it, as many of the last ones as the log holds.
pub record IsLostAt (s : Site) (point : Point) : Type 0 where
  pub at : Stands s
  pub held : IsLost point at.last.place.held
  pub since : IsLost point (last_entries at.last.place.size (epoch (story_of s)))

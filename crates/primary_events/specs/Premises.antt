-- What is known where a database is made and where one is opened.
use Rattle.std.specs.Prelude.{ℕ, ◌≡◌, ◌<◌, ◌≤◌, false, List, [], length, Option, Ok}
use Rattle.std.specs.List.{All}
use Rattle.aes_cts.specs.BlockKeys.{AreBytes}
use Rattle.first_rows.specs.Parts.{IsSpec, SpecParts}
use Rattle.kdb_base.specs.Moment.{Moment}
use Rattle.kdb_base.specs.Moments.{micros}
use Rattle.kdb_disk.specs.Files.{Files}
use Rattle.kdb_histories.specs.Calls.{IsSize}
use Rattle.kdb_histories.specs.Sites.{Site}
use Rattle.kdb_histories.specs.Stages.{places}
use Rattle.kdb_model.specs.Laws.{IsMoment}
use Rattle.kdb_places.specs.Places.{point_of}
use Rattle.primary_events.specs.At.{StandsFor}
use Rattle.store_files.specs.Found.{Found, found_in}

-- No database is there, the clock is later than all places of those that were ended, and the random bytes are a block.
pub record MayCreate (s : Site) (spec : SpecParts) (clock : Moment) (random : List ℕ) : Type 0 where
  pub none : s.history ≡ []
  pub is : IsSpec spec
  pub long : length random ≡ 2048
  pub bytes : AreBytes random
  pub later : All (λ p. micros (point_of p).time < micros clock) (places s.ended)

-- The primary is not open, these are the files that it has, and what is read of them. The clock says a moment, and the
-- log size and the number of dump places are within their limits.
pub record MayOpenAt (s : Site) (files : Files) (f : Found) (size : Option ℕ) (room : ℕ) (clock : Moment) : Type 0 where
  pub closed : s.up ≡ false
  pub stands : StandsFor s files
  pub found : found_in files ≡ Ok f
  pub moment : IsMoment clock
  pub some : IsSize size
  pub from : 1 ≤ room
  pub upto : room ≤ 16

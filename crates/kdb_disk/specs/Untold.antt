-- A disk of which nothing is told.
use Rattle.std.specs.Prelude.{[], ◌≡◌}
use mathlib.Core.Path.{ap}
use Rattle.kdb_disk.specs.Files.{Files}
use Rattle.kdb_disk.specs.View.{View}

-- It stands where a view is asked for, and no clause of such a disk speaks of it.
unfoldable pub untold : View
untold = record {
  seen = λ f. [];
  images = λ c. c ≡ (λ f. []);
  moment = 0;
  left_since = λ t c. c ≡ (λ f. []);
  counts_now = λ t c le now. now;
  only_now = λ c left. left;
  no_more = λ c g now ge. ap (λ (files : Files). files g) now;
}

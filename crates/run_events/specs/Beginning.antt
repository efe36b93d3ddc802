-- What a run of the program begins with.
use Rattle.std.specs.Prelude.{ℕ, ◌≡◌, ◌<◌, List, Option, Some}
use Rattle.std.specs.List.{All}
use Rattle.kadm_top.specs.Openings.{Adds, AddsNew, Ends, Filters, IsOpen, IsOpening}
use Rattle.kadm_top.specs.Openings.{Loads, Makes, Opening, Opens, Refuses, Tells}
use Rattle.kadm_top.specs.Run.{Told}
use Rattle.kadm_top.specs.Words.{words_in}
use Rattle.kdb_base.specs.Moments.{micros}
use Rattle.kdb_disk.specs.Files.{Files}
use Rattle.kdb_disk.specs.View.{View}
use Rattle.kdb_histories.specs.Seen.{Seen}
use Rattle.kdb_histories.specs.Sites.{Site, state_of}
use Rattle.kdb_histories.specs.Stages.{places}
use Rattle.kdb_model.specs.Laws.{IsMoment}
use Rattle.kdb_places.specs.Places.{Place, point_of}
use Rattle.run_events.specs.Coming.{HasCome, RestsAt}
use Rattle.session_base.specs.Draws.{Draws, moment_in}
use Rattle.store_files.specs.Found.{found_in}

-- Whatever the clock will say is a moment, and whatever the source of random bytes will give is a byte.
pub record AreDrawn (draws : Draws) : Type 0 where
  pub moments : (n : ℕ) → IsMoment (draws.moments n)
  pub bytes : (n : ℕ) → draws.stream n < 256

-- the master keys that the stash opens are those that the history comes to
abbrev pub HasMasters : Site → Seen → Type 0
HasMasters s at = at.state.masters ≡ (state_of s).masters

-- A database opens so, with the master keys that the history comes to.
pub record HasOpened (s : Site) (size : Option ℕ) (files : Files) (draws : Draws) : Type 0 where
  pub begin : Place
  pub made : List Place
  pub at : Seen
  pub opens : IsOpen size (found_in files) (Some draws) begin made at
  pub masters : HasMasters s at

-- What the words and the files do not say: with which master keys a database opens that is to be changed, and that one
-- is made at a later time than all places of those that were ended.
abbrev pub MayBegin : Site → Draws → Opening → Type 0
MayBegin s draws (Refuses why drawn) = Unit {0}
MayBegin s draws (Opens begin made at asked) = HasMasters s at
MayBegin s draws (Loads begin made at what) = HasMasters s at
MayBegin s draws (Adds begin made at reads what) = Unit {0}
MayBegin s draws (AddsNew begin made at reads what) = HasMasters s at
MayBegin s draws (Filters what) = Unit {0}
MayBegin s draws (Tells text drawn) = Unit {0}
MayBegin s draws (Makes spec) = All (λ p. micros (point_of p).time < micros (moment_in draws)) (places s.ended)
MayBegin s draws Ends = Unit {0}

-- A run of these words begins on what has come of this site, with an input, a clock and random bytes that are told, and
-- this is its opening.
pub record Begins (s : Site) (words : List (List ℕ)) (old : View) (before : Told) (o : Opening) : Type 0 where
  pub rests : RestsAt s old
  -- where the files have come to that are read
  pub reads : HasCome s old.seen
  pub text : List ℕ
  pub left_is : before.left ≡ Some text
  pub draws : Draws
  pub draws_are : before.draws ≡ Some draws
  pub drawn : AreDrawn draws
  pub is : IsOpening (words_in words) before.left old.seen before.draws o
  pub may : MayBegin reads.new draws o

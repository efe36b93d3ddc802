-- What a replica's run begins with, by its words and by what the files stand for.
use Rattle.std.specs.Prelude.{ℕ, List, Option, Some, None, Result, Ok, Err}
use Rattle.kdb_base.specs.declared.outcomes.Refusal.{Refusal}
use Rattle.kdb_base.specs.declared.outcomes.Refusal.TheVariants.{BadLine, NotADatabase}
use Rattle.kdb_disk.specs.Files.{Files}
use Rattle.kdb_places.specs.Places.{Place}
use Rattle.kprop_runs.specs.Words.{asked_in}
use Rattle.kprop_runs.specs.declared.words.Asked.{Asked}
use Rattle.replica_steps.specs.Replicas.{place_after, reopened}
use Rattle.store_files.specs.Found.{recovers}

-- a refusal of the words or of the files, or the rounds that are asked for, from the place at which the replica is
-- opened
pub data Opening : Type 0 where
  Refuses : (why : Refusal) → Opening
  Opens : (asked : Asked) (place : Option Place) → Opening

-- Files with no control slot open are a replica without a database; of a database another log size, or format 1, begins
-- the log anew.
abbrev pub opens_with : Asked → Result Place Refusal → Opening
opens_with a (Ok p) = Opens a (place_after (Some p) (reopened a.size (Some p)))
opens_with a (Err NotADatabase) = Opens a None
opens_with a (Err why) = Refuses why

abbrev pub opening_by : Option Asked → Result Place Refusal → Opening
opening_by None found = Refuses BadLine
opening_by (Some a) found = opens_with a found

-- the words are judged first, and then the files
abbrev pub opening : List (List ℕ) → Files → Opening
opening words files = opening_by (asked_in words) (recovers files)

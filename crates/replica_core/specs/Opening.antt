-- A replica that is opened.
use Rattle.std.specs.Prelude.{ℕ, ◌≡◌, ◌≢◌, ◌⊎◌, Option, Some, None, Result, Ok, Err}
use Rattle.kdb_base.specs.declared.outcomes.Refusal.{Refusal}
use Rattle.kdb_base.specs.declared.outcomes.Refusal.TheVariants.{NotADatabase}
use Rattle.kdb_base.specs.declared.outcomes.Stop.{Stop}
use Rattle.kdb_base.specs.declared.outcomes.Stop.TheVariants as stop
use Rattle.kdb_disk.specs.Files.{Files}
use Rattle.kdb_disk.specs.View.{View}
use Rattle.kdb_places.specs.Places.{Place}
use Rattle.replica_core.specs.Opened.{Opened, LeavesMade, place_of}
use Rattle.replica_steps.specs.Replicas.{Reopen, place_after, task_makes}
use Rattle.store_files.specs.Recovery.{IsLike}

-- the place that the files stand for; none where no control slot is open
abbrev pub place_found : Result Place Refusal → Option Place
place_found (Ok p) = Some p
place_found (Err why) = None

-- It opens where no control slot is open, and else where the files stand for a place; and then it has that place, with
-- the log begun anew where it is to. A refusal is why they stand for none.
abbrev pub AnswersOpened : ℕ → Result Opened Stop → Result Place Refusal → Type 0
AnswersOpened size (Ok o) (Ok p) = place_of o ≡ place_after (Some p) (task_makes size (Some p) (Reopen size))
AnswersOpened size (Ok o) (Err why) = (why ≡ NotADatabase) × (place_of o ≡ None)
AnswersOpened size (Err (stop.Refused why)) found = (found ≡ Err why) × (why ≢ NotADatabase)
AnswersOpened size (Err (stop.Halt halt)) found = Unit {0}

-- the files stand for what an image of before stood for, or for a place of the opening
abbrev pub MayOpen : View → ℕ → Result Place Refusal → Files → Type 0
MayOpen old size (Ok p) files = IsLike old files ⊎ LeavesMade (Some p) (task_makes size (Some p) (Reopen size)) files
MayOpen old size (Err why) files = IsLike old files

-- What is kept after a switch to another choice of files.
use Rattle.std.specs.Prelude.{◌≡◌, ◌⊎◌, ℕ, List, Some}
use Rattle.kdb_disk.specs.Files.{Files}
use Rattle.kdb_disk.specs.View.{View}
use Rattle.kdb_control.specs.Choice.{Choice}
use Rattle.update_log.specs.Logs.{Journal}
use Rattle.store_files.specs.Found.{Found}
use Rattle.store_files.specs.Kept.{Kept, HasChosen, IsOnDisk}
use Rattle.store_files.specs.Standing.{StandsOnDisk}

-- the same, with another choice of files and another log
abbrev pub with_log : Choice → Journal → Kept → Kept
with_log control log k = record {
  control = control;
  log = log;
  cells = k.cells;
  rows = k.rows;
  realm = k.realm;
  stash = k.stash;
  broken = k.broken;
}

-- the same, with another choice of files and another stash
abbrev pub with_stash : Choice → List ℕ → Kept → Kept
with_stash control bytes k = record {
  control = control;
  log = k.log;
  cells = k.cells;
  rows = k.rows;
  realm = k.realm;
  stash = Some bytes;
  broken = k.broken;
}

-- What is kept stands on the disk, under this choice of files.
pub record IsUnder (now : Choice) (k : Kept) (v : View) : Type 0 where
  pub control_is : k.control ≡ now
  pub chosen : HasChosen k
  pub on : IsOnDisk k v

-- the files hold the one, or the other
abbrev pub StandsEither : Found → Found → Files → Type 0
StandsEither one other c = StandsOnDisk one c ⊎ StandsOnDisk other c

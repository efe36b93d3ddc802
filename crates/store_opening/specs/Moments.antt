-- What stands while the files of a database are written that is not yet in force.
use Rattle.std.specs.Prelude.{ℕ, ◌≡◌, ◌⊎◌, List, Option, Ok}
use Rattle.kdb_disk.specs.Files.{Files}
use Rattle.kdb_disk.specs.View.{View}
use Rattle.kdb_disk.specs.Moments.{LeavesOnly}
use Rattle.kdb_control.specs.Choice.{Choice}
use Rattle.kdb_control.specs.declared.force.Force.TheVariants.{Nothing}
use Rattle.kdb_control.specs.Moments.{HasInForce}
use Rattle.store_files.specs.Found.{Found, stash_in, found_in}
use Rattle.store_files.specs.Recovery.{HasNone}

-- whatever a crash leaves has this content in the file
abbrev pub HasFile : ℕ → List ℕ → View → Type 0
HasFile g content now = (c : Files) → now.images c → c g ≡ content

-- whatever a crash leaves has this stash in the file that the choice names
abbrev pub HasStash : Choice → Option (List ℕ) → View → Type 0
HasStash choice stash now = (c : Files) → now.images c → stash_in choice c ≡ stash

-- Nothing is in force, and at each moment a crash leaves no database.
pub record IsQuiet (old new : View) : Type 0 where
  pub nothing : HasInForce Nothing new
  pub moments : LeavesOnly old new HasNone

-- the files stand for no database yet, or hold this
abbrev pub FindsMade : Found → Files → Type 0
FindsMade made files = HasNone files ⊎ (found_in files ≡ Ok made)

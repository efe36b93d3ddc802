-- The end of a database.
use Rattle.std.specs.Prelude.{◌≡◌, ◌≤◌, ◌⊎◌, ℕ, [], Ok}
use Rattle.kdb_disk.specs.Files.{Files}
use Rattle.kdb_disk.specs.View.{View}
use Rattle.kdb_places.specs.Places.{Place}
use Rattle.store_files.specs.Found.{recovers}
use Rattle.store_files.specs.Recovery.{HasNone}

-- the files recover to the place as it was, or stand for no database any more
abbrev pub MayEnd : Place → Files → Type 0
MayEnd p files = (recovers files ≡ Ok p) ⊎ HasNone files

-- each file but that of the control slots is read as empty
abbrev pub IsCut : View → Type 0
IsCut now = (file : ℕ) → 1 ≤ file → file ≤ 6 → now.seen file ≡ []

-- Which places a crash may leave.
use Rattle.std.specs.Prelude.{◌≡◌, ◌⊎◌, ℕ, List, [], ◌∷◌, Result, Ok, Err}
use Rattle.kdb_base.specs.declared.outcomes.Refusal.{Refusal}
use Rattle.kdb_base.specs.declared.outcomes.Refusal.TheVariants.{NotADatabase}
use Rattle.kdb_disk.specs.Files.{Files}
use Rattle.kdb_disk.specs.View.{View}
use Rattle.kdb_places.specs.Places.{Place}
use Rattle.store_files.specs.Found.{found_in, recovers}

-- whatever a crash leaves recovers to this place
abbrev pub RecoversTo : Place → View → Type 0
RecoversTo place now = (c : Files) → now.images c → recovers c ≡ Ok place

-- the files recover to the place, or to one of those that follow it
unfoldable pub LeavesPart : Place → List Place → Files → Type 0
LeavesPart p [] files = recovers files ≡ Ok p
LeavesPart p (q ∷ places) files = (recovers files ≡ Ok p) ⊎ LeavesPart q places files

-- The files stand for what an image of before stood for.
pub record IsLike (old : View) (files : Files) : Type 0 where
  pub before : Files
  pub was : old.images before
  pub same : found_in files ≡ found_in before

-- the files stand for no database
abbrev pub HasNone : Files → Type 0
HasNone files = found_in files ≡ Err NotADatabase

-- whatever a crash leaves stands for no database
pub record RecoversToNone (now : View) : Type 0 where
  pub each : (c : Files) → now.images c → HasNone c

-- the files stand for what an image of before stood for, for no database yet, or for the place that was made
abbrev pub Creates : View → Place → Files → Type 0
Creates old made files = IsLike old files ⊎ (HasNone files ⊎ (recovers files ≡ Ok made))

-- for what an image of before stood for, or for no database any more
abbrev pub Destroys : View → Files → Type 0
Destroys old files = IsLike old files ⊎ HasNone files

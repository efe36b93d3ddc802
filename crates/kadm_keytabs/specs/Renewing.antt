-- What the parts of a run that makes new keys come to.
use Rattle.std.specs.Prelude.{ℕ, ◌+◌, ◌≡◌, ◌⊎◌, List, [], ◌∷◌, map, Option, Some, None, Ok, ⊤}
use Rattle.kadm_keytabs.specs.Additions.{keys_told}
use Rattle.kadm_keytabs.specs.Renewals.{IsOpenAt, LeavesOfCommand, Renewal, Renews, Wanted, places_for}
use Rattle.kadm_keytabs.specs.declared.answers.Answer.{Answer}
use Rattle.kdb_base.specs.Key.{Key}
use Rattle.kdb_base.specs.declared.extracts.Extract.{Extract}
use Rattle.kdb_base.specs.declared.keys.Etype.{Etype}
use Rattle.kdb_disk.specs.Frames.{IsCrashSafe}
use Rattle.kdb_disk.specs.declared.disk.Disk.{Ghosts}
use Rattle.kdb_histories.specs.Seen.{Seen}
use Rattle.kdb_places.specs.Places.{Place}
use Rattle.kdb_plain.specs.declared.states.State.{State}
use Rattle.plain_keys.specs.Keys.{random_keys}
use Rattle.primary_core.specs.Opened.{Opened}
use Rattle.princ_name.specs.Names.{NameParts}
use Rattle.session_base.specs.Draws.{Draws}
use Rattle.session_base.specs.declared.halts.SessionHalt.{SessionHalt}
use Rattle.session_base.specs.declared.halts.SessionHalt.TheVariants.{InputTooLong, ReadFault}
use Rattle.store_files.specs.Recovery.{LeavesPart}

-- ---- the keys that the command gives, told before it is done

-- the version of keys that are told, and 0 without a key
abbrev pub version_told : List Extract → ℕ
version_told [] = 0
version_told (k ∷ keys) = k.kvno

abbrev pub extract_at : ℕ → Key → Extract
extract_at kvno key = record { kvno = kvno; key = key }

-- random keys, of the version behind that of the old ones
abbrev pub fresh_keys : List Extract → List ℕ → List Etype → List Extract
fresh_keys old random etypes = map (extract_at (version_told old + 1)) (random_keys random etypes)

-- the principal has keys that may be told, and these are to follow them
pub record AreFresh (s : State) (name : NameParts) (random : List ℕ) (etypes : List Etype)
    (keys : List Extract) : Type 0 where
  pub old : List Extract
  pub told : keys_told s name ≡ Ok old
  pub are : keys ≡ fresh_keys old random etypes

-- ---- what was done

-- such a run was made, but for its answer that is still to be written
pub record IsMade (r : Renewal) (answer : Answer) (o : Opened) (left : Option Draws) : Type 0 where
  pub answer_is : answer ≡ r.answer
  pub stands : IsOpenAt o r.later
  pub draws_are : left ≡ Some r.draws

pub record IsRenewed (renews : Renewal → Type 0) (answer : Answer) (o : Opened) (left : Option Draws) : Type 0 where
  pub renewal : Renewal
  pub is : renews renewal
  pub made : IsMade renewal answer o left

-- ---- what a crash leaves

-- the places of the command, where the clock and the random bytes are told
abbrev pub AreItsPlaces : Wanted → Option Draws → Seen → List Place → Type 0
AreItsPlaces w None at made = ⊤
AreItsPlaces w (Some draws) at made = made ≡ places_for w draws at

-- a crash leaves the place before the command, or one that it makes; and whatever is told, one that it makes at some
-- moment, with some block
pub record IsCommandSafe {D : Type 0} (g : Ghosts D) (old new : D) (w : Wanted) (told : Option Draws)
    (at : Seen) : Type 0 where
  pub made : List Place
  pub are : AreItsPlaces w told at made
  pub safe : IsCrashSafe g old new (LeavesPart at.place made)
  pub some : IsCrashSafe g old new (LeavesOfCommand w at)

-- the places of such a run
pub record AreMadeBy (renews : Renewal → Type 0) (made : List Place) : Type 0 where
  pub renewal : Renewal
  pub is : renews renewal
  pub made_are : made ≡ renewal.made

-- none, or those of a run over this input, where the clock and the random bytes are told
abbrev pub AreRunPlaces : Wanted → Option Draws → Seen → List ℕ → List Place → Type 0
AreRunPlaces w None at text made = ⊤
AreRunPlaces w (Some draws) at text made = (made ≡ []) ⊎ AreMadeBy (Renews w draws at text) made

-- a crash leaves the place before the run, or one that it makes; and whatever is told, one of the command, as above
pub record IsRunSafe {D : Type 0} (g : Ghosts D) (old new : D) (w : Wanted) (told : Option Draws) (at : Seen)
    (text : List ℕ) : Type 0 where
  pub made : List Place
  pub are : AreRunPlaces w told at text made
  pub safe : IsCrashSafe g old new (LeavesPart at.place made)
  pub some : IsCrashSafe g old new (LeavesOfCommand w at)

-- it ended while the input was read
abbrev pub IsOfInput : SessionHalt → Type 0
IsOfInput halt = (halt ≡ ReadFault) ⊎ (halt ≡ InputTooLong)

-- Where a session may stop early, and what a crash leaves then.
use Rattle.std.specs.Prelude.{ℕ, ◌≡◌, ◌⊎◌, List, [], Option}
use Rattle.kdb_disk.specs.Files.{Files}
use Rattle.kdb_disk.specs.View.{View}
use Rattle.kdb_places.specs.Places.{Place}
use Rattle.kdb_ports.specs.Parts.{SaidPart}
use Rattle.store_files.specs.Recovery.{LeavesPart}

-- what is in the sink, and of which places a crash leaves one: the first, or one of those that follow it
abbrev pub Stage : Type 1
Stage = Option (List ℕ) → Place → List Place → Type 0

-- Nothing of the reply was written, and a crash leaves the place before the line or one that the line makes. Or a part
-- of the reply was, and it leaves the place after it alone.
abbrev pub StopsAt : Option (List ℕ) → List ℕ → Place → List Place → Place → Stage
StopsAt taken text before made later out first others =
    ((out ≡ taken) × (first ≡ before) × (others ≡ made)) ⊎ (SaidPart text taken out × (first ≡ later) × (others ≡ []))

-- whatever a crash leaves recovers to the first place or to one of those that follow it
pub record StandsPart (first : Place) (others : List Place) (now : View) : Type 0 where
  pub each : (c : Files) → now.images c → LeavesPart first others c

-- a session has stopped so, with this in its sink, and what a crash leaves of its disk is one of these places
pub record IsStopped (stage : Stage) (out : Option (List ℕ)) (now : View) : Type 0 where
  pub first : Place
  pub others : List Place
  pub may : stage out first others
  pub stands : StandsPart first others now

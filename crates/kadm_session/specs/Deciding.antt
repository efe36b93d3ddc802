-- What was decided of a line and done for it, by what is told of the clock and of the random bytes.
use Rattle.std.specs.Prelude.{◌≡◌, List, ◌∷◌, Option, Some, None, IfSome, ⊤}
use Rattle.kadm_commands.specs.declared.replies.Reply.{Reply}
use Rattle.session_base.specs.Draws.{Draws}
use Rattle.kadm_session.specs.Events.{IsPerformed, LineReaches, RecoversWhere}
use Rattle.kadm_session.specs.Steps.{draws_after, halfway, places_by, reply_to, seen_after}
use Rattle.kadm_session.specs.declared.intake.Asked.{Asked}
use Rattle.kdb_disk.specs.Frames.{IsCrashSafe}
use Rattle.kdb_disk.specs.declared.disk.Disk.{Ghosts}
use Rattle.kdb_histories.specs.Seen.{Seen}
use Rattle.kdb_places.specs.Places.{Place}
use Rattle.primary_core.specs.Opened.{HasState, Opened, place_of}
use Rattle.std.specs.List.{Contains}
use Rattle.store_files.specs.Recovery.{LeavesPart, RecoversTo}

-- what is open stands at this place, and its rows show the state
pub record StandsAt (o : Opened) (at : Seen) : Type 0 where
  pub place_is : place_of o ≡ at.place
  pub shows : HasState o at.state

-- a line was answered so, where it is told what comes of the clock and of the random bytes
abbrev pub Answers : Asked → Option Draws → Seen → Option Reply → Seen → Option Draws → Type 0
Answers asked None at reply later left = left ≡ None
Answers asked (Some draws) at reply later left =
    (reply ≡ reply_to asked draws at) × (later ≡ seen_after asked draws at) × (left ≡ Some (draws_after asked draws at))

-- it was answered so, what is open then stands there, and what was done are events of the primary's history
pub record Decides (asked : Asked) (told : Option Draws) (at : Seen) (reply : Option Reply) (o : Opened)
    (left : Option Draws) : Type 0 where
  pub later : Seen
  pub stands : StandsAt o later
  pub answers : Answers asked told at reply later left
  pub performed : IfSome told (λ draws. IsPerformed asked draws at)

-- the line makes these places, where it is told
abbrev pub AreMade : Asked → Option Draws → Seen → List Place → Type 0
AreMade asked None at made = ⊤
AreMade asked (Some draws) at made = made ≡ places_by asked draws at

-- A crash leaves the place before the line, or one that the line makes: where it is told, one at which its events
-- stopped.
pub record IsLineSafe {D : Type 0} (g : Ghosts D) (old new : D) (asked : Asked) (told : Option Draws)
    (at : Seen) : Type 0 where
  pub made : List Place
  pub are : AreMade asked told at made
  pub safe : IsCrashSafe g old new (LeavesPart at.place made)
  pub reaches : IfSome told (λ draws. IsCrashSafe g old new (RecoversWhere (LineReaches asked draws at)))

-- where a line may stop for want of memory or of random bytes, where it is told: the place before it, or of many that
-- are rekeyed one behind some of them
abbrev pub MayRest : Asked → Option Draws → Seen → Place → Type 0
MayRest asked None at place = ⊤
MayRest asked (Some draws) at place = Contains (at.place ∷ halfway asked draws at) place

-- it stopped there, and a crash leaves that place alone
pub record IsHalfway {D : Type 0} (g : Ghosts D) (new : D) (asked : Asked) (told : Option Draws)
    (at : Seen) : Type 0 where
  pub place : Place
  pub may : MayRest asked told at place
  pub stands : g.tells → RecoversTo place (g.view new)

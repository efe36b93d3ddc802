-- What was done for names that are rekeyed, by what is told of the random bytes.
use Rattle.std.specs.Prelude.{ℕ, ◌+◌, ◌≡◌, List, ◌∷◌, Option, Some, None, Result, Ok, Err, IfSome, option_map}
use Rattle.std.specs.List.{Contains}
use Rattle.kadm_commands.specs.declared.replies.Reply.{Reply}
use Rattle.kadm_commands.specs.declared.replies.Totals.{Totals}
use Rattle.kadm_session.specs.Deciding.{StandsAt}
use Rattle.session_base.specs.Draws.{bytes_of}
use Rattle.kadm_session.specs.Events.{AreRekeyings, IsDone, RecoversWhere, RekeyingsReach}
use Rattle.kadm_session.specs.Rekeying.{begun, refused_by, rekey_ask, rekeyed, rekeyed_reply, tally}
use Rattle.kdb_base.specs.Moment.{Moment}
use Rattle.kdb_base.specs.declared.outcomes.Refusal.{Refusal}
use Rattle.kdb_disk.specs.Frames.{IsCrashSafe}
use Rattle.kdb_disk.specs.declared.disk.Disk.{Ghosts}
use Rattle.kdb_histories.specs.Asks.{Ask}
use Rattle.kdb_histories.specs.Calls.{Perform}
use Rattle.kdb_histories.specs.Seen.{Seen, after_ask, answer_at, made_at}
use Rattle.kdb_histories.specs.Stages.{places}
use Rattle.kdb_places.specs.Places.{Place}
use Rattle.kdb_ports.specs.Told.{later_bytes}
use Rattle.primary_core.specs.Opened.{MayLeave, Opened}
use Rattle.store_files.specs.Recovery.{LeavesPart, RecoversTo}

-- how many were counted
abbrev pub sum_of : Totals → ℕ
sum_of totals = totals.updated + totals.already + totals.gone

abbrev pub totals_unless : Option Refusal → Totals → Result Totals Refusal
totals_unless None totals = Ok totals
totals_unless (Some why) totals = Err why

-- ---- one name

-- It was asked so, as an event of the primary's history: what is open stands behind it, and the totals have it, or it
-- was refused.
pub record IsMoved (ask : Ask) (totals : Totals) (at : Seen) (done : Result Totals Refusal) (o : Opened) : Type 0 where
  pub stands : StandsAt o (after_ask ask at)
  pub done_is : done ≡ totals_unless (refused_by (answer_at ask at)) (tally (answer_at ask at) totals)
  pub performs : IsDone ask at

-- it was asked so with 512 bytes, those that came next where they are told, and a crash leaves a place at which its
-- event stopped
pub record IsMovedBy {D : Type 0} (g : Ghosts D) (old new : D) (word : List ℕ) (clock : Moment) (told : Option (ℕ → ℕ))
    (totals : Totals) (at : Seen) (done : Result Totals Refusal) (o : Opened) (left : Option (ℕ → ℕ)) : Type 0 where
  pub random : List ℕ
  pub drawn : IfSome told (λ stream. random ≡ bytes_of 512 stream)
  pub rest : left ≡ option_map (later_bytes 512) told
  pub moved : IsMoved (rekey_ask clock random word) totals at done o
  pub safe : IsCrashSafe g old new (MayLeave at.place at.state (Perform (rekey_ask clock random word)))

-- Whether it was done or not, a crash leaves the place before or one that it makes: where the bytes are told, one at
-- which its event stopped.
pub record IsMoveSafe {D : Type 0} (g : Ghosts D) (old new : D) (word : List ℕ) (clock : Moment) (told : Option (ℕ → ℕ))
    (at : Seen) : Type 0 where
  pub made : List Place
  pub are : IfSome told (λ stream. made ≡ places (made_at (rekey_ask clock (bytes_of 512 stream) word) at))
  pub safe : IsCrashSafe g old new (LeavesPart at.place made)
  pub reaches : IfSome told (λ stream.
      IsCrashSafe g old new (MayLeave at.place at.state (Perform (rekey_ask clock (bytes_of 512 stream) word))))

-- ---- all of them

abbrev pub AreRekeyed : List (List ℕ) → Moment → Option (ℕ → ℕ) → Seen → Reply → Seen → Option (ℕ → ℕ) → Type 0
AreRekeyed words clock None at reply later left = left ≡ None
AreRekeyed words clock (Some stream) at reply later left =
    (reply ≡ rekeyed_reply (rekeyed words clock (begun at stream)))
    × (later ≡ (rekeyed words clock (begun at stream)).at)
    × (left ≡ Some (rekeyed words clock (begun at stream)).stream)

-- they were rekeyed, up to the first that is refused, each as an event of its own
pub record IsRekeyed (words : List (List ℕ)) (clock : Moment) (told : Option (ℕ → ℕ)) (at : Seen) (reply : Reply)
    (o : Opened) (left : Option (ℕ → ℕ)) : Type 0 where
  pub later : Seen
  pub stands : StandsAt o later
  pub are : AreRekeyed words clock told at reply later left
  pub performed : IfSome told (λ stream. AreRekeyings words clock (begun at stream))

-- A crash leaves the place before, or one that they make: where the bytes are told, one at which their events stopped.
pub record IsRekeyedSafe {D : Type 0} (g : Ghosts D) (old new : D) (words : List (List ℕ)) (clock : Moment)
    (told : Option (ℕ → ℕ)) (at : Seen) : Type 0 where
  pub made : List Place
  pub are : IfSome told (λ stream. made ≡ (rekeyed words clock (begun at stream)).made)
  pub safe : IsCrashSafe g old new (LeavesPart at.place made)
  pub reaches : IfSome told
      (λ stream. IsCrashSafe g old new (RecoversWhere (RekeyingsReach words clock (begun at stream))))

-- they were rekeyed up to some of them, and a crash leaves the place behind those alone
pub record IsRekeyedPart {D : Type 0} (g : Ghosts D) (new : D) (words : List (List ℕ)) (clock : Moment)
    (told : Option (ℕ → ℕ)) (at : Seen) : Type 0 where
  pub place : Place
  pub among : IfSome told (λ stream. Contains (at.place ∷ (rekeyed words clock (begun at stream)).made) place)
  pub stands : g.tells → RecoversTo place (g.view new)

-- What the lines of a session do, as events of the primary's history, one after another.
use Rattle.std.specs.Prelude.{ℕ, ◌≡◌, ◌⊎◌, false, List, [], ◌∷◌, Option, Some, None, Ok, ⊤}
use Rattle.session_base.specs.Draws.{Draws, bytes_of, moment_in}
use Rattle.kadm_session.specs.Rekeying.{Progress, begun, one_more, rekey_ask}
use Rattle.kadm_session.specs.Renewing.{is_at_time_end, renewed_place}
use Rattle.kadm_session.specs.Steps.{ask_of, draws_after, seen_after}
use Rattle.kadm_session.specs.declared.intake.Asked.{Asked}
use Rattle.kadm_session.specs.declared.intake.Asked.TheVariants.{Nothing, Refused, Does, Rekeys, ResetsLog, WritesDump}
use Rattle.kdb_base.specs.Moment.{Moment}
use Rattle.kdb_base.specs.declared.outcomes.Refusal.{Refusal}
use Rattle.kdb_disk.specs.Files.{Files}
use Rattle.kdb_histories.specs.Asks.{Answer, Ask}
use Rattle.kdb_histories.specs.Calls.{Perform, Performs, ResetLog, Resets}
use Rattle.kdb_histories.specs.Leaving.{MayReach}
use Rattle.kdb_histories.specs.Seen.{Seen, answer_at, made_at}
use Rattle.kdb_histories.specs.Stages.{Anew, ShowsAt, stage}
use Rattle.kdb_model.specs.Laws.{IsMoment}
use Rattle.kdb_places.specs.Places.{Place}
use Rattle.kdb_plain.specs.Lists.{princ_names}
use Rattle.kdb_plain.specs.declared.states.State.{State}
use Rattle.primary_answers.specs.Listing.{names_told}
use Rattle.store_files.specs.Found.{recovers}

-- ---- one ask

-- The primary is asked so from here and answers this: the places that it makes, and the state behind them, are those of
-- its history.
abbrev pub Performed : Ask → Seen → Answer → Type 0
Performed ask at answer = Performs at.place at.state ask answer (made_at ask at)

-- it answers its own answer
abbrev pub IsDone : Ask → Seen → Type 0
IsDone ask at = Performed ask at (answer_at ask at)

-- ---- names rekeyed one after another

abbrev pub ask_next : Moment → List ℕ → Progress → Ask
ask_next clock word p = rekey_ask clock (bytes_of 512 p.stream) word

-- what holds where a name was not refused, and what where it was
abbrev pub IfGoesOn : Option Refusal → Type 0 → Type 0 → Type 0
IfGoesOn None Next End = Next
IfGoesOn (Some why) Next End = End

-- each is an event of its own, up to the first that is refused
unfoldable pub AreRekeyings : List (List ℕ) → Moment → Progress → Type 0
AreRekeyings [] clock p = ⊤
AreRekeyings (word ∷ words) clock p =
    IsDone (ask_next clock word p) p.at
    × IfGoesOn (one_more clock word p).why (AreRekeyings words clock (one_more clock word p)) ⊤

-- So many of them were done, and the place is as before the next one, or one at which its event stopped.
unfoldable pub RekeyingsReach : List (List ℕ) → Moment → Progress → Place → Type 0
RekeyingsReach [] clock p q = q ≡ p.at.place
RekeyingsReach (word ∷ words) clock p q =
    MayReach p.at.place p.at.state (Perform (ask_next clock word p)) q
    ⊎ (IsDone (ask_next clock word p) p.at
    × IfGoesOn (one_more clock word p).why (RekeyingsReach words clock (one_more clock word p) q) ⊥)

-- ---- one line

-- What a line asks for was done at the moment that came next: nothing, one event, or one after another. The log is
-- begun anew where a later time is left. A dump is no event.
abbrev pub IsPerformed : Asked → Draws → Seen → Type 0
IsPerformed Nothing draws at = ⊤
IsPerformed (Refused refusal) draws at = ⊤
IsPerformed (Does command) draws at = IsMoment (moment_in draws) × IsDone (ask_of command draws at) at
IsPerformed (Rekeys glob) draws at =
    IsMoment (moment_in draws)
    × AreRekeyings (names_told glob (princ_names at.state.princs)) (moment_in draws) (begun at draws.stream)
IsPerformed ResetsLog draws at =
    IsMoment (moment_in draws)
    × (is_at_time_end at ≡ false
    → Resets at.place (moment_in draws) (stage (renewed_place (moment_in draws) at.place) Anew ∷ []))
IsPerformed WritesDump draws at = ⊤

-- the events of a line stopped at this place
abbrev pub EventsReach : Asked → Draws → Seen → Place → Type 0
EventsReach Nothing draws at q = ⊥
EventsReach (Refused refusal) draws at q = ⊥
EventsReach (Does command) draws at q = MayReach at.place at.state (Perform (ask_of command draws at)) q
EventsReach (Rekeys glob) draws at q =
    RekeyingsReach (names_told glob (princ_names at.state.princs)) (moment_in draws) (begun at draws.stream) q
EventsReach ResetsLog draws at q =
    (is_at_time_end at ≡ false) × MayReach at.place at.state (ResetLog (moment_in draws)) q
EventsReach WritesDump draws at q = ⊥

-- The place is as before the line, or one at which its events stopped.
abbrev pub LineReaches : Asked → Draws → Seen → Place → Type 0
LineReaches asked draws at q = (q ≡ at.place) ⊎ (IsMoment (moment_in draws) × EventsReach asked draws at q)

-- ---- one line after another

-- each was performed from where the one before it led to
unfoldable pub ArePerformed : List Asked → Draws → Seen → Type 0
ArePerformed [] draws at = ⊤
ArePerformed (asked ∷ commands) draws at =
    IsPerformed asked draws at × ArePerformed commands (draws_after asked draws at) (seen_after asked draws at)

-- So many lines were performed, and the place is as before the next one, or one at which the events of that line
-- stopped.
unfoldable pub IsReached : List Asked → Draws → Seen → Place → Type 0
IsReached [] draws at q = q ≡ at.place
IsReached (asked ∷ commands) draws at q =
    LineReaches asked draws at q
    ⊎ (IsPerformed asked draws at × IsReached commands (draws_after asked draws at) (seen_after asked draws at) q)

-- the files recover to a place that is reached so
pub record RecoversWhere (Reaches : Place → Type 0) (c : Files) : Type 0 where
  pub place : Place
  pub is : recovers c ≡ Ok place
  pub reached : Reaches place

-- the rows of the place show a valid state
pub record ShowsSome (q : Place) : Type 0 where
  pub state : State
  pub shows : ShowsAt q state

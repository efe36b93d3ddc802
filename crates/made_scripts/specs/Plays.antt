-- A script as it is played: each line is a line of a session, one moment of the clock and one block of random bytes
-- each, and what is answered is counted.
use Rattle.std.specs.Prelude.{ℕ, ◌+◌, ◌≡◌, Bool, List, [], ◌∷◌, Option, Some, if◌then◌else◌}
use Rattle.kadm_session.specs.Input.{asked_by}
use Rattle.kadm_session.specs.Steps.{draws_after, is_refusal, reply_to, seen_after}
use Rattle.kadm_session.specs.declared.intake.Asked.{Asked}
use Rattle.kadm_wire.specs.LineReadings.{reading}
use Rattle.kdb_histories.specs.Seen.{Seen, seen}
use Rattle.kdb_plain.specs.declared.states.State.{State}
use Rattle.kadm_session.specs.Opened.{HasState, Opened, place_of}
use Rattle.session_base.specs.Draws.{Draws}
use Rattle.made_scripts.specs.declared.plays.Tally.{Tally}

-- what a line asks for in a database of this realm, as in a session
abbrev pub asked_line : List ℕ → List ℕ → Asked
asked_line realm line = asked_by (reading realm line)

-- ---- what was answered

abbrev pub no_tally : Tally
no_tally = record { accepted = 0; refused = 0 }

abbrev pub counted : Bool → Tally → Tally
counted refused tally =
    if refused then record { accepted = tally.accepted; refused = tally.refused + 1 }
    else record { accepted = tally.accepted + 1; refused = tally.refused }

-- ---- one line after another

-- the place and the state, what the clock and the source of random bytes have left, and what was answered so far
pub record Progress : Type 0 where
  pub at : Seen
  pub draws : Draws
  pub tally : Tally

abbrev pub progress : Seen → Draws → Tally → Progress
progress at draws tally = record { at = at; draws = draws; tally = tally }

-- the steps of a session
abbrev pub asked_more : Asked → Progress → Progress
asked_more asked p =
    progress (seen_after asked p.draws p.at) (draws_after asked p.draws p.at)
    (counted (is_refusal (reply_to asked p.draws p.at)) p.tally)

-- a line is read in the realm of the database
abbrev pub one_more : List ℕ → Progress → Progress
one_more line p = asked_more (asked_line p.at.place.realm line) p

unfoldable pub played : List (List ℕ) → Progress → Progress
played [] p = p
played (line ∷ lines) p = played lines (one_more line p)

-- ---- what the code has of it

-- this was answered, and what is open and what is left of the draws are those behind it
pub record IsAnswered (asked : Asked) (draws : Draws) (at : Seen) (refused : Bool) (o : Opened)
    (left : Option Draws) : Type 0 where
  pub refused_is : refused ≡ is_refusal (reply_to asked draws at)
  pub place_is : place_of o ≡ (seen_after asked draws at).place
  pub shows : HasState o (seen_after asked draws at).state
  pub left_is : left ≡ Some (draws_after asked draws at)

-- it is played up to here, and what these lines come to is the end of the whole
pub record IsUnderWay (end : Progress) (lines : List (List ℕ)) (o : Opened) (told : Option Draws)
    (tally : Tally) : Type 0 where
  pub state : State
  pub draws : Draws
  pub shows : HasState o state
  pub told_is : told ≡ Some draws
  pub goes_on : played lines (progress (seen (place_of o) state) draws tally) ≡ end

-- it has been played to its end
pub record IsPlayed (end : Progress) (o : Opened) (tally : Tally) : Type 0 where
  pub place_is : place_of o ≡ end.at.place
  pub tally_is : tally ≡ end.tally

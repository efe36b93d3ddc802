-- A place with a state that its rows show, and what an ask makes of both.
use Rattle.std.specs.Prelude.{ℕ, Bool, true, false, ◌||◌, nat_eq, List, [], ◌∷◌, Option, Some, None, if◌then◌else◌}
use Rattle.iprop_truths.specs.Blocks.{is_too_long, block_for}
use Rattle.iprop_truths.specs.Parts.{end_of}
use Rattle.kdb_base.specs.Moment.{Moment}
use Rattle.kdb_base.specs.Moments.{later_moment}
use Rattle.kdb_base.specs.declared.moments.Point.{Point}
use Rattle.kdb_histories.specs.Asks.{Ask, Answer, Kind, Keeps, Enters, Stashes, Outcome, clock_of, kept_op, outcome}
use Rattle.kdb_histories.specs.Stages.{Did, Anew, Stashed, Stage, places, stage}
use Rattle.kdb_model.specs.Calls.{next_moment}
use Rattle.kdb_places.specs.Places.{Place, committed, log_anew, next_point, point_of, restashed}
use Rattle.kdb_plain.specs.declared.states.State.{State}
use Rattle.princ_rows.specs.declared.entries.Op.{Op}
use Rattle.stash_file.specs.Written.{stash_text}

pub record Seen : Type 0 where
  pub place : Place
  pub state : State

abbrev pub seen : Place → State → Seen
seen place state = record { place = place; state = state }

-- ---- moments

-- the moment of a change: the clock's, or the time of the last one
abbrev pub moment_at : Moment → Place → Moment
moment_at clock p = later_moment (point_of p).time clock

-- where a log begins anew: the clock's time, or the microsecond behind the last change
abbrev pub reset_point : Moment → Place → Point
reset_point clock p = record { sno = 1; time = later_moment clock (next_moment (point_of p).time) }

-- the bytes of the stash with the state's master keys
abbrev pub stash_of : State → Moment → List ℕ
stash_of s moment = stash_text s.realm moment.secs s.masters

-- ---- a change, and the log that it begins anew

-- no serial is left, or the entry is too long
abbrev pub is_due : Op → Place → Bool
is_due op p = nat_eq (point_of p).sno 4294967295 || is_too_long op p

-- of a change, where there is one
abbrev pub is_due_of : Option Op → Place → Bool
is_due_of None p = false
is_due_of (Some op) p = is_due op p

abbrev pub reset_for : Moment → Op → Place → Place
reset_for clock op p = log_anew (reset_point clock p) p.size (block_for op p) p

-- the point that the entry gets
abbrev pub entry_point : Moment → Op → Place → Point
entry_point clock op p = if is_due op p then record { sno = 2; time = (reset_point clock p).time }
    else next_point (moment_at clock p) p

abbrev pub did : Ask → Bool → Op → Place → Place → Stage
did ask due op p q = stage q (Did ask due (point_of p) op)

-- the entry's place, and before it that of the log begun anew where that is due
abbrev pub changed : Ask → Op → Place → List Stage
changed ask op p =
    if is_due op p
    then stage (reset_for (clock_of ask) op p) Anew ∷ did ask true op p
    (committed op (reset_point (clock_of ask) p).time (reset_for (clock_of ask) op p)) ∷ []
    else did ask false op p (committed op (moment_at (clock_of ask) p) p) ∷ []

-- ---- what an ask comes to

-- whether the change that would be made is to begin the log anew
abbrev pub due_at : Ask → Seen → Bool
due_at ask at = is_due_of (kept_op at.place.rows at.state ask) at.place

abbrev pub outcome_at : Ask → Seen → Outcome
outcome_at ask at = outcome at.place.rows ask (due_at ask at) at.state

-- nothing is made, a change, or a stash
pub data Plan : Type 0 where
  Keep : Plan
  Put : (op : Op) → Plan
  Write : (bytes : List ℕ) → Plan

-- from the kind of the outcome, the change of rows, and the stash
abbrev pub planned : Kind → Option Op → List ℕ → Plan
planned Keeps kept bytes = Keep
planned Enters None bytes = Keep
planned Enters (Some op) bytes = Put op
planned Stashes kept bytes = Write bytes

-- the change is the step's own to the byte, and the stash has the state's master keys
abbrev pub plan_at : Ask → Seen → Plan
plan_at ask at =
    planned (outcome_at ask at).kind (kept_op at.place.rows at.state ask)
    (stash_of at.state (moment_at (clock_of ask) at.place))

abbrev pub made_by : Ask → Plan → Place → List Stage
made_by ask Keep p = []
made_by ask (Put op) p = changed ask op p
made_by ask (Write bytes) p = stage (restashed bytes p) Stashed ∷ []

-- the places that it makes
abbrev pub made_at : Ask → Seen → List Stage
made_at ask at = made_by ask (plan_at ask at) at.place

abbrev pub answer_at : Ask → Seen → Answer
answer_at ask at = (outcome_at ask at).answer

-- the last of the places, and the state after it
abbrev pub after_ask : Ask → Seen → Seen
after_ask ask at = seen (end_of at.place (places (made_at ask at))) (outcome_at ask at).state

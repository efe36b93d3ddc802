-- Which places a call of the primary makes of a place and the state that it stands for, in their order.
use Rattle.std.specs.Prelude.{ℕ, ◌≡◌, ◌≢◌, ◌<◌, ◌≤◌, ◌⊎◌, true, ◌&&◌, nat_eq}
use Rattle.std.specs.Prelude.{List, [], ◌∷◌, Option, Some, None, if◌then◌else◌}
use Rattle.kdb_base.specs.Moment.{Moment}
use Rattle.kdb_base.specs.Moments.{micros}
use Rattle.kdb_histories.specs.Asks.{Ask, Answer, clock_of}
use Rattle.kdb_histories.specs.Moves.{IsLeft}
use Rattle.kdb_histories.specs.Seen.{Plan, Keep, Put, Write, answer_at, changed, entry_point, is_due}
use Rattle.kdb_histories.specs.Seen.{made_at, moment_at, outcome_at, plan_at, reset_point, seen, stash_of}
use Rattle.kdb_histories.specs.Stages.{Filled, Anew, Stashed, Stage, stage}
use Rattle.kdb_places.specs.Applying.{may_apply}
use Rattle.kdb_places.specs.Places.{Place, log_anew, point_of, replaced, restashed}
use Rattle.kdb_plain.specs.States.{IsValid}
use Rattle.kdb_plain.specs.declared.states.State.{State}
use Rattle.princ_rows.specs.declared.entries.Op.{Op}
use Rattle.princ_rows.specs.Rows.{RowLists}
use Rattle.row_keys.specs.Shows.{Shows}

-- ---- what a primary is called for

pub data Call : Type 0 where
  -- a command, a rekeying or a settling
  Perform : (ask : Ask) → Call
  Stash : (clock : Moment) → Call
  ResetLog : (clock : Moment) → Call
  Load : (rows : RowLists) (clock : Moment) → Call
  -- an opening with a log size, or with none, and so many dump places
  Open : (size : Option ℕ) (room : ℕ) (clock : Moment) → Call

-- 4294967295.999999
abbrev pub last_micros : ℕ
last_micros = 4294967295999999

abbrev pub HasTimeLeft : Place → Type 0
HasTimeLeft p = micros (point_of p).time < last_micros

-- ---- a command, a rekeying or a settling

-- The operation can be committed, and the log begun anew where that is due.
pub record IsFit (p : Place) (op : Op) : Type 0 where
  pub newer : p.format ≡ 2
  pub fits : may_apply op p.rows ≡ true
  pub left : is_due op p ≡ true → HasTimeLeft p

abbrev pub MayBeFit : Place → Plan → Type 0
MayBeFit p Keep = Unit {0}
MayBeFit p (Put op) = IsFit p op
MayBeFit p (Write bytes) = Unit {0}

-- a state stays, but for a change, which leads to rows that show the state after it
abbrev pub Leads : Moment → Place → State → State → Plan → Type 0
Leads clock p before after Keep = after ≡ before
Leads clock p before after (Put op) = IsLeft p.realm (entry_point clock op p) op p.rows after
Leads clock p before after (Write bytes) = after ≡ before

-- The answer, what is made and the state after it are the step's of this state.
pub record Performs (p : Place) (s : State) (ask : Ask) (answer : Answer) (made : List Stage) : Type 0 where
  pub answers : answer ≡ answer_at ask (seen p s)
  pub leads : Leads (clock_of ask) p s (outcome_at ask (seen p s)).state (plan_at ask (seen p s))
  pub fit : MayBeFit p (plan_at ask (seen p s))
  pub is : made ≡ made_at ask (seen p s)

-- ---- the other calls

-- The stash has the master keys of the state.
pub record Restashes (p : Place) (s : State) (clock : Moment) (made : List Stage) : Type 0 where
  pub is : made ≡ stage (restashed (stash_of s (moment_at clock p)) p) Stashed ∷ []

-- The log begun anew on request.
pub record Resets (p : Place) (clock : Moment) (made : List Stage) : Type 0 where
  pub left : HasTimeLeft p
  pub is : made ≡ stage (log_anew (reset_point clock p) p.size p.block p) Anew ∷ []

pub record Loads (p : Place) (rows : RowLists) (clock : Moment) (made : List Stage) : Type 0 where
  pub left : HasTimeLeft p
  pub state : State
  pub realm : state.realm ≡ p.realm
  pub at : state.point ≡ reset_point clock p
  pub shows : Shows rows state
  pub valid : IsValid (reset_point clock p).time state
  pub is : made ≡ stage (replaced p.realm rows (reset_point clock p) p) (Filled state) ∷ []

abbrev pub size_or : Option ℕ → Place → ℕ
size_or None p = p.size
size_or (Some size) p = size

-- another log size, or format 1, begins the log anew
abbrev pub resized : Option ℕ → Moment → Place → List Stage
resized size clock p =
    if nat_eq p.format 2 && nat_eq (size_or size p) p.size then []
    else stage (log_anew (reset_point clock p) (size_or size p) p.block p) Anew ∷ []

abbrev pub IsSize : Option ℕ → Type 0
IsSize None = Unit {0}
IsSize (Some size) = 0 < size

pub record Opens (p : Place) (size : Option ℕ) (room : ℕ) (clock : Moment) (made : List Stage) : Type 0 where
  pub from : 1 ≤ room
  pub upto : room ≤ 16
  pub some : IsSize size
  pub left : made ≢ [] → HasTimeLeft p
  pub is : made ≡ resized size clock p

-- the call makes these places and no others
abbrev pub CallMakes : Place → State → Call → Answer → List Stage → Type 0
CallMakes p s (Perform ask) answer made = Performs p s ask answer made
CallMakes p s (Stash clock) answer made = Restashes p s clock made
CallMakes p s (ResetLog clock) answer made = Resets p clock made
CallMakes p s (Load rows clock) answer made = Loads p rows clock made
CallMakes p s (Open size room clock) answer made = Opens p size room clock made

-- ---- why a log begins anew

-- The call begins the log anew for one of its causes: an entry behind the last serial or as long as a block, a request,
-- or an opening of format 1 or with another size.
abbrev pub ResetCause : Place → Call → List Stage → Type 0
ResetCause p (Perform ask) made = (op : Op) × (made ≡ changed ask op p) × (is_due op p ≡ true)
ResetCause p (Stash clock) made = ⊥
ResetCause p (ResetLog clock) made = Unit {0}
ResetCause p (Load rows clock) made = ⊥
ResetCause p (Open size room clock) made = (p.format ≢ 2) ⊎ ((n : ℕ) × (size ≡ Some n) × (n ≢ p.size))

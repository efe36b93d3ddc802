-- The history of a database: its places, what made each of them, and what all of them come to.
use Rattle.std.specs.Prelude.{◌≡◌, Bool, List, [], ◌∷◌, ◌++◌}
use Rattle.kdb_base.specs.declared.moments.Point.{Point}
use Rattle.kdb_histories.specs.Asks.{Ask, state_by}
use Rattle.kdb_model.specs.Laws.{at_point}
use Rattle.kdb_places.specs.Places.{Place, base_marker, change, no_point, point_of}
use Rattle.kdb_plain.specs.States.{IsValid}
use Rattle.kdb_plain.specs.declared.states.State.{State}
use Rattle.princ_rows.specs.declared.entries.Entry.{Entry}
use Rattle.princ_rows.specs.declared.entries.Op.{Op}
use Rattle.row_keys.specs.Shows.{Shows}

-- what made a place
pub data Deed : Type 0 where
  -- a creation or a load, with the state that its rows show
  Filled : (state : State) → Deed
  -- an accepted change, as it was judged at this point, and the change of rows that it is
  Did : (ask : Ask) (due : Bool) (point : Point) (op : Op) → Deed
  -- the log was begun anew
  Anew : Deed
  Stashed : Deed

pub record Stage : Type 0 where
  pub place : Place
  pub deed : Deed

abbrev pub stage : Place → Deed → Stage
stage place deed = record { place = place; deed = deed }

abbrev pub places : List Stage → List Place
places [] = []
places (s ∷ ss) = s.place ∷ places ss

-- those that were made, in their order, upon a history that has its newest first
abbrev pub onto : List Stage → List Stage → List Stage
onto [] history = history
onto (s ∷ ss) history = onto ss (s ∷ history)

-- ---- what a history comes to, the newest first

abbrev pub no_state : State
no_state = record { realm = []; masters = []; activations = []; princs = []; policies = []; point = no_point }

-- the state at this point; a change is judged at the point before a log that it begins anew
abbrev pub state_after : Deed → Point → State → State
state_after (Filled s) at before = s
state_after (Did ask due point op) at before = state_by ask due (at_point point before)
state_after Anew at before = at_point at before
state_after Stashed at before = before

abbrev pub fold : List Stage → State
fold [] = no_state
fold (s ∷ ss) = state_after s.deed (point_of s.place) (fold ss)

-- the entries since the last base marker
abbrev pub entries_after : Deed → Point → List Entry → List Entry
entries_after (Filled s) at before = base_marker at ∷ []
entries_after (Did ask due point op) at before = before ++ change op at ∷ []
entries_after Anew at before = base_marker at ∷ []
entries_after Stashed at before = before

abbrev pub epoch : List Stage → List Entry
epoch [] = []
epoch (s ∷ ss) = entries_after s.deed (point_of s.place) (epoch ss)

-- The rows show the state, which has the place's realm and point and is valid there.
pub record ShowsAt (p : Place) (s : State) : Type 0 where
  pub realm : s.realm ≡ p.realm
  pub at : s.point ≡ point_of p
  pub shows : Shows p.rows s
  pub valid : IsValid (point_of p).time s

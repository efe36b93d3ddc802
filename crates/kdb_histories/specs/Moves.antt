-- One place of a history made of another, by one deed.
use Rattle.std.specs.Prelude.{ℕ, ◌≡◌, ◌≢◌, ◌<◌, ◌≤◌, Bool, true, List, [], ◌∷◌, Some}
use Rattle.kdb_base.specs.Moment.{Moment}
use Rattle.kdb_base.specs.Moments.{micros}
use Rattle.kdb_base.specs.declared.moments.Point.{Point}
use Rattle.kdb_histories.specs.Asks.{Ask, state_by}
use Rattle.kdb_histories.specs.Stages.{Deed, Filled, Did, Anew, Stashed, Stage, state_after}
use Rattle.kdb_model.specs.Laws.{at_point}
use Rattle.kdb_places.specs.Applying.{may_apply}
use Rattle.kdb_places.specs.Places.{Place, committed, log_anew, next_point, point_of, replaced, restashed}
use Rattle.kdb_plain.specs.States.{IsValid}
use Rattle.kdb_plain.specs.declared.states.State.{State}
use Rattle.princ_rows.specs.Entries.{entry_len}
use Rattle.princ_rows.specs.declared.entries.Op.{Op}
use Rattle.princ_rows.specs.Effects.{effect}
use Rattle.princ_rows.specs.Rows.{RowLists}
use Rattle.row_keys.specs.Shows.{Shows}

-- The state after a change, of this realm and at this point, is what the rows after the operation show.
pub record IsLeft (realm : List ℕ) (point : Point) (op : Op) (rows : RowLists) (after : State) : Type 0 where
  pub same : after.realm ≡ realm
  pub at : after.point ≡ point
  pub shows : Shows (effect (Some op) rows) after
  pub valid : IsValid point.time after

-- A change, at a time that is not before the last one.
pub record IsChange (p : Place) (before : State) (ask : Ask) (due : Bool) (point : Point) (op : Op)
    (q : Place) : Type 0 where
  pub time : Moment
  pub not_before : micros (point_of p).time ≤ micros time
  pub fits : may_apply op p.rows ≡ true
  pub newer : p.format ≡ 2
  pub short : entry_len (Some op) < p.block
  pub serial : (point_of p).sno ≢ 4294967295
  pub is : q ≡ committed op time p
  pub leaves : IsLeft p.realm (next_point time p) op p.rows (state_by ask due (at_point point before))

-- The log begun anew, at serial 1 and a later time, in whole seconds too.
pub record IsReset (p q : Place) : Type 0 where
  pub time : Moment
  pub later : micros (point_of p).time < micros time
  pub since : (point_of p).time.secs ≤ time.secs
  pub size : ℕ
  pub some : 0 < size
  pub block : ℕ
  pub is : q ≡ log_anew (record { sno = 1; time = time }) size block p

-- Other rows, at serial 1 and a later time.
pub record IsLoad (p : Place) (state : State) (q : Place) : Type 0 where
  pub time : Moment
  pub later : micros (point_of p).time < micros time
  pub rows : RowLists
  pub is : q ≡ replaced p.realm rows (record { sno = 1; time = time }) p
  pub realm : state.realm ≡ p.realm
  pub at : state.point ≡ record { sno = 1; time = time }
  pub shows : Shows rows state
  pub valid : IsValid time state

pub record IsRestash (p q : Place) : Type 0 where
  pub bytes : List ℕ
  pub is : q ≡ restashed bytes p

-- from a place and the state that its rows show
abbrev pub Moves : Place → State → Deed → Place → Type 0
Moves p before (Filled state) q = IsLoad p state q
Moves p before (Did ask due point op) q = IsChange p before ask due point op q
Moves p before Anew q = IsReset p q
Moves p before Stashed q = IsRestash p q

-- each is made of the one before
abbrev pub IsPath : Place → State → List Stage → Type 0
IsPath p before [] = Unit {0}
IsPath p before (t ∷ ts) =
    Moves p before t.deed t.place × IsPath t.place (state_after t.deed (point_of t.place) before) ts

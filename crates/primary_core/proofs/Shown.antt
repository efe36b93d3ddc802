-- The states that the rows of a primary show, at each place to which a change or an opening may come.
use Rattle.std.proofs.Common.{◌≡◌, ◌<◌, ◌≤◌, ◌+◌, ◌&&◌, ℕ, Bool, true, false, List, [], ◌∷◌, Option}
use Rattle.std.proofs.Common.{Result, Ok, Err, inl, inr, refl, sym, ap, subst, ◌∙◌, arith, eqb-true}
use Rattle.std.specs.Prelude.{OnErr, OnOk, if◌then◌else◌, nat_eq}
use Rattle.iprop_truths.specs.Blocks.{block_for}
use Rattle.iprop_truths.specs.Parts.{IsPart, end_of}
use Rattle.kdb_base.specs.Moment.{Moment}
use Rattle.kdb_base.specs.declared.moments.Point.{Point}
use Rattle.kdb_base.specs.declared.outcomes.Halt.{Halt}
use Rattle.kdb_base.specs.declared.versions.Master.{Master}
use Rattle.kdb_histories.proofs.Growing.{StaysValid}
use Rattle.kdb_histories.proofs.Times.{reset_since}
use Rattle.kdb_histories.specs.Calls.{resized, size_or}
use Rattle.kdb_histories.specs.Moves.{IsLeft}
use Rattle.kdb_histories.specs.Seen.{entry_point, is_due, moment_at, reset_for, reset_point}
use Rattle.kdb_histories.specs.Stages.{Anew, ShowsAt, places, stage}
use Rattle.kdb_model.specs.Laws.{IsMoment, at_point}
use Rattle.kdb_places.proofs.Points.{committed_point, first_point}
use Rattle.kdb_places.specs.Places.{Place, base_marker, committed, log_anew, next_point, no_point, point_of}
use Rattle.kdb_plain.specs.States.{IsValid}
use Rattle.kdb_plain.specs.declared.states.State.{State}
use Rattle.performed_plans.specs.Changes.{change_places}
use Rattle.primary_core.proofs.Asked.{secs_behind}
use Rattle.primary_core.specs.Opened.{HasState, IsOpened, IsShown, MayMake, Opened, masters_behind, place_of}
use Rattle.primary_core.specs.declared.decided.DecidedChange.{DecidedChange}
use Rattle.primary_core.specs.Opening.{OpensAt}
use Rattle.princ_rows.specs.declared.entries.Op.{Op}
use Rattle.princ_rows.specs.Rows.{RowLists}
use Rattle.row_keys.proofs.Effects.{shows_at}
use Rattle.row_keys.specs.Shows.{Shows}
use Rattle.row_keys.specs.Sound.{HasState as HasStateOf, judged}

-- ---- where a log is begun anew

pub reset_shows : (valid : StaysValid) (p : Place) (clock : Moment) (size block : ℕ) (s : State)
    → IsMoment clock → ShowsAt p s
    → ShowsAt (log_anew (reset_point clock p) size block p) (at_point (reset_point clock p) s)
reset_shows valid p clock size block s moment shows =
    let base = reset_point clock p in
    let at : point_of (log_anew base size block p) ≡ base = first_point no_point (base_marker base) in
    let later = valid.later s (point_of p).time base.time (reset_since clock p moment) shows.valid in
    record {
      realm = shows.realm;
      at = sym at;
      shows = shows_at p.rows base s shows.shows;
      valid = subst (λ (x : Point). IsValid x.time (at_point base s)) (sym at) (valid.point s base.time base later);
    }

reset_shown : (valid : StaysValid) (p : Place) (clock : Moment) (size block : ℕ) (masters : List Master)
    → IsMoment clock → IsShown p masters
    → IsShown (log_anew (reset_point clock p) size block p) masters
reset_shown valid p clock size block masters moment h = record {
  state = at_point (reset_point clock p) h.state;
  shows = reset_shows valid p clock size block h.state moment h.shows;
  masters_are = h.masters_are;
}

-- ---- behind a change

-- the two ways of a change
abbrev places_by : Bool → Moment → Op → Place → List Place
places_by due clock op p =
    if due
    then reset_for clock op p ∷ committed op (reset_point clock p).time (reset_for clock op p) ∷ []
    else committed op (moment_at clock p) p ∷ []

abbrev point_by : Bool → Moment → Place → Point
point_by due clock p =
    if due then record { sno = 2; time = (reset_point clock p).time } else next_point (moment_at clock p) p

shows_by : (due : Bool) (p : Place) (clock : Moment) (op : Op) (t : State) → 0 < p.size
    → IsLeft p.realm (point_by due clock p) op p.rows t
    → ShowsAt (end_of p (places_by due clock op p)) t
shows_by false p clock op t sized left =
    let at : point_of (committed op (moment_at clock p) p) ≡ next_point (moment_at clock p) p =
    committed_point op (moment_at clock p) p sized in
    record {
      realm = left.same;
      at = left.at ∙ sym at;
      shows = left.shows;
      valid = subst (λ (x : Point). IsValid x.time t) (sym at) left.valid;
    }
shows_by true p clock op t sized left =
    let base = reset_point clock p in
    let q = reset_for clock op p in
    let first : point_of q ≡ base = first_point no_point (base_marker base) in
    let point : Point = record { sno = 2; time = base.time } in
    let next : next_point base.time q ≡ point =
    ap (λ (x : Point). let y : Point = record { sno = x.sno + 1; time = base.time } in y) first in
    let at : point_of (committed op base.time q) ≡ point = committed_point op base.time q sized ∙ next in
    record {
      realm = left.same;
      at = left.at ∙ sym at;
      shows = left.shows;
      valid = subst (λ (x : Point). IsValid x.time t) (sym at) left.valid;
    }

pub end_shows : (p : Place) (clock : Moment) (op : Op) (t : State) → 0 < p.size
    → IsLeft p.realm (entry_point clock op p) op p.rows t
    → ShowsAt (end_of p (change_places clock op p)) t
end_shows p clock op t sized left = shows_by (is_due op p) p clock op t sized left

-- a place of format 2 whose rows show a state with the master keys
pub record Stands (q : Place) (masters : List Master) : Type 0 where
  pub shown : IsShown q masters
  pub newer : q.format ≡ 2

-- the rows of before at a place that is not earlier
rows_shown : (valid : StaysValid) (p q : Place) (masters : List Master) → IsShown p masters → q.realm ≡ p.realm
    → q.rows ≡ p.rows
    → (point_of p).time.secs ≤ (point_of q).time.secs → IsShown q masters
rows_shown valid p q masters h realm rows since =
    let at : Point = point_of q in
    record {
      state = at_point at h.state;
      shows = record {
        realm = h.shows.realm ∙ sym realm;
        at = refl;
        shows = subst (λ (x : RowLists). Shows x (at_point at h.state)) (sym rows)
            (shows_at p.rows at h.state h.shows.shows);
        valid = valid.point h.state at.time at (valid.later h.state (point_of p).time at.time since h.shows.valid);
      };
      masters_are = h.masters_are;
    }

-- A place at which a change stopped that did not reach the rows.
stopped_by : (due : Bool) (valid : StaysValid) (p : Place) (clock : Moment) (op : Op) (masters : List Master)
    (q : Place) → IsMoment clock → 0 < p.size
    → Stands p masters → q.rows ≡ p.rows → IsPart p (places_by due clock op p) q → Stands q masters
stopped_by false valid p clock op masters q moment sized before rows (inl e) =
    subst (λ (x : Place). Stands x masters) (sym e) before
stopped_by false valid p clock op masters q moment sized before rows (inr e) =
    let at : point_of q ≡ next_point (moment_at clock p) p =
    ap point_of e ∙ committed_point op (moment_at clock p) p sized in
    record {
      shown = rows_shown valid p q masters before.shown (ap (λ (x : Place). x.realm) e) rows
          (subst (λ (x : Point). (point_of p).time.secs ≤ x.time.secs) (sym at)
          (secs_behind (point_of p).time clock moment.usecs));
      newer = ap (λ (x : Place). x.format) e ∙ before.newer;
    }
stopped_by true valid p clock op masters q moment sized before rows (inl e) =
    subst (λ (x : Place). Stands x masters) (sym e) before
stopped_by true valid p clock op masters q moment sized before rows (inr (inl e)) =
    subst (λ (x : Place). Stands x masters) (sym e)
    (record { shown = reset_shown valid p clock p.size (block_for op p) masters moment before.shown; newer = refl })
stopped_by true valid p clock op masters q moment sized before rows (inr (inr e)) =
    let base = reset_point clock p in
    let anew = reset_for clock op p in
    let point : Point = record { sno = 2; time = base.time } in
    let first : point_of anew ≡ base = first_point no_point (base_marker base) in
    let next : next_point base.time anew ≡ point =
    ap (λ (x : Point). let y : Point = record { sno = x.sno + 1; time = base.time } in y) first in
    let at : point_of q ≡ point = ap point_of e ∙ (committed_point op base.time anew sized ∙ next) in
    record {
      shown = rows_shown valid p q masters before.shown (ap (λ (x : Place). x.realm) e) rows
          (subst (λ (x : Point). (point_of p).time.secs ≤ x.time.secs) (sym at) (reset_since clock p moment));
      newer = ap (λ (x : Place). x.format) e;
    }

end_newer : (due : Bool) (p : Place) (clock : Moment) (op : Op) → p.format ≡ 2
    → (end_of p (places_by due clock op p)).format ≡ 2
end_newer false p clock op newer = newer
end_newer true p clock op newer = refl

-- ---- a primary behind a change

opened_by : (old new : Opened) → IsOpened old → Stands (place_of new) new.masters → new.room ≡ old.room
    → new.dumps ≡ old.dumps → IsOpened new
opened_by old new opened stands room dumps = record {
  state = stands.shown.state;
  has = record { shows = stands.shown.shows; masters_are = stands.shown.masters_are };
  newer = stands.newer;
  from = subst (λ (n : ℕ). 1 ≤ n) (sym room) opened.from;
  upto = subst (λ (n : ℕ). n ≤ 16) (sym room) opened.upto;
  within = subst (λ (n : ℕ). n ≤ new.room) (sym dumps) (subst (λ (n : ℕ). old.dumps ≤ n) (sym room) opened.within);
}

-- the dumps, their places and the master keys are those of before
pub record IsBeside (old new : Opened) : Type 0 where
  pub masters : new.masters ≡ old.masters
  pub room : new.room ≡ old.room
  pub dumps : new.dumps ≡ old.dumps

pub opened_at : (old new : Opened) → IsOpened old → Stands (place_of new) old.masters → IsBeside old new → IsOpened new
opened_at old new opened stands beside =
    opened_by old new opened (subst (Stands (place_of new)) (sym beside.masters) stands) beside.room beside.dumps

module _ (valid : StaysValid) (old new : Opened) (clock : Moment) (change : DecidedChange) (moment : IsMoment clock)
    (opened : IsOpened old)
    (may : MayMake old clock change) (sized : 0 < (place_of old).size) (room : new.room ≡ old.room)
    (dumps : new.dumps ≡ old.dumps) where
  -- it stopped, and the master keys are those of before
  stopped_open : new.masters ≡ old.masters → (place_of new).rows ≡ (place_of old).rows
      → IsPart (place_of old) (change_places clock change.op (place_of old)) (place_of new) → IsOpened new
  stopped_open masters rows part =
      let p = place_of old in
      let before : Stands p old.masters = record {
        shown = record { state = opened.state; shows = opened.has.shows; masters_are = opened.has.masters_are };
        newer = opened.newer;
      } in
      let stands = stopped_by (is_due change.op p) valid p clock change.op old.masters
      (place_of new) moment sized before rows part in
      opened_by old new opened (subst (Stands (place_of new)) (sym masters) stands) room dumps

  -- it was made, and the master keys are those behind it
  made_open : new.masters ≡ masters_behind old change.masters
      → place_of new ≡ end_of (place_of old) (change_places clock change.op (place_of old)) → IsOpened new
  made_open masters is =
      let p = place_of old in
      let leads = may.leads opened.state opened.has in
      let behind : Stands (end_of p (change_places clock change.op p)) new.masters = record {
        shown = record {
          state = leads.state;
          shows = end_shows p clock change.op leads.state sized leads.is;
          masters_are = leads.masters_are ∙ sym masters;
        };
        newer = end_newer (is_due change.op p) p clock change.op opened.newer;
      } in
      opened_by old new opened (subst (λ (x : Place). Stands x new.masters) (sym is) behind) room dumps

  pub any_open : (A : Type 0) (r : Result A Halt) → OnOk r (new.masters ≡ masters_behind old change.masters)
      → OnErr r (new.masters ≡ old.masters)
      → OnOk r (place_of new ≡ end_of (place_of old) (change_places clock change.op (place_of old)))
      → OnErr r ((place_of new).rows ≡ (place_of old).rows)
      → OnErr r (IsPart (place_of old) (change_places clock change.op (place_of old)) (place_of new)) → IsOpened new
  any_open A (Ok done) masters stay made rows stopped = made_open masters made
  any_open A (Err halt) masters stay made rows stopped = stopped_open stay rows stopped

-- the state that was led to is the primary's
made_state : (old new : Opened) (clock : Moment) (change : DecidedChange) (t : State) → 0 < (place_of old).size
    → new.masters ≡ masters_behind old change.masters
    → place_of new ≡ end_of (place_of old) (change_places clock change.op (place_of old))
    → IsLeft (place_of old).realm (entry_point clock change.op (place_of old)) change.op (place_of old).rows t
    → t.masters ≡ masters_behind old change.masters
    → HasState new t
made_state old new clock change t sized behind is left masters = record {
  shows = subst (λ (x : Place). ShowsAt x t) (sym is) (end_shows (place_of old) clock change.op t sized left);
  masters_are = masters ∙ sym behind;
}

pub any_state : (A : Type 0) (r : Result A Halt) (old new : Opened) (clock : Moment) (change : DecidedChange)
    (t : State) → 0 < (place_of old).size
    → OnOk r (new.masters ≡ masters_behind old change.masters)
    → OnOk r (place_of new ≡ end_of (place_of old) (change_places clock change.op (place_of old)))
    → IsLeft (place_of old).realm (entry_point clock change.op (place_of old)) change.op (place_of old).rows t
    → t.masters ≡ masters_behind old change.masters
    → OnOk r (HasState new t)
any_state A (Ok done) old new clock change t sized behind is left masters =
    made_state old new clock change t sized behind is left masters
any_state A (Err halt) old new clock change t sized behind is left masters = tt

-- ---- an opening

renewed_by : (same : Bool) (valid : StaysValid) (p : Place) (size : Option ℕ) (clock : Moment) (masters : List Master)
    → IsMoment clock
    → (same ≡ true → p.format ≡ 2) → IsShown p masters
    → Stands (end_of p
    (places (if same then [] else stage (log_anew (reset_point clock p) (size_or size p) p.block p) Anew ∷ []))) masters
renewed_by true valid p size clock masters moment newer shown = record { shown = shown; newer = newer refl }
renewed_by false valid p size clock masters moment newer shown = record {
  shown = reset_shown valid p clock (size_or size p) p.block masters moment shown;
  newer = refl;
}

first_of : (a b : Bool) → (a && b) ≡ true → a ≡ true
first_of true b e = refl
first_of false b e = absurd cc

pub renewed : (valid : StaysValid) (p : Place) (size : Option ℕ) (clock : Moment) (masters : List Master)
    → IsMoment clock → IsShown p masters
    → Stands (end_of p (places (resized size clock p))) masters
renewed valid p size clock masters moment shown =
    renewed_by (nat_eq p.format 2 && nat_eq (size_or size p) p.size) valid p size clock masters moment
    (λ e. eqb-true p.format 2 (first_of (nat_eq p.format 2) (nat_eq (size_or size p) p.size) e)) shown

pub opened_renewed : (valid : StaysValid) (p : Place) (size : Option ℕ) (clock : Moment) (o : Opened) → IsMoment clock
    → IsShown p o.masters
    → place_of o ≡ end_of p (places (resized size clock p)) → 1 ≤ o.room → o.room ≤ 16 → o.dumps ≡ 0 → IsOpened o
opened_renewed valid p size clock o moment shown is from upto none =
    let stands =
    subst (λ (x : Place). Stands x o.masters) (sym is) (renewed valid p size clock o.masters moment shown) in
    record {
      state = stands.shown.state;
      has = record { shows = stands.shown.shows; masters_are = stands.shown.masters_are };
      newer = stands.newer;
      from = from;
      upto = upto;
      within = omega (arith, none);
    }

-- rows that are sound show a state
pub shown_soundly : (p : Place) (masters : List Master) → OpensAt p masters
    → HasStateOf (judged masters p.realm (point_of p).time.secs) p.rows (point_of p)
    → IsShown p masters
shown_soundly p masters opens has = record {
  state = has.state;
  shows = record {
    realm = has.is.realm_is;
    at = has.is.point_is;
    shows = has.is.shows;
    valid = has.is.valid (point_of p).time refl;
  };
  masters_are = has.is.masters_are;
}

-- A log that is begun anew on request, and a stash that is written, as one step of the store each.
use Rattle.std.proofs.Common.{◌≡◌, ◌≤◌, ℕ, Bool, false, List, [], ◌∷◌, Option, Some}
use Rattle.std.proofs.Common.{None, Result, Ok, Err, refl, sym, ap, subst, ◌∙◌}
use Rattle.std.specs.Prelude.{OnErr, OnOk, if◌then◌else◌}
use Rattle.acl_text.specs.declared.rules.AclLine.{AclLine}
use Rattle.kdb_base.specs.Moment.{Moment}
use Rattle.kdb_base.specs.declared.outcomes.Halt.{Halt}
use Rattle.kdb_base.specs.declared.outcomes.Refusal.{Refusal}
use Rattle.kdb_base.specs.declared.outcomes.Refusal.TheVariants.{Closed}
use Rattle.kdb_base.specs.declared.versions.Master.{Master}
use Rattle.kdb_histories.proofs.Growing.{StaysValid}
use Rattle.kdb_histories.specs.Asks.{Answer}
use Rattle.kdb_histories.specs.Calls.{CallMakes, ResetLog, Stash}
use Rattle.kdb_histories.specs.Seen.{moment_at, reset_point}
use Rattle.kdb_histories.specs.Stages.{Anew, ShowsAt, Stashed, stage}
use Rattle.kdb_model.specs.Calls.{is_last}
use Rattle.kdb_model.specs.Laws.{IsMoment, IsPoint, at_point}
use Rattle.kdb_places.specs.Places.{Place, log_anew, point_of, restashed}
use Rattle.kdb_plain.specs.declared.states.State.{State}
use Rattle.primary_core.proofs.Decisions.{time_left}
use Rattle.primary_core.proofs.Shown.{IsBeside, Stands, opened_at, reset_shows}
use Rattle.primary_core.specs.Opened.{HasState, IsOpened, Opened, place_of}
use Rattle.primary_core.specs.Refusing.{names_refused, restashed_at, setting_denied, unless_closed}
use Rattle.princ_name.specs.Names.{NameParts}
use Rattle.stash_file.specs.Written.{stash_text}

-- ---- a log begun anew

abbrev pub begun_at : Moment → Place → Place
begun_at clock p = log_anew (reset_point clock p) p.size p.block p

-- the place as it was, where a step failed
stays_open : (old new : Opened) → IsOpened old → IsBeside old new → place_of new ≡ place_of old → IsOpened new
stays_open old new opened beside is =
    let before : Stands (place_of old) old.masters = record {
      shown = record { state = opened.state; shows = opened.has.shows; masters_are = opened.has.masters_are };
      newer = opened.newer;
    } in
    opened_at old new opened (subst (λ (x : Place). Stands x old.masters) (sym is) before) beside

module _ (valid : StaysValid) (old new : Opened) (clock : Moment) (moment : IsMoment clock)
    (beside : IsBeside old new) where
  begun_state : (s : State) → HasState old s → place_of new ≡ begun_at clock (place_of old)
      → HasState new (at_point (reset_point clock (place_of old)) s)
  begun_state s has is = record {
    shows = subst (λ (x : Place). ShowsAt x (at_point (reset_point clock (place_of old)) s)) (sym is)
        (reset_shows valid (place_of old) clock (place_of old).size (place_of old).block s moment has.shows);
    masters_are = has.masters_are ∙ sym beside.masters;
  }

  begun_open : IsOpened old → place_of new ≡ begun_at clock (place_of old) → IsOpened new
  begun_open opened is =
      let shows = reset_shows valid (place_of old) clock (place_of old).size
      (place_of old).block opened.state moment opened.has.shows in
      let after : Stands (begun_at clock (place_of old)) old.masters = record {
        shown = record {
          state = at_point (reset_point clock (place_of old)) opened.state;
          shows = shows;
          masters_are = opened.has.masters_are;
        };
        newer = refl;
      } in
      opened_at old new opened (subst (λ (x : Place). Stands x old.masters) (sym is) after) beside

  pub any_begun : (A : Type 0) (r : Result A Halt) → IsOpened old
      → OnOk r (place_of new ≡ begun_at clock (place_of old)) → OnErr r (place_of new ≡ place_of old) → IsOpened new
  any_begun A (Ok done) opened made stopped = begun_open opened made
  any_begun A (Err halt) opened made stopped = stays_open old new opened beside stopped

  pub any_begun_state : (A : Type 0) (r : Result A Halt) (s : State) → HasState old s
      → OnOk r (place_of new ≡ begun_at clock (place_of old))
      → OnOk r (HasState new (at_point (reset_point clock (place_of old)) s))
  any_begun_state A (Ok done) s has made = begun_state s has made
  any_begun_state A (Err halt) s has made = tt

-- ---- the call, as a history has it

pub reset_makes : (p : Place) (s : State) (clock : Moment) (answer : Answer) → IsPoint (point_of p)
    → is_last (point_of p).time ≡ false
    → CallMakes p s (ResetLog clock) answer (stage (begun_at clock p) Anew ∷ [])
reset_makes p s clock answer point more = record { left = time_left (point_of p).time point.time more; is = refl }

-- ---- a stash

pub stash_makes : (o : Opened) (s : State) (clock : Moment) (answer : Answer) → HasState o s
    → CallMakes (place_of o) s (Stash clock) answer (stage (restashed_at clock o) Stashed ∷ [])
stash_makes o s clock answer has = record {
  is = ap (λ (bytes : List ℕ). stage (restashed bytes (place_of o)) Stashed ∷ [])
      (ap (λ (realm : List ℕ). stash_text realm (moment_at clock (place_of o)).secs o.masters) (sym has.shows.realm)
      ∙ ap (λ (masters : List Master). stash_text s.realm (moment_at clock (place_of o)).secs masters)
      (sym has.masters_are));
}

module _ (old new : Opened) (text : List ℕ) (beside : IsBeside old new) where
  restashed_state : (s : State) → HasState old s → place_of new ≡ restashed text (place_of old) → HasState new s
  restashed_state s has is =
      let shown : ShowsAt (restashed text (place_of old)) s = record {
        realm = has.shows.realm;
        at = has.shows.at;
        shows = has.shows.shows;
        valid = has.shows.valid;
      } in
      record {
        shows = subst (λ (x : Place). ShowsAt x s) (sym is) shown;
        masters_are = has.masters_are ∙ sym beside.masters;
      }

  stopped_state : (s : State) → HasState old s → place_of new ≡ place_of old → HasState new s
  stopped_state s has is = record {
    shows = subst (λ (x : Place). ShowsAt x s) (sym is) has.shows;
    masters_are = has.masters_are ∙ sym beside.masters;
  }

  pub any_restashed_state : (A : Type 0) (r : Result A Halt) (s : State) → HasState old s
      → OnOk r (place_of new ≡ restashed text (place_of old))
      → OnErr r (place_of new ≡ place_of old) → HasState new s
  any_restashed_state A (Ok done) s has made stopped = restashed_state s has made
  any_restashed_state A (Err halt) s has made stopped = stopped_state s has stopped

  restashed_open : IsOpened old → place_of new ≡ restashed text (place_of old) → IsOpened new
  restashed_open opened is =
      let has = restashed_state opened.state opened.has is in
      record {
        state = opened.state;
        has = has;
        newer = ap (λ (x : Place). x.format) is ∙ opened.newer;
        from = subst (λ (n : ℕ). 1 ≤ n) (sym beside.room) opened.from;
        upto = subst (λ (n : ℕ). n ≤ 16) (sym beside.room) opened.upto;
        within = subst (λ (n : ℕ). n ≤ new.room) (sym beside.dumps)
            (subst (λ (n : ℕ). old.dumps ≤ n) (sym beside.room) opened.within);
      }

  pub any_restashed : (A : Type 0) (r : Result A Halt) → IsOpened old
      → OnOk r (place_of new ≡ restashed text (place_of old))
      → OnErr r (place_of new ≡ place_of old) → IsOpened new
  any_restashed A (Ok done) opened made stopped = restashed_open opened made
  any_restashed A (Err halt) opened made stopped = stays_open old new opened beside stopped

-- ---- causes

pub not_closed : (o : Opened) (other : Option Refusal) → o.kept.broken ≡ false → unless_closed o other ≡ other
not_closed o other e = ap (λ (b : Bool). if b then Some Closed else other) e

-- who is admitted is not denied
pub admitted : (o : Opened) (client : NameParts) (access : Option (List AclLine)) → o.kept.broken ≡ false
    → names_refused o client access ≡ None
    → setting_denied o client access ≡ None
admitted o client access whole e = sym (not_closed o (setting_denied o client access) whole) ∙ e

-- Rows and master keys put in the place of those that there were.
use Rattle.std.proofs.Common.{◌≡◌, ◌≤◌, ℕ, List, refl, sym, ap, subst, ◌∙◌}
use Rattle.kdb_base.specs.declared.moments.Point.{Point}
use Rattle.kdb_base.specs.declared.versions.Master.{Master}
use Rattle.kdb_histories.specs.Stages.{ShowsAt}
use Rattle.kdb_places.proofs.Points.{first_point}
use Rattle.kdb_places.specs.Places.{Place, base_marker, no_point, point_of, replaced}
use Rattle.kdb_plain.specs.States.{IsValid}
use Rattle.kdb_plain.specs.declared.states.State.{State}
use Rattle.primary_core.specs.Opened.{HasState, IsOpened, Opened, place_of}
use Rattle.princ_rows.specs.Rows.{RowLists}
use Rattle.row_keys.specs.Sound.{HasState as HasStateOf, ShowsValid, judged}

-- the place with these rows
abbrev pub filled : RowLists → Point → Place → Place
filled rows base p = replaced p.realm rows base p

filled_shows : (p : Place) (rows : RowLists) (base : Point) (masters : List Master) (t : State)
    → ShowsValid (judged masters p.realm base.time.secs) rows base t
    → ShowsAt (filled rows base p) t
filled_shows p rows base masters t h =
    let at : point_of (filled rows base p) ≡ base = first_point no_point (base_marker base) in
    record {
      realm = h.realm_is;
      at = h.point_is ∙ sym at;
      shows = h.shows;
      valid = subst (λ (x : Point). IsValid x.time t) (sym at) (h.valid base.time refl);
    }

module _ (old new : Opened) (rows : RowLists) (base : Point) where
  pub filled_state : (masters : List Master) (t : State)
      → ShowsValid (judged masters old.kept.realm base.time.secs) rows base t
      → place_of new ≡ filled rows base (place_of old) → new.masters ≡ masters → HasState new t
  filled_state masters t h is masters_are = record {
    shows = subst (λ (x : Place). ShowsAt x t) (sym is) (filled_shows (place_of old) rows base masters t h);
    masters_are = h.masters_are ∙ sym masters_are;
  }

  pub filled_open : (masters : List Master) → IsOpened old
      → HasStateOf (judged masters old.kept.realm base.time.secs) rows base
      → place_of new ≡ filled rows base (place_of old) → new.masters ≡ masters → new.dumps ≡ old.dumps
      → new.room ≡ old.room → IsOpened new
  filled_open masters opened h is masters_are dumps room = record {
    state = h.state;
    has = filled_state masters h.state h.is is masters_are;
    newer = ap (λ (x : Place). x.format) is;
    from = subst (λ (n : ℕ). 1 ≤ n) (sym room) opened.from;
    upto = subst (λ (n : ℕ). n ≤ 16) (sym room) opened.upto;
    within = subst (λ (n : ℕ). n ≤ new.room) (sym dumps) (subst (λ (n : ℕ). old.dumps ≤ n) (sym room) opened.within);
  }

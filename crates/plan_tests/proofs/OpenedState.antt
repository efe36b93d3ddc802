-- The state that is opened is the one that the rows show.
use Rattle.std.proofs.Common.{◌≡◌, ℕ, ◌<◌, ◌^◌, List, Some, arith, sym, ap, subst, ◌∙◌}
use Rattle.std.specs.List.{AllZip}
use Rattle.kdb_base.specs.Moment.{Moment}
use Rattle.kdb_base.specs.declared.moments.Point.{Point}
use Rattle.kdb_base.specs.declared.versions.Activation.{Activation}
use Rattle.kdb_base.specs.declared.versions.Master.{Master}
use Rattle.kdb_plain.specs.declared.princs.PlainPrinc.{PlainPrinc}
use Rattle.kdb_plain.specs.declared.states.State.{State}
use Rattle.policy_rules.specs.Rules.{Rules}
use Rattle.kdb_model.specs.Laws.{IsMoment, IsPoint}
use Rattle.plan_tests.specs.Opened.{AreActivations, AreAlone}
use Rattle.plan_tests.specs.Steady.{IsSteady}
use Rattle.princ_rows.specs.Rows.{RowLists}
use Rattle.master_keys.specs.First.{master_name}
use Rattle.row_keys.specs.Lookups.{record_named}
use Rattle.row_keys.specs.Shows.{ShowsPrinc}
use Rattle.row_keys.specs.Sound.{HasState, Judged, ShowsValid, judged}

made : List ℕ → List Master → List Activation → List PlainPrinc → List Rules → Point → State
made realm masters activations princs policies point = record {
  realm = realm;
  masters = masters;
  activations = activations;
  princs = princs;
  policies = policies;
  point = point;
}

same_state : (t s : State) → t.realm ≡ s.realm → t.masters ≡ s.masters → t.activations ≡ s.activations
    → t.princs ≡ s.princs → t.policies ≡ s.policies
    → t.point ≡ s.point → t ≡ s
unfolding made
same_state t s realm masters activations princs policies point =
    ap (λ (x : List ℕ). made x t.masters t.activations t.princs t.policies t.point) realm
    ∙ ap (λ (x : List Master). made s.realm x t.activations t.princs t.policies t.point) masters
    ∙ ap (λ (x : List Activation). made s.realm s.masters x t.princs t.policies t.point) activations
    ∙ ap (λ (x : List PlainPrinc). made s.realm s.masters s.activations x t.policies t.point) princs
    ∙ ap (λ (x : List Rules). made s.realm s.masters s.activations s.princs x t.point) policies
    ∙ ap (λ (x : Point). made s.realm s.masters s.activations s.princs s.policies x) point

pub state_is : (masters : List Master) (realm : List ℕ) (secs : ℕ) (rows : RowLists) (point : Point) (s t : State)
    → ShowsValid (judged masters realm secs) rows point s
    → t.realm ≡ realm → t.masters ≡ masters → AreActivations realm rows.princs t.activations
    → AreAlone masters rows.princs t.princs → t.policies ≡ rows.policies
    → t.point ≡ point → t ≡ s
state_is masters realm secs rows point s t f realm_is masters_are acts alone policies_are point_is =
    let named =
    subst (λ (r : List ℕ). record_named (master_name r) rows.princs ≡ Some f.shows.entry) f.realm_is f.shows.there in
    same_state t s
    (realm_is ∙ sym f.realm_is)
    (masters_are ∙ sym f.masters_are)
    (acts s.masters s.activations f.shows.entry named f.shows.chain)
    (alone f.shows.history s.princs
    (subst (λ (ms : List Master). AllZip (ShowsPrinc ms f.shows.history) rows.princs s.princs) f.masters_are
    f.shows.princs))
    (policies_are ∙ f.shows.policies)
    (point_is ∙ sym f.point_is)

-- ---- moments

point_at : Moment → Point
point_at m = record { sno = 1; time = m }

pub at_first : (m : Moment) → m ≡ record { secs = 1700000000; usecs = 0 }
    → ◌≡◌ {A = Point} (record { sno = 1; time = m }) (record {
      sno = 1;
      time = record { secs = 1700000000; usecs = 0 };
    })
unfolding point_at
at_first m is = ap point_at is

pub moment_is : (secs : ℕ) (m : Moment) → secs < 2 ^ 32 → m ≡ record { secs = secs; usecs = 0 } → IsMoment m
moment_is secs m fits is = subst IsMoment (sym is) (record { secs = fits; usecs = omega arith })

pub first_point_is : IsPoint (record { sno = 1; time = record { secs = 1700000000; usecs = 0 } })
first_point_is = record { sno = omega arith; time = record { secs = omega arith; usecs = omega arith } }

-- what is opened of sound rows is steady
pub opened_steady : (j : Judged) (rows : RowLists) (point : Point) (t : State) → HasState j rows point
    → ((s : State) → ShowsValid j rows point s → t ≡ s)
    → point.time.secs ≡ j.secs → IsPoint point → IsSteady t
opened_steady j rows point t h same secs is_point =
    let s = h.state in
    let at : s.point ≡ point = h.is.point_is in
    subst IsSteady (sym (same s h.is)) (record {
      valid = h.is.valid s.point.time (ap (λ (p : Point). p.time.secs) at ∙ secs);
      point = subst IsPoint (sym at) is_point;
    })

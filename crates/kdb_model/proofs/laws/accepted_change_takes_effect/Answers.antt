use Rattle.std.proofs.Common.{◌≡◌, refl, sym, ap, ◌∙◌}
use Rattle.kdb_model.specs.Steps.{Outcome}
use Rattle.kdb_model.proofs.Stepping.{step_commits, point_next, point_anew}
use Rattle.kdb_model.proofs.ValidSteps.{step_later}
use Rattle.kdb_model.proofs.laws.accepted_change_takes_effect.Goals as goal

pub returns-clause-state : goal.returns-clause-state
returns-clause-state c = λ s call op accepted e. rw (step_commits s call op accepted e) refl

pub returns-clause-next : goal.returns-clause-next
returns-clause-next c = λ s call op due accepted e.
    ap (λ (o : Outcome). o.state.point) (step_commits s call op accepted e) ∙ point_next s call due

pub returns-clause-anew : goal.returns-clause-anew
returns-clause-anew c = λ s call op due accepted e.
    ap (λ (o : Outcome). o.state.point) (step_commits s call op accepted e) ∙ point_anew s call due

pub returns-clause-later : goal.returns-clause-later
returns-clause-later c = step_later

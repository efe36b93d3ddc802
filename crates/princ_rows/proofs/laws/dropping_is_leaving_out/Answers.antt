use Rattle.policy_rules.specs.Rules.{Rules}
use Rattle.princ_rows.specs.Undoing.{finished, dropped_princ, dropped_policy}
use Rattle.princ_record.specs.declared.princs.Princ.{Princ}
use Rattle.princ_rows.proofs.LeftOut.{without_is_filter}
use Rattle.princ_rows.proofs.laws.dropping_is_leaving_out.Goals as goal

pub returns-clause-princs : goal.returns-clause-princs
unfolding finished
returns-clause-princs c = λ b r f. without_is_filter (λ (p : Princ). p.name) (dropped_princ b) r.princs f.princ_order

pub returns-clause-policies : goal.returns-clause-policies
unfolding finished
returns-clause-policies c =
    λ b r f. without_is_filter (λ (p : Rules). p.name) (dropped_policy b) r.policies f.policy_order

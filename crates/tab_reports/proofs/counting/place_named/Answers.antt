use Rattle.std.proofs.Common.{◌≡◌, Some, ap, refl, sym, ◌∙◌}
use Rattle.tab_reports.proofs.Noted.{named_at, named_none}
use Rattle.tab_reports.proofs.counting.place_named.Goals as goal

pub returns-in-Ok-clause-some : goal.returns-in-Ok-clause-some
returns-in-Ok-clause-some c =
    let named : c.args.princ.now.policy ≡ Some c.as_slice.result.now =
    c.in-Some.is ∙ ap Some (sym c.as_slice.ensures) in
    named_at c.args.princ.now c.args.policies.now c.as_slice.result.now c.in-Ok.at named c.requires
    (c.in-Ok.ensures.found c.in-Ok.at refl)

pub returns-in-Err-clause-none : goal.returns-in-Err-clause-none
returns-in-Err-clause-none c = λ _.
    let named : c.args.princ.now.policy ≡ Some c.as_slice.result.now =
    c.in-Some.is ∙ ap Some (sym c.as_slice.ensures) in
    named_none c.args.princ.now c.args.policies.now c.as_slice.result.now c.in-Err.field-0 named
    (c.in-Err.ensures.absent c.in-Err.field-0 refl)

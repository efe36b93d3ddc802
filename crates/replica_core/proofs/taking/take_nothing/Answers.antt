use Rattle.std.proofs.Common.{◌≡◌, None, sym, ap, subst, ◌∙◌}
use Rattle.kdb_base.specs.declared.moments.Point.{Point}
use Rattle.replica_core.specs.Opened.{place_in}
use Rattle.replica_core.specs.Taking.{IsStoppedAs}
use Rattle.replica_core.proofs.Judgements.{judged_nothing, stops_as, stops_first, wrong}
use Rattle.replica_steps.specs.Judging.{Judged, Nil, first_of, judged, point_in}
use Rattle.iprop_truths.specs.Polls.{nothing_new, reply_of}
use Rattle.std.specs.Prelude.{Option}
use Rattle.replica_core.proofs.taking.take_nothing.Goals as goal

pub returns-in-Ok-clause-answer : goal.returns-in-Ok-clause-answer
returns-in-Ok-clause-answer c size us =
    let place = place_in c.args.database.now in
    let at : wrong c.args.asked.now (point_in place) ≡ None =
    ap (wrong c.args.asked.now) (sym c.point_in.ensures) ∙ c.in-Ok.ensures.wrong in
    judged_nothing size place c.args.asked.now us ∙ ap (λ (g : Option Judged). first_of g Nil) at

pub returns-in-Err-clause-answer : goal.returns-in-Err-clause-answer
returns-in-Err-clause-answer c size us =
    let place = place_in c.args.database.now in
    let asked = c.args.asked.now in
    let at : IsStoppedAs c.in-Err.stop (wrong asked (point_in place)) =
    subst (λ (q : Point). IsStoppedAs c.in-Err.stop (wrong asked q)) c.point_in.ensures c.in-Err.ensures.wrong in
    stops_as c.in-Err.stop (first_of (wrong asked (point_in place)) Nil)
    (judged size place (reply_of nothing_new asked us)) (judged_nothing size place asked us)
    (stops_first c.in-Err.stop (wrong asked (point_in place)) Nil at)

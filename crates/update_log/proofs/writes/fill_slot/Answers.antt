use Rattle.std.proofs.Common.{◌≤◌, length, arith}
use Rattle.std.proofs.lemmas.Result.{on_ok_weaker}
use Rattle.update_log.proofs.Leaving.{fill_moments, fill_ok}
use Rattle.update_log.proofs.writes.fill_slot.Goals as goal

pub returns-in_err-begin_slot-clause-moments : goal.returns-in_err-begin_slot-clause-moments
returns-in_err-begin_slot-clause-moments g c tells block slot whole is =
    c.begin_slot.ensures.moments tells block slot (omega (arith, whole, c.requires.body.0)) is

pub returns-clause-moments : goal.returns-clause-moments
returns-clause-moments g c tells block slot whole is =
    let two : 2 ≤ block = omega (arith, whole, c.requires.body.0) in
    fill_moments c.args.file c.args.at block slot (length c.args.body.now) whole c.requires.body.0 is
    (c.begin_slot.ensures.moments tells block slot two is) (c.in_ok-begin_slot.ensures.ok tells block slot two is)
    (c.fill_body.ensures.moments tells)

pub returns-clause-ok : goal.returns-clause-ok
returns-clause-ok g c tells block slot whole is =
    let two : 2 ≤ block = omega (arith, whole, c.requires.body.0) in
    on_ok_weaker c.fill_body.result (λ stands. fill_ok c.args.file c.args.at block slot c.args.body.now whole
    c.requires.body.0 is (c.in_ok-begin_slot.ensures.ok tells block slot two is) stands) (c.fill_body.ensures.ok tells)

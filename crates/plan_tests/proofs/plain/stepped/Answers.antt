use Rattle.std.proofs.Common.{◌≡◌, ◌<◌, rules}
use Rattle.plan_tests.proofs.OpenedState.{moment_is}
use Rattle.plan_tests.proofs.SteadySteps.{behind_ok, step_steady}
use Rattle.princ_name.specs.Printed.{IsPrinted}
use Rattle.plan_tests.proofs.plain.stepped.Goals as goal

pub returns-in-Ok : goal.returns-in-Ok
returns-in-Ok c =
    let s = c.args.state.now in
    let text = c.as_slice-text.result.now in
    let printed : IsPrinted text = c.is_printed.ensures.printed.0 c.if-not-is_printed.false in
    let serial : s.point.sno < 4294967295 = search rules in
    step_steady s text _ _ _ _ c.in-Ok.both.0 c.step_keeps_states_valid.ensures.valid
    c.step_keeps_states_valid.ensures.point printed c.requires.steady serial
    c.requires.command (moment_is c.args.secs c.new-moment.result c.ranges.secs.fits c.new-moment.ensures) (search rules)
    (behind_ok s text _ _ _ _ c.step_plain.result c.in-Ok.both c.in-Ok.is c.step_plain.ensures.state)

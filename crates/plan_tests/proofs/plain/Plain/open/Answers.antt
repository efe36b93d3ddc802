use Rattle.std.proofs.Common.{refl}
use Rattle.kdb_base.specs.declared.moments.Point.{Point}
use Rattle.plan_tests.proofs.OpenedState.{first_point_is, opened_steady}
use Rattle.row_keys.specs.Sound.{judged}
use Rattle.plan_tests.proofs.plain.Plain.open.Goals as goal

pub invariant_of-result : goal.invariant_of-result
invariant_of-result c =
    let point : Point = record { sno = 1; time = record { secs = 1700000000; usecs = 0 } } in
    let j = judged c.args.masters.now c.args.realm.now 1700000000 in
    opened_steady j c.args.rows.now point c.in_ok-state.state
    (c.sound_rows_show_one_state.ensures.shows j c.args.rows.now point c.princs.ensures.rows c.requires
    c.in_ok-check_rows.ensures.ok)
    c.in_ok-state.ensures refl first_point_is

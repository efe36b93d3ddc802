use Rattle.std.proofs.Common.{◌≤◌, ◌+◌, length, arith}
use Rattle.replica_core.proofs.Gaps.{few_run_on}
use Rattle.replica_core.proofs.taking.count.Goals as goal

pub overflow_cast-result : goal.overflow_cast-result
overflow_cast-result c =
    let fits = c.from-sno.type_inv in
    let few : length c.args.updates.now + c.args.at.now.sno ≤ 4294967295 =
    few_run_on c.args.based c.args.at.now c.args.updates.now (omega (arith, fits)) c.requires in
    omega (arith, few)

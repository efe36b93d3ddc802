use Rattle.std.proofs.Common.{◌≡◌, drop}
use Rattle.kdb_model.specs.Refusals.{first}
use Rattle.command_plans.proofs.causes.first.Given as goal

abbrev pub invariant-loop-cause : goal.invariant-loop-cause
invariant-loop-cause l = first (drop l.cause-index l.causes) ≡ first l.fn.causes

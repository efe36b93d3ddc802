use Rattle.primary_rekeying.proofs.Taken.{known_if}
use Rattle.primary_rekeying.proofs.taking.active_of.Goals as goal

pub returns-in-Some-clause-known : goal.returns-in-Some-clause-known
returns-in-Some-clause-known c = λ fits.
    known_if c.args.entry.now c.in-Some.part c.args.secs c.active_at.result fits c.in-Some.is c.active_at.ensures.value

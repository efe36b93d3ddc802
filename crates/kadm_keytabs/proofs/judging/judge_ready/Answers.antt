use Rattle.std.proofs.Common.{Ok, ap}
use Rattle.kadm_keytabs.proofs.Carried.{may_make}
use Rattle.kadm_keytabs.proofs.judging.judge_ready.Goals as goal

pub returns-in-Ok-Change-clause-may : goal.returns-in-Ok-Change-clause-may
returns-in-Ok-Change-clause-may c = λ other.
    may_make c.in-Ok-Change.change other c.args.primary.now c.args.now
    (c.in-Ok-Change.ensures.may c.in-Ok-Change.change c.in-Ok-Change.reply (ap Ok c.in-Ok-Change.field-0-is))

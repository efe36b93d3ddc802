use Rattle.std.proofs.Common.{Ok, ap}
use Rattle.kadm_session.proofs.Making.{may_make}
use Rattle.kadm_session.proofs.commands.judge_for.Goals as goal

pub returns-in-Ok-Change-clause-may : goal.returns-in-Ok-Change-clause-may
returns-in-Ok-Change-clause-may c = λ other.
    may_make c.judged_change.result c.in-Ok-Change.change other c.args.primary.now c.args.now
    c.judged_change.ensures.change
    (c.in-Ok-Change.ensures.may c.in-Ok-Change.change c.in-Ok-Change.reply (ap Ok c.in-Ok-Change.field-0-is))

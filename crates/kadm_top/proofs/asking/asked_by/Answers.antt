use Rattle.std.proofs.Common.{◌∙◌, Ok, ap}
use Rattle.kadm_top.proofs.asking.asked_by.Goals as goal

pub returns-in-Ok-Some-clause-valid : goal.returns-in-Ok-Some-clause-valid
returns-in-Ok-Some-clause-valid c =
    c.asked_for.ensures.valid c.args.realm.now
    (c.in_ok-command.ensures.valid c.in-Ok-Some.command (ap Ok (c.in-Ok-Some.is ∙ ap Ok c.in-Ok-Some.field-0-is)))

use Rattle.std.proofs.Common.{◌∙◌, ap, Some}
use Rattle.kadm_session.specs.Input.{asked_in}
use Rattle.kadm_session.proofs.Coming.{came_line, came_long, came_end}
use Rattle.kadm_session.proofs.intake.next_command.Goals as goal

pub returns-in-Ok-clause-next : goal.returns-in-Ok-clause-next
returns-in-Ok-clause-next g c =
    came_line c.args.realm.now _ c.in-Ok-Line.ended _ _ _ c.in-Ok.asked c.in-Ok-Line.field-0-is
    c.in-Ok-Line.ensures.next
    (c.in-Ok.ensures.value
    ∙ ap (λ text. asked_in c.args.realm.now (record { text = Some text; ended = c.in-Ok-Line.ended })) c.text.ensures)

pub returns-in-Ok-TooLong-clause-next : goal.returns-in-Ok-TooLong-clause-next
returns-in-Ok-TooLong-clause-next g c =
    came_long c.args.realm.now _ _ _ _ _ c.in-Ok-TooLong.field-0-is c.in-Ok-TooLong.ensures.next

pub returns-in-Ok-End-clause-next : goal.returns-in-Ok-End-clause-next
returns-in-Ok-End-clause-next g c = came_end c.args.realm.now _ _ _ _ c.in-Ok-End.field-0-is c.in-Ok-End.ensures.next

use Rattle.std.proofs.Common.{◌≡◌, ap, ◌∙◌}
use Rattle.kadm_commands.specs.declared.commands.Command.{Command}
use Rattle.kadm_wire.specs.declared.readings.Reading.TheVariants.{Skipped, Says, Refuses}
use Rattle.kdb_base.specs.declared.outcomes.Refusal.{Refusal}
use Rattle.kadm_wire.proofs.LineLaws.{answered}
use Rattle.kadm_wire.proofs.ReadCommands.{said_command}
use Rattle.kadm_wire.proofs.lines.parse_line.Goals as goal

pub returns-in-Ok-Skipped-clause-skipped_value : goal.returns-in-Ok-Skipped-clause-skipped_value
returns-in-Ok-Skipped-clause-skipped_value c = λ _.
    answered c.args.realm.now c.args.line.now c.in-Ok-Skipped.field-0 Skipped c.in-Ok-Skipped.ensures.read
    c.in-Ok-Skipped.field-0-is

pub returns-in-Ok-Says-clause-valid : goal.returns-in-Ok-Says-clause-valid
returns-in-Ok-Says-clause-valid c = λ command e.
    (let same : c.in-Ok-Says.command ≡ command = cc in
    said_command c.args.realm.now c.args.line.now c.in-Ok-Says.field-0 command c.in-Ok-Says.ensures.value
    (c.in-Ok-Says.field-0-is ∙ ap (λ (x : Command). Says x) same))

pub returns-in-Ok-Says-clause-command_value : goal.returns-in-Ok-Says-clause-command_value
returns-in-Ok-Says-clause-command_value c = λ command e.
    (let same : c.in-Ok-Says.command ≡ command = cc in
    answered c.args.realm.now c.args.line.now c.in-Ok-Says.field-0 (Says command) c.in-Ok-Says.ensures.read
    (c.in-Ok-Says.field-0-is ∙ ap (λ (x : Command). Says x) same))

pub returns-in-Ok-Refuses-clause-refused_value : goal.returns-in-Ok-Refuses-clause-refused_value
returns-in-Ok-Refuses-clause-refused_value c = λ refusal e.
    (let same : c.in-Ok-Refuses.refusal ≡ refusal = cc in
    answered c.args.realm.now c.args.line.now c.in-Ok-Refuses.field-0 (Refuses refusal) c.in-Ok-Refuses.ensures.read
    (c.in-Ok-Refuses.field-0-is ∙ ap (λ (x : Refusal). Refuses x) same))

use Rattle.std.proofs.Common.{◌∙◌, true, false, refl}
use Rattle.acl_text.proofs.RuleLemmas.{bad_line, rule_is, said_is, takes_rule, takes_skipped}
use Rattle.acl_text.proofs.rules.take_line.Goals as goal

pub returns-then-is_skipped-clause-ok : goal.returns-then-is_skipped-clause-ok
returns-then-is_skipped-clause-ok c =
    takes_skipped c.args.realm.now c.args.line.now c.args.rules.now.items
    (said_is c.as_slice.result.now c.args.line.now true c.as_slice.ensures c.if-is_skipped.ensures)

pub returns-in_ok-push-in-Ok-Some-clause-ok : goal.returns-in_ok-push-in-Ok-Some-clause-ok
returns-in_ok-push-in-Ok-Some-clause-ok c =
    takes_rule c.args.realm.now c.args.line.now c.in-Ok-Some.rule c.args.rules.now.items c.push.new.self.items
    (said_is c.as_slice.result.now c.args.line.now false c.as_slice.ensures c.if-is_skipped.ensures)
    (rule_is c.args.realm.now c.as_slice-2.result.now c.args.line.now c.args.line.now.number c.in-Ok-Some.field-0
    c.as_slice-2.ensures refl c.in-Ok-Some.ensures ∙ c.in-Ok-Some.field-0-is)
    c.in_ok-push-in-Ok-Some.ensures.items

pub returns-in-Ok-None-clause-bad : goal.returns-in-Ok-None-clause-bad
returns-in-Ok-None-clause-bad c = λ number is.
    bad_line c.args.realm.now c.args.line.now number
    (said_is c.as_slice.result.now c.args.line.now false c.as_slice.ensures c.if-is_skipped.ensures)
    (rule_is c.args.realm.now c.as_slice-2.result.now c.args.line.now c.args.line.now.number c.in-Ok-None.field-0
    c.as_slice-2.ensures refl c.in-Ok-None.ensures ∙ c.in-Ok-None.field-0-is)
    (cc)

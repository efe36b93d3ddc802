use Rattle.std.proofs.Common.{◌∙◌}
use Rattle.acl_text.proofs.RuleLemmas.{all_taken, next_added, next_bad, refused_at}
use Rattle.acl_text.proofs.rules.read_rules.Goals as goal

pub returns-in-Err-clause-bad : goal.returns-in-Err-clause-bad
returns-in-Err-clause-bad c = λ number is.
    refused_at c.args.realm.now c.args.lines.now c.loop-line.line-index c.line-item.result number c.loop-line-test.true
    c.line-item.is c.loop-line.invariant.first_bad
    (c.in-Err.ensures.bad number (cc))

pub loop-line-preserved : goal.loop-line-preserved
loop-line-preserved c =
    let lines = c.args.lines.now in
    let line = c.line-item.result in
    let old = c.loop-line.rules.items in
    let new = c.take_line.new.rules.items in
    record {
      first_bad = next_bad c.args.realm.now lines c.loop-line.line-index line old new c.loop-line-test.true
          c.line-item.is c.in-Ok.ensures.ok ∙ c.loop-line.invariant.first_bad;
      added = next_added c.args.realm.now lines c.loop-line.line-index line old new c.loop-line-test.true c.line-item.is
          c.in-Ok.ensures.ok ∙ c.loop-line.invariant.added;
    }

pub returns-clause-ok : goal.returns-clause-ok
returns-clause-ok c =
    all_taken c.args.realm.now c.args.lines.now c.loop-line.line-index c.loop-line.rules.items c.loop-line-test.false
    c.loop-line.invariant.first_bad c.loop-line.invariant.added

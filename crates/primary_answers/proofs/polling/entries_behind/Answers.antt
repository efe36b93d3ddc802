use Rattle.std.proofs.Common.{◌∷◌, [], ◌++◌, arith, ap, map, ◌∙◌}
use Rattle.primary_answers.proofs.Polled.{all_there, one_more}
use Rattle.primary_answers.proofs.polling.entries_behind.Goals as goal
use Rattle.princ_rows.specs.declared.entries.Entry.{Entry}
use Rattle.update_log.specs.Logs.{entry_of}

pub loop-behind-preserved : goal.loop-behind-preserved
loop-behind-preserved c = λ first end h same from.
    c.in_ok-push-in-Some.ensures.items
    ∙ ap (λ (e : Entry). c.loop-behind.items.items ++ e ∷ []) c.in_ok-entry-in-Some.ensures
    ∙ one_more first end (map entry_of c.args.log.now.held) h c.args.sno from c.loop-behind.behind c.in-Some.entry.now
    c.loop-behind.items.items (omega arith)
    (omega (arith, same)) c.in-Some.ensures.some.0 c.in-Some.ensures.some.1
    (c.loop-behind.invariant first end h same from)

pub returns : goal.returns
returns c = λ first end h same from.
    c.from_vec.ensures ∙ all_there first end (map entry_of c.args.log.now.held) h c.args.sno from c.loop-behind.behind
    c.loop-behind.items.items (omega arith)
    (omega (arith, same)) (c.loop-behind.invariant first end h same from)

use Rattle.keytab_out.proofs.Removals.{all_seen, one_seen}
use Rattle.keytab_out.proofs.removing.greatest_of.Goals as goal
use Rattle.std.proofs.Common.{map, max, drop, ap, arith, ◌+◌, ◌∙◌}
use Rattle.stash_file.specs.Answers.{told}
use Rattle.keytab_out.specs.Removed.{greatest_of}

pub loop-entry-preserved : goal.loop-entry-preserved
loop-entry-preserved c =
    let next = one_seen c.args.name.now c.args.entries.now c.loop-entry.entry-index c.entry-item.result
    c.loop-entry.greatest _ c.loop-entry-test.true c.entry-item.is c.loop-entry.invariant in
    ap (λ g. max g (greatest_of c.args.name.now (map told (drop (c.loop-entry.entry-index + 1) c.args.entries.now))))
    c.later-greatest.ensures ∙ next

pub returns : goal.returns
returns c = all_seen c.args.name.now c.args.entries.now c.loop-entry.entry-index c.loop-entry.greatest _
    (omega (arith, c.loop-entry-test.false)) c.loop-entry.invariant

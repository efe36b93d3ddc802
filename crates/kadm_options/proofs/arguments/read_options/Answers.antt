use Rattle.std.proofs.Common.{sym, ◌∙◌, arith}
use Rattle.kadm_options.specs.Options.{option_named}
use Rattle.kadm_options.proofs.OptionStepLemmas.{ends_waiting, ends_whole}
use Rattle.kadm_options.proofs.arguments.read_options.Goals as goal

pub returns-then-is_some-clause-parts : goal.returns-then-is_some-clause-parts
returns-then-is_some-clause-parts c =
    ends_waiting (option_named c.args.known.now c.args.flags) c.loop-at.reader c.args.words.now c.loop-at.at
    c.loop-at-test.false c.loop-at.invariant
    (sym c.is_some.ensures ∙ c.if-is_some.true)

pub returns-clause-parts : goal.returns-clause-parts
returns-clause-parts c =
    ends_whole (option_named c.args.known.now c.args.flags) c.loop-at.reader c.args.words.now c.loop-at.at
    c.finish-2.result c.loop-at-test.false c.loop-at.invariant
    (sym c.is_some.ensures ∙ c.if-is_some.false) c.finish-2.ensures.options
    (let count = c.finish-2.ensures.count in omega arith)

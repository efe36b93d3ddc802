use Rattle.std.proofs.Common.{None, sym}
use Rattle.kadm_words.proofs.SplittingLemmas.{begins, broken, taken_all}
use Rattle.kadm_words.proofs.WordLemmas.{split_is, split_found, found_in}
use Rattle.kadm_words.proofs.words.split_words.Goals as goal

pub loop-byte-init : goal.loop-byte-init
loop-byte-init c =
    begins c.new-splitter.result c.args.line.now c.new-splitter.ensures.words c.new-splitter.ensures.place

pub returns-then-not-taken-clause-spelled : goal.returns-then-not-taken-clause-spelled
returns-then-not-taken-clause-spelled c =
    let h = rw c.if-not-taken.true at c.in_ok-taken.ensures in
    let lt = c.loop-byte-test.true in
    split_is c.args.line.now None
    (broken c.loop-byte.splitter c.args.line.now c.loop-byte.byte-index lt c.loop-byte.invariant h)

pub returns-then-not-taken-clause-value : goal.returns-then-not-taken-clause-value
returns-then-not-taken-clause-value c =
    let h = rw c.if-not-taken.true at c.in_ok-taken.ensures in
    let lt = c.loop-byte-test.true in
    sym (broken c.loop-byte.splitter c.args.line.now c.loop-byte.byte-index lt c.loop-byte.invariant h)

pub returns-clause-spelled : goal.returns-clause-spelled
returns-clause-spelled c =
    split_found (λ v. v.items) c.args.line.now c.finish.result _
    (taken_all c.loop-byte.splitter c.args.line.now c.loop-byte.byte-index c.loop-byte-test.false c.loop-byte.invariant)
    c.finish.ensures

pub returns-clause-value : goal.returns-clause-value
returns-clause-value c =
    found_in (λ v. v.items) c.args.line.now c.finish.result _
    (taken_all c.loop-byte.splitter c.args.line.now c.loop-byte.byte-index c.loop-byte-test.false c.loop-byte.invariant)
    c.finish.ensures

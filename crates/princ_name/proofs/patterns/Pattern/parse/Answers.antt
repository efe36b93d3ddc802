-- The word's one pattern.
use Rattle.princ_name.specs.Patterns.{IsWithin}
use Rattle.princ_name.proofs.PatternWords.{every_spelled, every_only, parts_spelled, parts_only, fault_only}
use Rattle.princ_name.proofs.PatternReadings.{reads_fault, reads_spelled}
use Rattle.princ_name.proofs.patterns.Pattern.parse.Goals as goal

pub returns-then-is_lone_star-clause-spelled : goal.returns-then-is_lone_star-clause-spelled
returns-then-is_lone_star-clause-spelled c =
    every_spelled c.args.text.now c.args.realm.now (c.is_lone_star.ensures.yes c.if-is_lone_star.true)

pub returns-then-is_lone_star-clause-only : goal.returns-then-is_lone_star-clause-only
returns-then-is_lone_star-clause-only c = λ pattern h.
    every_only c.args.text.now c.args.realm.now pattern (c.is_lone_star.ensures.yes c.if-is_lone_star.true) h

pub returns-in-Ok-clause-spelled : goal.returns-in-Ok-clause-spelled
returns-in-Ok-clause-spelled c = parts_spelled c.args.text.now c.args.realm.now c.in-Ok.whole
    (c.is_lone_star.ensures.no c.if-is_lone_star.false) c.in-Ok.ensures.whole

pub returns-in-Ok-clause-only : goal.returns-in-Ok-clause-only
returns-in-Ok-clause-only c = λ pattern h. parts_only c.args.text.now c.args.realm.now c.in-Ok.whole pattern
    (c.is_lone_star.ensures.no c.if-is_lone_star.false) c.in-Ok.ensures.whole h

pub returns-in-Err-clause-only : goal.returns-in-Err-clause-only
returns-in-Err-clause-only c = λ pattern h. fault_only c.args.text.now c.args.realm.now c.in-Err.fault pattern
    (c.is_lone_star.ensures.no c.if-is_lone_star.false) c.in-Err.ensures.only h

pub returns-then-is_lone_star-clause-reading : goal.returns-then-is_lone_star-clause-reading
returns-then-is_lone_star-clause-reading c = reads_spelled c.args.text.now c.args.realm.now _
    (every_spelled c.args.text.now c.args.realm.now (c.is_lone_star.ensures.yes c.if-is_lone_star.true))

pub returns-in-Ok-clause-reading : goal.returns-in-Ok-clause-reading
returns-in-Ok-clause-reading c = reads_spelled c.args.text.now c.args.realm.now _ (parts_spelled c.args.text.now
    c.args.realm.now c.in-Ok.whole (c.is_lone_star.ensures.no c.if-is_lone_star.false) c.in-Ok.ensures.whole)

pub returns-in-Err-clause-reading : goal.returns-in-Err-clause-reading
returns-in-Err-clause-reading c = reads_fault c.args.text.now c.args.realm.now c.in-Err.fault
    (λ pattern h. fault_only c.args.text.now c.args.realm.now c.in-Err.fault pattern
    (c.is_lone_star.ensures.no c.if-is_lone_star.false) c.in-Err.ensures.only h)

pub invariant_of-result : goal.invariant_of-result
unfolding IsWithin
invariant_of-result c = tt

pub invariant_of-result-in-Ok : goal.invariant_of-result-in-Ok
unfolding IsWithin
invariant_of-result-in-Ok c = c.in-Ok.ensures.whole.name

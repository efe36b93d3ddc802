use Rattle.std.proofs.Common.{◌+◌, ◌∙◌, ⊎_elim, sym, ap, arith, length}
use Rattle.std.proofs.lemmas.Bool.{cases_lt}
use Rattle.update_log.specs.Runs.{is_left}
use Rattle.update_log.specs.Scanning.{read_at}
use Rattle.update_log.proofs.Firsts.{first_found, first_none}
use Rattle.update_log.proofs.ReadSlots.{past_none}
use Rattle.update_log.proofs.running.first_left.Goals as goal

pub returns-then-is_left-clause-first : goal.returns-then-is_left-clause-first
returns-then-is_left-clause-first c =
    let run = c.args.run.now in
    let slots = c.args.slots.now in
    sym (first_found (λ k. is_left run.last run.len (read_at slots k)) 0 (c.args.control.now.size + 1) c.loop-slot.slot
    (omega arith) (omega (arith, c.requires, c.loop-slot-test.true))
    (ap (is_left run.last run.len) (sym c.read_at.ensures) ∙ sym c.is_left.ensures ∙ c.if-is_left.true)
    (λ k ge lt. c.loop-slot.invariant k lt))

pub returns-clause-first : goal.returns-clause-first
returns-clause-first c =
    let run = c.args.run.now in
    let slots = c.args.slots.now in
    sym (first_none (λ k. is_left run.last run.len (read_at slots k)) 0 (c.args.control.now.size + 1) (λ k ge lt. ⊎_elim
    (λ below. c.loop-slot.invariant k (omega (arith, below, c.loop-slot-test.false)))
    (λ past. ap (is_left run.last run.len) (past_none slots k past))
    (cases_lt k (length slots))))

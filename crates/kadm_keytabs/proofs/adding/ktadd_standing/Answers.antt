use Rattle.kadm_keytabs.proofs.Wholes.{answers_whole, part_so, written_so}
use Rattle.kadm_keytabs.proofs.adding.ktadd_standing.Goals as goal

pub returns-in-Ok-answer_input-clause-ended : goal.returns-in-Ok-answer_input-clause-ended
returns-in-Ok-answer_input-clause-ended g c = λ s text has is.
    written_so c.write_answer.result _ c.in-Ok-answer_input.answer _ _
    (answers_whole _ _ text c.in-Ok.kept c.as_slice.result.now c.in-Ok-answer_input.answer is c.in-Ok.ensures.kept
    c.as_slice.ensures (c.in-Ok-answer_input.ensures s has))
    c.write_answer.ensures.told c.write_answer.ensures.ok

pub returns-in-Ok-answer_input-clause-cut : goal.returns-in-Ok-answer_input-clause-cut
returns-in-Ok-answer_input-clause-cut g c = λ s text has is e.
    part_so c.write_answer.result _ _ c.in-Ok-answer_input.answer _ _
    (answers_whole _ _ text c.in-Ok.kept c.as_slice.result.now c.in-Ok-answer_input.answer is c.in-Ok.ensures.kept
    c.as_slice.ensures (c.in-Ok-answer_input.ensures s has))
    c.write_answer.ensures.err e

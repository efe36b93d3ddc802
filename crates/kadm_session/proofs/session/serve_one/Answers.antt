use Rattle.std.proofs.Common.{[], false}
use Rattle.kadm_session.proofs.Turning.{one_done, one_ended}
use Rattle.kadm_session.proofs.session.serve_one.Goals as goal

pub returns-clause-ended : goal.returns-clause-ended
returns-clause-ended g c = λ s end has e. one_ended _ _ _ _ end c.answer.result (c.answer.ensures.next s false [] has) e

pub returns-clause-done : goal.returns-clause-done
returns-clause-done g c = λ s has. one_done _ _ _ _ c.answer.result (c.answer.ensures.next s false [] has)

pub returns-clause-serves : goal.returns-clause-serves
returns-clause-serves g c = λ tells s has. c.answer.ensures.serves tells s false [] has

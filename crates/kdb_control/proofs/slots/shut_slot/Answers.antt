use Rattle.std.proofs.Common.{arith}
use Rattle.std.proofs.lemmas.Result.{on_ok_weaker}
use Rattle.kdb_control.proofs.Steps.{shut_either, shut_ok}
use Rattle.kdb_control.proofs.slots.shut_slot.Goals as goal

pub returns-clause-crash : goal.returns-clause-crash
returns-clause-crash g c tells one other is rest =
    shut_either c.args.at c.requires.place (c.requires.durable tells) is rest (c.shut_gate.ensures.closed tells)
    (c.shut_gate.ensures.moments tells)

pub returns-clause-ok : goal.returns-clause-ok
returns-clause-ok g c tells =
    shut_ok c.shut_gate.result c.args.at c.requires.place (c.requires.within tells) (c.requires.durable tells)
    (c.shut_gate.ensures.closed tells) (c.shut_gate.ensures.open tells) (c.shut_gate.ensures.ok tells)

pub returns-clause-length : goal.returns-clause-length
returns-clause-length g c tells =
    on_ok_weaker c.shut_gate.result (λ same. omega (arith, same)) (c.shut_gate.ensures.length tells)

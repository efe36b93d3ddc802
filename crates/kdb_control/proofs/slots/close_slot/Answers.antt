use Rattle.std.proofs.Common.{arith}
use Rattle.std.proofs.lemmas.Result.{on_ok_weaker}
use Rattle.kdb_disk.proofs.Runs.{stands_byte}
use Rattle.kdb_control.proofs.Steps.{begun_either, begun_shut}
use Rattle.kdb_control.proofs.slots.close_slot.Goals as goal

pub returns-clause-crash : goal.returns-clause-crash
returns-clause-crash g c tells one other is rest =
    begun_either c.args.at c.requires.place (c.requires.end tells) (c.requires.durable tells) rest
    (c.close_gate.ensures.moments tells)

pub returns-clause-ok : goal.returns-clause-ok
returns-clause-ok g c tells =
    on_ok_weaker c.close_gate.result (λ stands. begun_shut c.args.at c.requires.place (c.requires.end tells) stands)
    (c.close_gate.ensures.ok tells)

pub returns-clause-zero : goal.returns-clause-zero
returns-clause-zero g c tells le =
    on_ok_weaker c.close_gate.result (λ stands. stands_byte stands (omega (arith, c.requires.end tells)))
    (c.close_gate.ensures.ok tells)

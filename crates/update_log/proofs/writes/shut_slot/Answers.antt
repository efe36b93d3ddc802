use Rattle.update_log.proofs.Leaving.{shut_moments, shut_ok}
use Rattle.update_log.proofs.writes.shut_slot.Goals as goal

pub returns-clause-moments : goal.returns-clause-moments
returns-clause-moments g c tells block slot two is =
    shut_moments c.args.file c.args.at block slot two is (c.requires.durable tells) (c.shut_gate.ensures.closed tells)
    (c.shut_gate.ensures.moments tells)

pub returns-clause-ok : goal.returns-clause-ok
returns-clause-ok g c tells block slot two is =
    shut_ok c.shut_gate.result (g.D.Disk.view c.args.disk.now) (g.D.Disk.view c.shut_gate.new.disk) c.args.file
    c.args.at block slot two is (c.requires.within tells) (c.requires.durable tells) (c.shut_gate.ensures.closed tells)
    (c.shut_gate.ensures.open tells) (c.shut_gate.ensures.length tells)

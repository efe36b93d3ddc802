use Rattle.kdb_histories.specs.Asks.{Settles}
use Rattle.primary_disk.proofs.Done.{asked_done}
use Rattle.primary_disk.proofs.Still.{stands_after}
use Rattle.primary_disk.proofs.primary.DiskPrimary.rekey_settle.Goals as goal
use Rattle.primary_rekeying.specs.Moving.{answer_of}

pub invariant_of-self : goal.invariant_of-self
invariant_of-self g c =
    stands_after g.D.Disk c.self.inside.disk c.rekey_settle.new.disk c.self.inside.primary c.rekey_settle.new.primary
    c.rekey_settle.result
    c.self.invariant c.rekey_settle.ensures.refused_keeps c.rekey_settle.ensures.on c.rekey_settle.ensures.still
    c.rekey_settle.ensures.broken

pub returns-clause-does : goal.returns-clause-does
returns-clause-does g c =
    asked_done (record { disk = c.self.inside.disk; opened = c.self.inside.primary }) c.args.self.now
    (record { disk = c.rekey_settle.new.disk; opened = c.rekey_settle.new.primary }) c.self.view_is
    c.args.made.taken.princ.name (answer_of c.rekey_settle.result) (λ who. Settles who c.args.now c.args.made)
    c.rekey_settle.ensures.does c.rekey_settle.ensures.state

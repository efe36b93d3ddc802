use Rattle.kdb_base.specs.declared.outcomes.Halt.TheVariants.{MemoryOut}
use Rattle.kdb_base.specs.declared.outcomes.Stop.TheVariants as stop
use Rattle.kdb_histories.specs.Asks.{RekeyedNow}
use Rattle.kdb_histories.specs.Calls.{Perform}
use Rattle.primary_disk.proofs.Done.{asked_done}
use Rattle.primary_disk.proofs.Still.{still_stops}
use Rattle.primary_disk.proofs.primary.DiskPrimary.rekey_now.Goals as goal
use Rattle.primary_rekeying.specs.Moving.{answer_of}

pub returns-in-Ok-clause-does : goal.returns-in-Ok-clause-does
returns-in-Ok-clause-does g c =
    asked_done (record { disk = c.self.inside.disk; opened = c.self.inside.primary }) c.args.self.now
    (record { disk = c.rekey_now.new.disk; opened = c.rekey_now.new.primary }) c.self.view_is
    c.args.name.now (answer_of c.rekey_now.result) (λ who. RekeyedNow who c.args.now c.args.random.now)
    c.rekey_now.ensures.does c.rekey_now.ensures.state

pub returns-in-Err-clause-stops : goal.returns-in-Err-clause-stops
returns-in-Err-clause-stops g c = λ s who has named.
    still_stops g.D.Disk (record { disk = c.self.inside.disk; opened = c.self.inside.primary }) c.args.self.now
    c.self.view_is
    s (Perform (RekeyedNow who c.args.now c.args.random.now)) (stop.Halt MemoryOut)
    c.self.invariant c.what_is_kept_is_recovered.ensures

use Rattle.kdb_disk.proofs.Runs.{looked}
use Rattle.kdb_control.proofs.Steps.{run_on, images_have, force_some, same_force}
use Rattle.kdb_control.proofs.switching.switch.Goals as goal

pub returns-in-Some-clause-crash : goal.returns-in-Some-clause-crash
returns-in-Some-clause-crash g c = record {
  told = λ tells.
      run_on (looked (images_have (c.requires.now tells)) (c.sync.ensures.looks tells))
      (same_force (force_some (λ c. c.now) c.args.now c.in-Some.now c.in-Some.is)
      (c.switch_next.ensures.crash.told tells));
}

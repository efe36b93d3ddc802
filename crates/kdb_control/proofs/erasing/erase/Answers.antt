use Rattle.kdb_disk.proofs.Runs.{looked}
use Rattle.kdb_control.proofs.Steps.{run_on, images_have}
use Rattle.kdb_control.proofs.Emptied.{erased}
use Rattle.kdb_control.proofs.erasing.erase.Goals as goal

pub returns-clause-crash : goal.returns-clause-crash
returns-clause-crash g c = record {
  told = λ tells.
      erased (run_on (looked (images_have (c.requires tells)) (c.sync.ensures.looks tells))
      (c.shut_both.ensures.crash.told tells)) (c.cut_files.ensures.crash.told tells);
}

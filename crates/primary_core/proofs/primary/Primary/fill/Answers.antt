use Rattle.std.proofs.Common.{inl}
use Rattle.kdb_disk.proofs.Runs.{started}
use Rattle.primary_core.proofs.primary.Primary.fill.Goals as goal
use Rattle.store_files.specs.Recovery.{LeavesPart}

pub returns-in-Err-clause-crash : goal.returns-in-Err-clause-crash
unfolding LeavesPart
returns-in-Err-clause-crash g c = record {
  told =
      λ told. started _ _ (λ files image. inl (c.what_is_kept_is_recovered.ensures _ (c.requires.on told) files image));
}

use Rattle.kdb_disk.proofs.Runs.{started}
use Rattle.primary_core.proofs.Asked.{leaves_first}
use Rattle.primary_core.proofs.primary.Primary.restash.Goals as goal

pub returns-in-Err-clause-crash : goal.returns-in-Err-clause-crash
returns-in-Err-clause-crash g c = record {
  told = λ t. started _ _ (λ f i. leaves_first _ _ f (c.what_is_kept_is_recovered.ensures _ (c.requires.on t) f i));
}

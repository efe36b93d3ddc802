use Rattle.std.proofs.Common.{refl}
use Rattle.kdb_disk.proofs.Runs.{started}
use Rattle.kdb_histories.specs.Asks.{Settles}
use Rattle.primary_core.proofs.Carried.{stays}
use Rattle.primary_rekeying.proofs.rekeying.rekey_settle.Goals as goal

pub returns-in-Ok-clause-does : goal.returns-in-Ok-clause-does
returns-in-Ok-clause-does g c = λ s who answer whole has named e.
    c.finish.ensures.does s (Settles who c.args.now c.args.made) answer refl has (c.in-Ok.ensures.found_out who named) e

pub returns-in-Ok-clause-state : goal.returns-in-Ok-clause-state
returns-in-Ok-clause-state g c = λ s who answer whole has named e. c.finish.ensures.state s
    (Settles who c.args.now c.args.made) answer refl has (c.in-Ok.ensures.found_out who named) e

pub returns-in-Err-clause-crash : goal.returns-in-Err-clause-crash
returns-in-Err-clause-crash g c = λ s who whole has named. record {
  told = λ t. started _ _ (λ f i. stays c.args.primary.now s (Settles who c.args.now c.args.made) f
      (c.what_is_kept_is_recovered.ensures _ (c.requires.on t whole) f i));
}

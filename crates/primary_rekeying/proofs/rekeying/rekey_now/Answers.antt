use Rattle.std.proofs.Common.{◌≡◌, Ok, ap, refl, ◌∙◌}
use Rattle.kdb_disk.proofs.Runs.{started}
use Rattle.kdb_histories.specs.Asks.{RekeyedNow}
use Rattle.primary_core.proofs.Carried.{stays}
use Rattle.primary_rekeying.proofs.rekeying.rekey_now.Goals as goal
use Rattle.primary_rekeying.specs.Moving.{is_updated}
use Rattle.rekey_work.specs.declared.works.Settled.TheVariants.{Gone}

pub returns-in-Ok-clause-does : goal.returns-in-Ok-clause-does
returns-in-Ok-clause-does g c = λ s who answer whole has named e. c.finish.ensures.does s
    (RekeyedNow who c.args.now c.args.random.now) answer refl has (c.in-Ok.ensures.found_out who named) e

pub returns-in-Ok-clause-state : goal.returns-in-Ok-clause-state
returns-in-Ok-clause-state g c = λ s who answer whole has named e. c.finish.ensures.state s
    (RekeyedNow who c.args.now c.args.random.now) answer refl has (c.in-Ok.ensures.found_out who named) e

pub returns-in-Err-clause-crash : goal.returns-in-Err-clause-crash
returns-in-Err-clause-crash g c = λ s who whole has named. record {
  told = λ t. started _ _ (λ f i. stays c.args.primary.now s (RekeyedNow who c.args.now c.args.random.now) f
      (c.what_is_kept_is_recovered.ensures _ (c.requires.on t whole) f i));
}

pub returns-in-Ok-clause-absent : goal.returns-in-Ok-clause-absent
returns-in-Ok-clause-absent g c = λ whole none more.
    let gone : c.in-Ok.found ≡ Gone = c.in-Ok.ensures.absent none in
    c.finish.ensures.handed_on (ap is_updated gone) ∙ ap Ok gone

pub returns-in-Err-clause-absent : goal.returns-in-Err-clause-absent
returns-in-Err-clause-absent g c = λ whole none more. absurd (more refl)

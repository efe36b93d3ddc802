use Rattle.kdb_disk.proofs.Runs.{weaken}
use Rattle.primary_core.proofs.Ends.{ends_as_opening, may_end, never_refused}
use Rattle.primary_core.proofs.primary.Primary.destroy.Goals as goal
use Rattle.primary_core.specs.Opened.{place_of}

pub returns-clause-crash : goal.returns-clause-crash
returns-clause-crash g c = λ whole. record {
  told = λ t. weaken (c.destroy_files.ensures.crash.told t)
      (λ f l. may_end _ (place_of c.args.self) f (c.what_is_kept_is_recovered.ensures _ (c.requires.on t whole)) l);
}

pub returns-clause-refused : goal.returns-clause-refused
returns-clause-refused g c = λ t whole why e.
    never_refused _ _ (place_of c.args.self) c.destroy_files.result why
    (c.what_is_kept_is_recovered.ensures _ (c.requires.on t whole) _ (g.met.D.Disk.reads_as_image c.args.disk.now t))
    (c.destroy_files.ensures.answer t) e

pub returns-clause-stops : goal.returns-clause-stops
returns-clause-stops g c = ends_as_opening c.destroy_files.result c.destroy_files.ensures.stops

use Rattle.std.proofs.Common.{subst}
use Rattle.kdb_base.specs.declared.outcomes.Refusal.{Refusal}
use Rattle.primary_disk.proofs.primary.DiskPrimary.load.Goals as goal
use Rattle.primary_disk.specs.Held.{Held}
use Rattle.primary_loading.specs.Loading.{LoadRefused}
use Rattle.stash_opening.specs.Answers.{Refuses}

pub returns-clause-only_refused : goal.returns-clause-only_refused
returns-clause-only_refused g c =
    subst (λ (h : Held g.row.D.Denot). (why : Refusal) → LoadRefused h.opened c.args.now c.args.dump why
    → Refuses c.load.result why) c.self.view_is c.load.ensures.only_refused

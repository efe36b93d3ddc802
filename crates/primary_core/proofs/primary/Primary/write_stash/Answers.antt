use Rattle.std.proofs.Common.{[], ◌∷◌}
use Rattle.kadm_commands.specs.declared.replies.Reply.TheVariants as reply
use Rattle.kdb_disk.proofs.Runs.{weaken}
use Rattle.kdb_histories.specs.Asks.{Replied}
use Rattle.kdb_histories.specs.Calls.{Stash}
use Rattle.kdb_histories.specs.Stages.{Stashed, stage}
use Rattle.primary_core.proofs.Begun.{stash_makes}
use Rattle.primary_core.proofs.Called.{call_leaves}
use Rattle.primary_core.proofs.primary.Primary.write_stash.Goals as goal
use Rattle.primary_core.specs.Opened.{place_of}
use Rattle.primary_core.specs.Refusing.{restashed_at}

pub returns-in-Ok-clause-crash : goal.returns-in-Ok-clause-crash
returns-in-Ok-clause-crash g c = λ s whole has. record {
  told = λ t. weaken (c.restash.ensures.crash.told t)
      (λ f l. call_leaves (place_of c.args.self.now) s
      (Stash c.args.now) (Replied reply.Stashed) (stage (restashed_at c.args.now c.args.self.now) Stashed ∷ [])
      (stash_makes c.args.self.now s c.args.now (Replied reply.Stashed) has) f l);
}

pub returns-in-Err-clause-crash : goal.returns-in-Err-clause-crash
returns-in-Err-clause-crash g c = λ s whole has. record {
  told = λ t. weaken (c.restash.ensures.crash.told t)
      (λ f l. call_leaves (place_of c.args.self.now) s
      (Stash c.args.now) (Replied reply.Stashed) (stage (restashed_at c.args.now c.args.self.now) Stashed ∷ [])
      (stash_makes c.args.self.now s c.args.now (Replied reply.Stashed) has) f l);
}

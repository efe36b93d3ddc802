use Rattle.std.proofs.Common.{[], ◌∷◌, option_map}
use Rattle.kadm_commands.specs.declared.commands.Command.TheVariants as command
use Rattle.kadm_commands.specs.declared.replies.Reply.TheVariants as reply
use Rattle.kdb_disk.proofs.Runs.{started, weaken}
use Rattle.kdb_histories.specs.Asks.{Replied}
use Rattle.kdb_histories.specs.Calls.{Perform}
use Rattle.kdb_histories.specs.Stages.{Stashed, stage}
use Rattle.primary_core.proofs.Begun.{admitted}
use Rattle.primary_core.proofs.Called.{call_does, call_leaves, call_stays}
use Rattle.primary_core.proofs.StashLine.{line_writes, told_does}
use Rattle.primary_core.proofs.primary.Primary.perform_stash.Goals as goal
use Rattle.primary_core.specs.Opened.{command_ask, place_of}
use Rattle.primary_core.specs.Refusing.{restashed_at}

pub returns-in-Ok-restash-clause-does : goal.returns-in-Ok-restash-clause-does
returns-in-Ok-restash-clause-does g c = λ s random whole has.
    call_does (place_of c.args.self.now) s
    (Perform (command_ask c.args.client.now (option_map (λ acl. acl.now) c.args.acl) command.Stash c.args.now random))
    (Replied reply.Stashed) (stage (restashed_at c.args.now c.args.self.now) Stashed ∷ [])
    (line_writes c.args.self.now s has c.args.client.now (option_map (λ acl. acl.now) c.args.acl) c.args.now random
    (admitted c.args.self.now c.args.client.now (option_map (λ acl. acl.now) c.args.acl) whole c.in-Ok.ensures.ok))
    (place_of c.restash.new.self) c.in-Ok-restash.ensures.place

pub returns-in-Ok-restash-clause-crash : goal.returns-in-Ok-restash-clause-crash
returns-in-Ok-restash-clause-crash g c = λ s random whole has. record {
  told = λ t. weaken (c.restash.ensures.crash.told t)
      (λ f l. call_leaves (place_of c.args.self.now) s
      (Perform (command_ask c.args.client.now (option_map (λ acl. acl.now) c.args.acl) command.Stash c.args.now random))
      (Replied reply.Stashed) (stage (restashed_at c.args.now c.args.self.now) Stashed ∷ [])
      (line_writes c.args.self.now s has c.args.client.now (option_map (λ acl. acl.now) c.args.acl) c.args.now random
      (admitted c.args.self.now c.args.client.now (option_map (λ acl. acl.now) c.args.acl) whole c.in-Ok.ensures.ok)) f
      l);
}

pub returns-in-Err-restash-clause-crash : goal.returns-in-Err-restash-clause-crash
returns-in-Err-restash-clause-crash g c = λ s random whole has. record {
  told = λ t. weaken (c.restash.ensures.crash.told t)
      (λ f l. call_leaves (place_of c.args.self.now) s
      (Perform (command_ask c.args.client.now (option_map (λ acl. acl.now) c.args.acl) command.Stash c.args.now random))
      (Replied reply.Stashed) (stage (restashed_at c.args.now c.args.self.now) Stashed ∷ [])
      (line_writes c.args.self.now s has c.args.client.now (option_map (λ acl. acl.now) c.args.acl) c.args.now random
      (admitted c.args.self.now c.args.client.now (option_map (λ acl. acl.now) c.args.acl) whole c.in-Ok.ensures.ok)) f
      l);
}

pub returns-in-Err-clause-does : goal.returns-in-Err-clause-does
returns-in-Err-clause-does g c = λ s random whole has.
    told_does _ c.args.self.now s has c.args.client.now (option_map (λ acl. acl.now) c.args.acl) c.args.now random
    c.admit_setting.result c.in-Err.stop c.told.result whole c.in-Err.is
    c.told.ensures.refused c.told.ensures.halted c.admit_setting.ensures.refused

pub returns-in-Err-clause-crash : goal.returns-in-Err-clause-crash
returns-in-Err-clause-crash g c = λ s random whole has. record {
  told = λ t. started _ _ (λ f i. call_stays (place_of c.args.self.now) s (Perform
      (command_ask c.args.client.now (option_map (λ acl. acl.now) c.args.acl) command.Stash c.args.now random)) f
      (c.what_is_kept_is_recovered.ensures _ (c.requires.on t whole) f i));
}

use Rattle.std.proofs.Common.{Result, Ok, inl, refl, ap, ◌∙◌, arith}
use Rattle.std.specs.Prelude.{option_map}
use Rattle.std.proofs.lemmas.Result.{on_err_weaker}
use Rattle.kadm_commands.specs.declared.replies.Reply.{Reply}
use Rattle.kadm_commands.specs.declared.replies.Reply.TheVariants.{Refused}
use Rattle.kdb_base.specs.declared.outcomes.Halt.{Halt}
use Rattle.kdb_base.specs.declared.outcomes.Refusal.TheVariants.{Closed}
use Rattle.kdb_disk.proofs.Runs.{started, weaken}
use Rattle.primary_core.proofs.Carried.{answers_none, closed_is, decided_at_ok, does_if, leaves}
use Rattle.primary_core.proofs.Carried.{may_by, never_both, never_fault, none_decided, reach_by}
use Rattle.primary_core.proofs.Carried.{reaches, state_if, stays, whole_at_err, whole_by}
use Rattle.primary_core.proofs.primary.Primary.perform.Goals as goal
use Rattle.primary_core.specs.Deciding.{change_of, reply_of}
use Rattle.primary_core.specs.Opened.{command_ask, place_of}
use Rattle.primary_core.specs.declared.decided.Decided.{Decided}

pub carry_out-requires-clause-whole : goal.carry_out-requires-clause-whole
carry_out-requires-clause-whole g c =
    whole_by c.args.self.now.kept.broken c.decide.result c.in-Ok.decided c.in-Ok.is c.decide.ensures.closed

pub carry_out-requires-clause-may : goal.carry_out-requires-clause-may
carry_out-requires-clause-may g c =
    may_by c.args.self.now c.args.now c.decide.result c.in-Ok.decided c.in-Ok.is c.decide.ensures.may

pub returns-in-Ok-clause-does : goal.returns-in-Ok-clause-does
returns-in-Ok-clause-does g c = λ s whole has.
    does_if c.args.self.now c.carry_out.new.self (command_ask c.args.client.now (option_map (λ acl. acl.now) c.args.acl)
    c.args.ready.now.command c.args.now c.args.random.now) (reply_of c.in-Ok.decided) (change_of c.in-Ok.decided)
    (decided_at_ok c.args.self.now (command_ask c.args.client.now (option_map (λ acl. acl.now) c.args.acl)
    c.args.ready.now.command c.args.now c.args.random.now) c.decide.result c.in-Ok.decided c.in-Ok.is
    (c.decide.ensures.decided whole)) s has c.carry_out.result
    c.carry_out.ensures.reply c.carry_out.ensures.place

pub returns-in-Ok-clause-state : goal.returns-in-Ok-clause-state
returns-in-Ok-clause-state g c = λ s whole has.
    state_if c.args.self.now c.carry_out.new.self
    (command_ask c.args.client.now (option_map (λ acl. acl.now) c.args.acl)
    c.args.ready.now.command c.args.now c.args.random.now) (reply_of c.in-Ok.decided) (change_of c.in-Ok.decided)
    (decided_at_ok c.args.self.now (command_ask c.args.client.now (option_map (λ acl. acl.now) c.args.acl)
    c.args.ready.now.command c.args.now c.args.random.now) c.decide.result c.in-Ok.decided c.in-Ok.is
    (c.decide.ensures.decided whole)) s has c.carry_out.result
    (λ none. (c.carry_out.ensures.keeps none).1) c.carry_out.ensures.state

pub returns-in-Ok-clause-closed : goal.returns-in-Ok-clause-closed
returns-in-Ok-clause-closed g c = λ b.
    (c.carry_out.ensures.keeps (answers_none c.in-Ok.decided (Refused Closed)
    (closed_is c.decide.result c.in-Ok.decided c.in-Ok.is (c.decide.ensures.closed b)))).0
    ∙ ap (λ (x : Decided). let r : Result Reply Halt = Ok (reply_of x) in r)
    (closed_is c.decide.result c.in-Ok.decided c.in-Ok.is (c.decide.ensures.closed b))

pub returns-in-Ok-clause-closed_keeps : goal.returns-in-Ok-clause-closed_keeps
returns-in-Ok-clause-closed_keeps g c = λ b.
    let kept = (c.carry_out.ensures.keeps (answers_none c.in-Ok.decided (Refused Closed)
    (closed_is c.decide.result c.in-Ok.decided c.in-Ok.is (c.decide.ensures.closed b)))) in
    (kept.1, kept.2)

pub returns-in-Ok-clause-keeps : goal.returns-in-Ok-clause-keeps
returns-in-Ok-clause-keeps g c = λ s whole has nothing.
    let asked = command_ask c.args.client.now (option_map (λ acl. acl.now) c.args.acl) c.args.ready.now.command
    c.args.now c.args.random.now in
    let decided =
    decided_at_ok c.args.self.now asked c.decide.result c.in-Ok.decided c.in-Ok.is (c.decide.ensures.decided whole) in
    let kept = c.carry_out.ensures.keeps
    (none_decided asked (change_of c.in-Ok.decided) (place_of c.args.self.now) _ (decided.performs s has).is nothing) in
    (kept.1, kept.2)

pub returns-in-Ok-clause-crash : goal.returns-in-Ok-clause-crash
returns-in-Ok-clause-crash g c = λ s whole has. record {
  told = λ t. weaken ((c.carry_out.ensures.crash whole).told t)
      (λ f l. leaves c.args.self.now
      (command_ask c.args.client.now (option_map (λ acl. acl.now) c.args.acl) c.args.ready.now.command c.args.now
      c.args.random.now) (reply_of c.in-Ok.decided) (change_of c.in-Ok.decided) (decided_at_ok c.args.self.now
      (command_ask c.args.client.now (option_map (λ acl. acl.now) c.args.acl) c.args.ready.now.command c.args.now
      c.args.random.now) c.decide.result c.in-Ok.decided c.in-Ok.is (c.decide.ensures.decided whole)) s has f l);
}

pub returns-in-Ok-clause-reach : goal.returns-in-Ok-clause-reach
returns-in-Ok-clause-reach g c = λ s has.
    reach_by _ _ c.args.self.now.kept.broken c.args.self.now.kept.broken c.carry_out.result (Refused Closed) refl
    (λ b. (c.carry_out.ensures.keeps (answers_none c.in-Ok.decided
    (Refused Closed) (closed_is c.decide.result c.in-Ok.decided c.in-Ok.is (c.decide.ensures.closed b)))).0
    ∙ ap (λ (x : Decided). let r : Result Reply Halt = Ok (reply_of x) in r)
    (closed_is c.decide.result c.in-Ok.decided c.in-Ok.is (c.decide.ensures.closed b)))
    (λ whole. on_err_weaker c.carry_out.result
    (reaches c.args.self.now (command_ask c.args.client.now (option_map (λ acl. acl.now) c.args.acl)
    c.args.ready.now.command c.args.now c.args.random.now) (reply_of c.in-Ok.decided) (change_of c.in-Ok.decided)
    (decided_at_ok c.args.self.now (command_ask c.args.client.now (option_map (λ acl. acl.now) c.args.acl)
    c.args.ready.now.command c.args.now c.args.random.now) c.decide.result c.in-Ok.decided c.in-Ok.is
    (c.decide.ensures.decided whole)) s has (place_of c.carry_out.new.self)) c.carry_out.ensures.part)

pub returns-in-Err-clause-closed : goal.returns-in-Err-clause-closed
returns-in-Err-clause-closed g c = λ b. absurd (never_both _ b
    (whole_at_err c.args.self.now.kept.broken c.decide.result c.in-Err.halt c.in-Err.is c.decide.ensures.closed))

pub returns-in-Err-clause-crash : goal.returns-in-Err-clause-crash
returns-in-Err-clause-crash g c = λ s whole has. record {
  told = λ t. started _ _ (λ f i. stays c.args.self.now s
      (command_ask c.args.client.now (option_map (λ acl. acl.now) c.args.acl) c.args.ready.now.command c.args.now
      c.args.random.now) f (c.what_is_kept_is_recovered.ensures _ (c.requires.on t whole) f i));
}

pub returns-in-Err-clause-reach : goal.returns-in-Err-clause-reach
returns-in-Err-clause-reach g c = λ s has. inl refl

pub returns-in-Err-clause-still : goal.returns-in-Err-clause-still
returns-in-Err-clause-still g c = λ t e. c.requires.on t
    (whole_at_err c.args.self.now.kept.broken c.decide.result c.in-Err.halt c.in-Err.is c.decide.ensures.closed)

pub returns-in-Err-clause-whole_still : goal.returns-in-Err-clause-whole_still
returns-in-Err-clause-whole_still g c =
    λ e. (whole_at_err c.args.self.now.kept.broken c.decide.result c.in-Err.halt c.in-Err.is c.decide.ensures.closed)

pub returns-in-Err-clause-broken : goal.returns-in-Err-clause-broken
returns-in-Err-clause-broken g c = λ e. absurd (never_fault c.in-Err.halt Reply c.in-Err.ensures.halted e)

pub returns-in-Err-clause-call : goal.returns-in-Err-clause-call
returns-in-Err-clause-call g c = record {
  same = refl;
  later = omega arith;
  cause = λ e. absurd (never_fault c.in-Err.halt Reply c.in-Err.ensures.halted e);
}

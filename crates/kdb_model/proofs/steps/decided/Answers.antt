use Rattle.std.proofs.Common.{◌≡◌, ap, sym, subst}
use Rattle.std.specs.Prelude.{IfOk}
use Rattle.kadm_commands.specs.declared.replies.Reply.{Reply}
use Rattle.kdb_model.specs.Asking.{call_in, state_in}
use Rattle.kdb_model.specs.Steps.{Outcome}
use Rattle.kdb_plain.specs.declared.states.State.{State}
use Rattle.kdb_model.proofs.Deciding.{does_performed, does_refused}
use Rattle.kdb_model.proofs.steps.decided.Goals as goal

pub performed-requires-clause-room : goal.performed-requires-clause-room
performed-requires-clause-room c = c.requires.decision.room c.in-None.is

pub performed-requires-clause-masters : goal.performed-requires-clause-masters
performed-requires-clause-masters c = c.requires.decision.masters c.in-None.is

pub returns-in-Some-clause-state : goal.returns-in-Some-clause-state
returns-in-Some-clause-state c =
    let is = does_refused (state_in c.args.asked.now) (call_in c.args.asked.now) c.args.change c.args.why
    c.in-Some.refusal c.requires.decision c.in-Some.is in
    subst (λ (t : State). IfOk c.answered.result (λ r. r.0 ≡ t))
    (sym (ap (λ (o : Outcome). o.state) is)) c.answered.ensures.state

pub returns-in-Some-clause-reply : goal.returns-in-Some-clause-reply
returns-in-Some-clause-reply c =
    let is = does_refused (state_in c.args.asked.now) (call_in c.args.asked.now) c.args.change c.args.why
    c.in-Some.refusal c.requires.decision c.in-Some.is in
    subst (λ (t : Reply). IfOk c.answered.result (λ r. r.1 ≡ t))
    (sym (ap (λ (o : Outcome). o.reply) is)) c.answered.ensures.reply

pub returns-in-None-clause-state : goal.returns-in-None-clause-state
returns-in-None-clause-state c =
    let is = does_performed (state_in c.args.asked.now) (call_in c.args.asked.now) c.args.change c.args.why
    c.requires.decision c.in-None.is in
    subst (λ (t : State). IfOk c.performed.result (λ r. r.0 ≡ t))
    (sym (ap (λ (o : Outcome). o.state) is)) c.performed.ensures.state

pub returns-in-None-clause-reply : goal.returns-in-None-clause-reply
returns-in-None-clause-reply c =
    let is = does_performed (state_in c.args.asked.now) (call_in c.args.asked.now) c.args.change c.args.why
    c.requires.decision c.in-None.is in
    subst (λ (t : Reply). IfOk c.performed.result (λ r. r.1 ≡ t))
    (sym (ap (λ (o : Outcome). o.reply) is)) c.performed.ensures.reply

use Rattle.std.proofs.Common.{◌≡◌, rules, Bool, false, Some, None, sym, subst}
use Rattle.std.specs.Prelude.{IfOk, Option}
use Rattle.kdb_model.specs.Asking.{call_in, changes_state, state_in}
use Rattle.kdb_model.specs.Refusals.{has_last_kvno, target}
use Rattle.kdb_plain.specs.declared.changes.PlainOp.{PlainOp}
use Rattle.kdb_plain.specs.declared.princs.PlainPrinc.{PlainPrinc}
use Rattle.kdb_model.proofs.Targets.{at_target, no_target}
use Rattle.kdb_model.proofs.entries.entry.Goals as goal

pub returns-then-not-changes_state : goal.returns-then-not-changes_state
returns-then-not-changes_state c = λ versions.
    let gone : target (state_in c.args.asked.now) c.args.asked.now.command.now ≡ None = search rules in
    let other : changes_state c.args.asked.now.command.now ≡ false = search rules in
    sym (no_target (state_in c.args.asked.now) (call_in c.args.asked.now) c.args.asked.now.command.now other gone)

pub returns-in-Some : goal.returns-in-Some
returns-in-Some c = λ versions.
    let there : target (state_in c.args.asked.now) c.args.asked.now.command.now ≡ Some c.in-Some.princ.now =
    search rules in
    let kvno =
    subst (λ (o : Option PlainPrinc). has_last_kvno c.args.asked.now.command.now o ≡ false) there versions.keys in
    subst (λ (o : Option PlainOp). IfOk c.princ_change.result (λ op. op ≡ o))
    (sym (at_target (state_in c.args.asked.now) (call_in c.args.asked.now) c.args.asked.now.command.now
    c.in-Some.princ.now there)) (c.princ_change.ensures kvno)

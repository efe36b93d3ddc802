use Rattle.std.proofs.Common.{◌≡◌, ℕ, ◌<◌, rules, ap, sym, subst, false, ◌∙◌}
use Rattle.std.specs.Prelude.{IfOk, Ok, option_map}
use Rattle.kdb_model.specs.Calls.{call_of, moment_of}
use Rattle.kdb_model.specs.Steps.{step}
use Rattle.princ_name.specs.Names.{NameParts, printed}
use Rattle.kdb_model.proofs.Deciding.{later_secs, ok_is}
use Rattle.kdb_model.proofs.steps.step_plain.Goals as goal

pub step_named-requires-clause-client : goal.step_named-requires-clause-client
step_named-requires-clause-client c =
    let given = c.requires.client in
    let was : c.read_printed.result ≡ Ok c.in_ok-name.name = search rules in
    let same = ok_is c.read_printed.result c.in_ok-name.name given.0 was
    (c.read_printed.ensures given.0 given.1.0 (sym given.1.1)) in
    let named : c.args.client.now ≡ printed c.in_ok-name.name = given.1.1 ∙ ap printed (sym same) in
    cc

pub step_named-requires-clause-valid : goal.step_named-requires-clause-valid
step_named-requires-clause-valid c =
    let below : c.args.moment.usecs < 1000000 = search rules in
    c.valid_later.ensures.later c.args.state.now c.args.state.now.point.time _
    (later_secs c.args.state.now.point.time c.args.moment below) c.requires.valid

pub returns-clause-state : goal.returns-clause-state
returns-clause-state c = λ who is at.
    let was : c.read_printed.result ≡ Ok c.in_ok-name.name = search rules in
    let same = ok_is c.read_printed.result c.in_ok-name.name who was (c.read_printed.ensures who is at) in
    subst (λ (n : NameParts). IfOk c.step_named.result (λ r. r.0 ≡ (step c.args.state.now
    (call_of n (option_map (λ a. a.now) c.args.acl) c.args.command.now c.args.moment c.args.random.now false)).state))
    same c.step_named.ensures.state

pub returns-clause-reply : goal.returns-clause-reply
returns-clause-reply c = λ who is at.
    let was : c.read_printed.result ≡ Ok c.in_ok-name.name = search rules in
    let same = ok_is c.read_printed.result c.in_ok-name.name who was (c.read_printed.ensures who is at) in
    subst (λ (n : NameParts). IfOk c.step_named.result (λ r. r.1 ≡ (step c.args.state.now
    (call_of n (option_map (λ a. a.now) c.args.acl) c.args.command.now c.args.moment c.args.random.now false)).reply))
    same c.step_named.ensures.reply

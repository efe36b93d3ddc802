use Rattle.std.proofs.Common.{◌≡◌, rules, refl}
use Rattle.std.specs.Prelude.{Ok, option_map}
use Rattle.kdb_model.specs.Asking.{call_in, state_in}
use Rattle.kdb_model.specs.Entries.{entry}
use Rattle.kdb_model.specs.Refusals.{causes_with, first, needed_name}
use Rattle.kdb_model.proofs.Deciding.{decided, ok_is, target_is}
use Rattle.princ_name.specs.Names.{printed}
use Rattle.kdb_model.proofs.steps.step_named.Goals as goal

pub decided-requires-clause-decision : goal.decided-requires-clause-decision
decided-requires-clause-decision c =
    let was : c.entry.result ≡ Ok c.in_ok-change.change = search rules in
    let why_made : c.in_ok-why.why
    ≡ first (causes_with (state_in c.args.asked.now) (call_in c.args.asked.now) c.in_ok-change.change) = search rules in
    decided (state_in c.args.asked.now) (call_in c.args.asked.now) c.in_ok-change.change refl
    (λ versions. ok_is c.entry.result c.in_ok-change.change
    (entry (state_in c.args.asked.now) (call_in c.args.asked.now)) was (c.entry.ensures versions))
    c.in_ok-why.why why_made c.requires.valid c.requires.command

pub entry-requires-clause-target : goal.entry-requires-clause-target
entry-requires-clause-target c =
    let texts : c.in_ok-needed.needed ≡ option_map printed (needed_name c.args.asked.now.command.now) = search rules in
    target_is (state_in c.args.asked.now) c.args.asked.now.command.now c.in_ok-needed.needed _ texts
    c.find_some-target.ensures

pub refusal-requires-clause-target : goal.refusal-requires-clause-target
refusal-requires-clause-target c =
    let texts : c.in_ok-needed.needed ≡ option_map printed (needed_name c.args.asked.now.command.now) = search rules in
    target_is (state_in c.args.asked.now) c.args.asked.now.command.now c.in_ok-needed.needed _ texts
    c.find_some-target.ensures

pub decided-requires-clause-target : goal.decided-requires-clause-target
decided-requires-clause-target c =
    let texts : c.in_ok-needed.needed ≡ option_map printed (needed_name c.args.asked.now.command.now) = search rules in
    target_is (state_in c.args.asked.now) c.args.asked.now.command.now c.in_ok-needed.needed _ texts
    c.find_some-target.ensures

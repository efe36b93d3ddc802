use Rattle.std.proofs.Common.{◌≡◌, rules, ◌∙◌}
use Rattle.kdb_model.specs.Asking.{call_in, state_in}
use Rattle.kdb_model.specs.Refusals.{few_classes, no_active_master, pass_reused, too_large, too_short}
use Rattle.kdb_model.proofs.Deciding.{causes_are}
use Rattle.kdb_model.proofs.steps.refusal.Goals as goal

pub returns : goal.returns
returns c =
    let short : c.too_short.result ≡ too_short (state_in c.args.asked.now) (call_in c.args.asked.now) = search rules in
    let few : c.few_classes.result ≡ few_classes (state_in c.args.asked.now) (call_in c.args.asked.now) =
    search rules in
    let reused : c.in_ok-reused.reused ≡ pass_reused (state_in c.args.asked.now) (call_in c.args.asked.now) =
    search rules in
    let inactive : c.in_ok-inactive.inactive ≡ no_active_master (state_in c.args.asked.now)
    (call_in c.args.asked.now) c.args.asked.now.command.now = search rules in
    let large : c.in_ok-large.large ≡ too_large (state_in c.args.asked.now) c.args.change.now = search rules in
    c.first.ensures
    ∙ causes_are (state_in c.args.asked.now) (call_in c.args.asked.now) c.args.change.now
    c.unknown_master.result c.denied.result c.protected.result c.duplicate.result c.unknown_principal.result
    c.locked_down.result c.unknown_policy.result c.policy_in_use.result c.too_short.result c.few_classes.result
    c.in_ok-reused.reused c.too_soon.result c.keys_full.result c.unknown_string.result c.strings_full.result
    c.too_many_masters.result c.in_ok-inactive.inactive c.rows_full.result c.in_ok-large.large
    c.unknown_master.ensures c.denied.ensures c.protected.ensures c.duplicate.ensures c.unknown_principal.ensures
    c.locked_down.ensures c.unknown_policy.ensures c.policy_in_use.ensures short few
    reused c.too_soon.ensures c.keys_full.ensures c.unknown_string.ensures c.strings_full.ensures
    c.too_many_masters.ensures inactive c.rows_full.ensures large

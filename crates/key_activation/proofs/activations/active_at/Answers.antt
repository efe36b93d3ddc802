use Rattle.std.proofs.Common.{◌≡◌, rules, tests, leb, ap, sym, ◌∙◌}
use Rattle.std.specs.Prelude.{option_map}
use Rattle.std.specs.List.{filter, reduce}
use Rattle.std.proofs.lemmas.Iterator.{YieldsList-from_slice}
use Rattle.std.proofs.lemmas.Iterator.Consumers.{YieldsList-at, YieldsList-from_copied, YieldsList-from_filter}
use Rattle.kdb_base.specs.declared.versions.Activation.{Activation}
use Rattle.key_activation.specs.Activations.{active, begun, latest, later}
use Rattle.key_activation.proofs.Calls.{reduce_is}
use Rattle.key_activation.proofs.Latest.{active_some, active_none}
use Rattle.key_activation.proofs.activations.active_at.Goals as goal

value : (c : goal.After-map) → c.map.result ≡ active c.args.list.now c.args.secs
unfolding active begun latest
value c =
    let is : c.reduce.result ≡ reduce later (filter (λ a. leb a.secs c.args.secs) c.args.list.now) =
    reduce_is later c.filter.result _ c.reduce.result c.reduce.ensures.ran (λ p a b r q called. search rules)
    (YieldsList-from_filter _ (λ (a : Activation). leb a.secs c.args.secs)
    (YieldsList-at c.filter.ensures.source
    (YieldsList-from_copied (YieldsList-at c.copied.ensures.source (YieldsList-from_slice c.args.list.now (cc)))))
    c.filter.ensures.closure (λ x r q called. search (rules, tests))) in
    let mapped : c.map.result ≡ option_map (λ (a : Activation). a.version) c.reduce.result = search (rules, tests) in
    mapped ∙ ap (option_map (λ (a : Activation). a.version)) is

pub returns-clause-value : goal.returns-clause-value
returns-clause-value c = value c

pub returns-clause-some : goal.returns-clause-some
returns-clause-some c = λ version e. active_some c.args.list.now c.args.secs version (sym (value c) ∙ e)

pub returns-clause-none : goal.returns-clause-none
returns-clause-none c = λ e. active_none c.args.list.now c.args.secs (sym (value c) ∙ e)

use Rattle.std.proofs.Common.{◌≡◌, rules, ap, sym, subst, ◌∙◌}
use Rattle.std.specs.Prelude.{List, map, filter}
use Rattle.std.proofs.lemmas.Fn.{filter_same}
use Rattle.kdb_base.specs.Versions.{AreRising}
use Rattle.kdb_base.specs.declared.versions.Activation.{Activation}
use Rattle.serving_versions.specs.MasterChanges.{serving_activations}
use Rattle.serving_versions.specs.Versions.{serves}
use Rattle.master_keys.proofs.Live.{rising_filter}
use Rattle.kdb_model.proofs.masters.serving_activations.Goals as goal

pub from_vec-requires : goal.from_vec-requires
from_vec-requires c =
    let is = filter_same _ (λ (a : Activation). serves c.args.state.now c.args.secs a.version) _
    (λ x b f' called. search rules) _ _ c.retain.ensures.filtered in
    let copied : c.in_ok-items.items.items ≡ c.as_slice.result.now = search rules in
    let rising = subst (λ (list : List Activation). AreRising (map (λ (a : Activation). a.version) list))
    (sym copied) c.as_slice.ensures.rising in
    rising_filter (λ (a : Activation). a.version) (serves c.args.state.now c.args.secs) c.in_ok-items.items.items
    c.retain.new.self.items rising is

pub returns : goal.returns
unfolding serving_activations
returns c =
    let is = filter_same _ (λ (a : Activation). serves c.args.state.now c.args.secs a.version) _
    (λ x b f' called. search rules) _ _ c.retain.ensures.filtered in
    let copied : c.in_ok-items.items.items ≡ c.as_slice.result.now = search rules in
    c.from_vec.ensures ∙ is ∙ ap (filter (λ (a : Activation). serves c.args.state.now c.args.secs a.version))
    (copied ∙ c.as_slice.ensures.value)

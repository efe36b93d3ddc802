use Rattle.std.proofs.Common.{rules, ap, ◌∙◌}
use Rattle.std.specs.Prelude.{List, filter}
use Rattle.std.proofs.lemmas.Fn.{filter_same}
use Rattle.kdb_base.specs.declared.versions.AuxKey.{AuxKey}
use Rattle.master_keys.specs.Versions.{is_live}
use Rattle.master_keys.proofs.Live.{rising_filter}
use Rattle.master_keys.proofs.purging.live_aux.Goals as goal

pub from_vec-requires : goal.from_vec-requires
from_vec-requires c =
    let is = filter_same _ (λ (a : AuxKey). is_live c.args.dead.now a.version) _
    (λ x b f' called. search rules) _ _ c.retain.ensures.filtered in
    rising_filter (λ (a : AuxKey). a.version) (is_live c.args.dead.now) _ _ c.into_vec-items.ensures.rising is

pub returns : goal.returns
returns c =
    let is = filter_same _ (λ (a : AuxKey). is_live c.args.dead.now a.version) _
    (λ x b f' called. search rules) _ _ c.retain.ensures.filtered in
    c.from_vec.ensures ∙ is ∙ ap (λ (xs : List AuxKey). filter (λ (a : AuxKey). is_live c.args.dead.now a.version) xs)
    c.into_vec-items.ensures.value

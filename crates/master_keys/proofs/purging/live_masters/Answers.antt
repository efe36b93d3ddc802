use Rattle.std.proofs.Common.{◌≡◌, rules, ap, sym, subst, ◌∙◌}
use Rattle.std.specs.Prelude.{List, map}
use Rattle.std.proofs.lemmas.Fn.{filter_same}
use Rattle.kdb_base.specs.Versions.{AreRising}
use Rattle.kdb_base.specs.declared.versions.Master.{Master}
use Rattle.master_keys.specs.Purging.{live_masters}
use Rattle.master_keys.specs.Versions.{is_live}
use Rattle.master_keys.proofs.Live.{rising_filter}
use Rattle.master_keys.proofs.purging.live_masters.Goals as goal

pub from_vec-requires : goal.from_vec-requires
from_vec-requires c =
    let is = filter_same _ (λ (m : Master). is_live c.args.dead.now m.version) _
    (λ x b f' called. search rules) _ _ c.retain.ensures.filtered in
    let copied : c.in_ok-items.items.items ≡ c.as_slice.result.now = search rules in
    let rising = subst (λ (ms : List Master). AreRising (map (λ (m : Master). m.version) ms))
    (sym copied) c.as_slice.ensures.rising in
    rising_filter (λ (m : Master). m.version) (is_live c.args.dead.now) c.in_ok-items.items.items
    c.retain.new.self.items rising is

pub returns : goal.returns
unfolding live_masters
returns c =
    let is = filter_same _ (λ (m : Master). is_live c.args.dead.now m.version) _
    (λ x b f' called. search rules) _ _ c.retain.ensures.filtered in
    let copied : c.in_ok-items.items.items ≡ c.as_slice.result.now = search rules in
    c.from_vec.ensures ∙ is ∙ ap (live_masters c.args.dead.now) (copied ∙ c.as_slice.ensures.value)

use Rattle.std.proofs.Common.{◌≡◌, rules, sym, subst, map, List, [], ◌∷◌, ◌++◌}
use Rattle.kdb_base.specs.Versions.{AreRising}
use Rattle.kdb_base.specs.declared.versions.Master.{Master}
use Rattle.serving_versions.proofs.Ranked.{master_rising}
use Rattle.kdb_model.proofs.masters.with_newest.Goals as goal

pub from_vec-requires : goal.from_vec-requires
from_vec-requires c =
    let is : c.push.new.self.items ≡ c.args.masters.now ++ c.args.master.now ∷ [] = search rules in
    subst (λ (ms : List Master). AreRising (map (λ (m : Master). m.version) ms)) (sym is)
    (master_rising c.args.masters.now c.args.master.now
    (subst (λ (ms : List Master). AreRising (map (λ (m : Master). m.version) ms)) c.as_slice.ensures.value
    c.as_slice.ensures.rising) c.requires)

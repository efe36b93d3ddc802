use Rattle.std.proofs.Common.{◌≡◌, Option, Some, None, ap, sym, ◌∙◌}
use Rattle.std.specs.Prelude.{nat_eq, option_map, unwrap_or}
use Rattle.std.specs.List.{last_or}
use Rattle.kdb_base.specs.declared.versions.Master.{Master}
use Rattle.master_keys.specs.Versions.{last_version}
use Rattle.kdb_plain.proofs.Lasts.{last_is}
use Rattle.serving_versions.proofs.serving.is_newest.Goals as goal

pub returns-in-len1-up : goal.returns-in-len1-up
unfolding last_version
returns-in-len1-up c =
    let last : last_or None c.as_slice.result.now ≡ Some c.newest-item.result =
    last_is c.as_slice.result.now c.newest-item.result c.in-len1-up.len_at_least c.newest-item.is in
    let there : last_or None c.args.masters.now ≡ Some c.newest-item.result =
    ap (last_or None) (sym c.as_slice.ensures.value) ∙ last in
    ap (λ (o : Option Master). nat_eq c.args.version (unwrap_or (option_map (λ (m : Master). m.version) o) 0))
    (sym there)

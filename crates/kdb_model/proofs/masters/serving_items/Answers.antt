use Rattle.std.proofs.Common.{◌≡◌, rules, ap, ◌∙◌}
use Rattle.std.specs.Prelude.{filter}
use Rattle.std.proofs.lemmas.Fn.{filter_same}
use Rattle.serving_versions.specs.Versions.{serves}
use Rattle.plain_keys.specs.declared.items.PlainItem.{PlainItem}
use Rattle.kdb_model.proofs.masters.serving_items.Goals as goal

pub returns : goal.returns
returns c =
    let is = filter_same _ (λ (k : PlainItem). serves c.args.state.now c.args.secs k.kvno) _
    (λ x b f' called. search rules) _ _ c.retain.ensures.filtered in
    c.from_vec.ensures ∙ is
    ∙ ap (filter (λ (k : PlainItem). serves c.args.state.now c.args.secs k.kvno)) c.into_vec-items.ensures

use Rattle.std.proofs.Common.{◌≡◌, rules, ap, ◌∙◌}
use Rattle.std.specs.Prelude.{filter}
use Rattle.std.proofs.lemmas.Fn.{filter_same}
use Rattle.plain_keys.specs.Keys.{is_from, keys_from}
use Rattle.kdb_model.proofs.records.keys_from.Goals as goal

pub returns : goal.returns
unfolding keys_from
returns c =
    let is = filter_same _ (is_from c.args.kvno) _ (λ x b f' called. search rules) _ _ c.retain.ensures.filtered in
    c.from_vec.ensures ∙ is ∙ ap (filter (is_from c.args.kvno)) c.into_vec-items.ensures

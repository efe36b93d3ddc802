use Rattle.std.proofs.Common.{rules, ap, ◌∙◌}
use Rattle.std.specs.Prelude.{List, filter}
use Rattle.std.proofs.lemmas.Fn.{filter_same}
use Rattle.princ_keys.specs.declared.keys.KeyItem.{KeyItem}
use Rattle.master_keys.specs.Versions.{is_live}
use Rattle.master_keys.proofs.purging.live_keys.Goals as goal

pub returns : goal.returns
returns c =
    let is = filter_same _ (λ (k : KeyItem). is_live c.args.dead.now k.kvno) _
    (λ x b f' called. search rules) _ _ c.retain.ensures.filtered in
    c.from_vec.ensures ∙ is
    ∙ ap (λ (xs : List KeyItem). filter (λ (k : KeyItem). is_live c.args.dead.now k.kvno) xs) c.into_vec-items.ensures

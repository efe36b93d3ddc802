use Rattle.std.proofs.Common.{rules, ap, subst, sym, ◌∙◌}
use Rattle.std.specs.Prelude.{List, filter}
use Rattle.std.specs.List.{AllZip}
use Rattle.std.proofs.lemmas.Fn.{filter_same}
use Rattle.princ_keys.specs.declared.keys.KeyItem.{KeyItem}
use Rattle.plain_keys.specs.Keys.{keys_from}
use Rattle.row_keys.specs.KeptKeys.{is_kept_from, kept_from}
use Rattle.row_keys.specs.Shows.{ShowsItem}
use Rattle.row_keys.proofs.Kept.{from_shows}
use Rattle.row_keys.proofs.kept_keys.kept_from.Goals as goal

pub returns-clause-items : goal.returns-clause-items
unfolding kept_from
returns-clause-items c =
    let is = filter_same _ (is_kept_from c.args.kvno) _ (λ x b f' called. search rules) _ _ c.retain.ensures.filtered in
    c.from_vec.ensures ∙ is ∙ ap (λ (xs : List KeyItem). filter (is_kept_from c.args.kvno) xs) c.into_vec-items.ensures

pub returns-clause-shows : goal.returns-clause-shows
returns-clause-shows c master plain h =
    subst (λ (xs : List KeyItem). AllZip (ShowsItem master) xs (keys_from c.args.kvno plain))
    (sym (returns-clause-items c)) (from_shows master c.args.kvno c.args.keys plain h)

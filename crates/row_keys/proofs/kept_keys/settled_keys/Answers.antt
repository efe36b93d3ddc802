use Rattle.std.proofs.Common.{◌≡◌, List, ap, map, subst, sym, ◌∙◌, arith}
use Rattle.std.specs.List.{AllZip}
use Rattle.std.proofs.lemmas.List.{take_all}
use Rattle.princ_keys.specs.declared.keys.KeyItem.{KeyItem}
use Rattle.plain_keys.specs.Keys.{settled_items}
use Rattle.row_keys.specs.KeptKeys.{settled_keys, settled_kept}
use Rattle.row_keys.specs.Shows.{ShowsItem}
use Rattle.row_keys.proofs.Kept.{settled_shows}
use Rattle.row_keys.proofs.kept_keys.settled_keys.Goals as goal

pub returns-clause-shows : goal.returns-clause-shows
unfolding settled_keys
returns-clause-shows c master plain h =
    let is : c.from_vec.result ≡ map (settled_kept c.args.name.now) c.args.items.now =
    c.from_vec.ensures ∙ c.loop-item.invariant ∙ ap (λ (xs : List KeyItem). map (settled_kept c.args.name.now) xs)
    (take_all c.loop-item.item-index c.args.items.now (omega arith)) in
    subst (λ (xs : List KeyItem). AllZip (ShowsItem master) xs (settled_items c.args.name.now plain)) (sym is)
    (settled_shows master c.args.name.now c.args.items.now plain h)

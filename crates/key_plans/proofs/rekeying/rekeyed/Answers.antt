use Rattle.std.proofs.Common.{◌≡◌, ◌++◌, List, rules, sym, subst}
use Rattle.std.specs.List.{AllZip}
use Rattle.command_plans.specs.Targets.{by_given}
use Rattle.key_plans.proofs.MadeRecords.{made_from, made_shows, on_made}
use Rattle.key_plans.specs.Changing.{kept_with, next_items, plain_with}
use Rattle.plain_keys.specs.Keys.{kept_keys}
use Rattle.plain_keys.specs.declared.items.PlainItem.{PlainItem}
use Rattle.princ_record.specs.declared.princs.Princ.{Princ}
use Rattle.row_keys.specs.Shows.{ShowsItem, ShowsSet, ShowsUnder}
use Rattle.key_plans.proofs.rekeying.rekeyed.Goals as goal

pub returns-clause-princ : goal.returns-clause-princ
returns-clause-princ c =
    let w = c.args.with.now in
    let g = c.args.given.now in
    let k = c.args.c.now in
    let keys = c.args.fresh.now in
    let q = c.args.plain.now in
    let items_are : c.as_slice.result.now ≡ next_items keys q.keys = search rules in
    let again_are : c.as_slice-2.result.now ≡ next_items keys q.keys = search rules in
    on_made c.rekeyed_head.result (λ p. p ≡ kept_with w g.random.now (by_given g) k keys q c.args.princ.now) _
    c.rekeyed_head.ensures.head
    (made_from w (by_given g) k keys q c.args.princ.now c.in_ok-made.made c.in_ok-keys.keys c.in_ok-old.old
    c.in_ok-made.ensures g.random.now
    (c.in_ok-keys.ensures.keys keys items_are) (c.in_ok-old.ensures.sets keys again_are))

pub returns-clause-shows : goal.returns-clause-shows
returns-clause-shows c =
    let w = c.args.with.now in
    let g = c.args.given.now in
    let k = c.args.c.now in
    let keys = c.args.fresh.now in
    let q = c.args.plain.now in
    let f = c.requires.opened.shows in
    let items_are : c.as_slice.result.now ≡ next_items keys q.keys = search rules in
    let old : AllZip (ShowsSet w.history) c.in_ok-made.made.old q.old =
    subst (λ (p : Princ). AllZip (ShowsSet w.history) p.old q.old) (sym c.in_ok-made.ensures) f.old in
    on_made c.rekeyed_head.result (λ p. ShowsUnder w.active.key w.history p (plain_with w (by_given g) k keys q)) _
    c.rekeyed_head.ensures.head
    (made_shows w (by_given g) k keys q c.args.princ.now c.in_ok-made.made c.in_ok-keys.keys c.in_ok-old.old
    c.in_ok-made.ensures c.requires.opened.master f
    (subst (λ (items : List PlainItem). AllZip (ShowsItem w.active.key) c.in_ok-keys.keys
    (items ++ kept_keys k.keep_old q.keys)) items_are c.in_ok-keys.ensures.shows)
    (c.in_ok-old.ensures.shows old))

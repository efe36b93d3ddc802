use Rattle.std.proofs.Common.{◌≡◌, ◌+◌, ◌*◌, ◌≤◌, false, List, length, None, sym, subst, ◌∙◌, rules, arith}
use Rattle.command_plans.specs.KeptEntries.{is_drawn}
use Rattle.command_plans.specs.Targets.{IsPut}
use Rattle.kdb_base.specs.Key.{Key}
use Rattle.kdb_model.specs.Refusals.{first}
use Rattle.kdb_plain.specs.declared.princs.PlainPrinc.{PlainPrinc}
use Rattle.key_plans.proofs.ChangePlans.{causes_of, causes_told, change_fits, change_refused}
use Rattle.key_plans.proofs.ChangePlans.{change_well, changes, fresh, made_of, made_told}
use Rattle.key_plans.proofs.ChangePlans.{numbers, opened_formed, other_of, other_told, room_of}
use Rattle.key_plans.proofs.KeyFits.{block_serves, few_to_make}
use Rattle.key_plans.specs.Changing.{next_items}
use Rattle.plain_keys.specs.Keys.{kept_keys, newest_keys}
use Rattle.princ_rows.specs.declared.entries.Op.TheVariants as op
use Rattle.princ_record.specs.Princs.{IsPrinc}
use Rattle.princ_record.specs.declared.princs.Princ.{Princ}
use Rattle.row_keys.specs.Shows.{ShowsUnder}
use Rattle.row_keys.specs.Wraps.{taken_lens}
use Rattle.key_plans.proofs.changing.change_keys.Goals as goal

pub fresh_keys-requires-clause-block : goal.fresh_keys-requires-clause-block
fresh_keys-requires-clause-block c =
    let few =
    few_to_make c.args.c.now.keys (change_well c.args.given.now.realm.now c.args.c.now c.requires.command).1 in
    let long = c.requires.block in
    omega (arith, few, long)

pub returns-in-Some : goal.returns-in-Some
returns-in-Some c =
    let g = c.args.given.now in
    let k = c.args.c.now in
    let q = c.in_ok-plain.plain in
    let keys_are : c.as_slice.result.now ≡ fresh g k = search rules in
    let asked_is : c.numbers_for-numbers.result ≡ numbers g k q = c.numbers_for-numbers.ensures in
    change_refused g k c.args.princ.now c.requires.target c.in_ok-history.history c.in_ok-history.ensures q
    c.in_ok-plain.ensures c.in-Some.why
    (sym (causes_told g k c.args.own c.numbers_for-numbers.result c.as_slice.result.now q c.requires.own asked_is
    keys_are) ∙ sym c.cause.ensures ∙ c.in-Some.is)

pub rekeyed-requires-clause-version : goal.rekeyed-requires-clause-version
rekeyed-requires-clause-version c =
    let g = c.args.given.now in
    let k = c.args.c.now in
    let q = c.in_ok-plain.plain in
    let keys_are : c.as_slice.result.now ≡ fresh g k = search rules in
    let asked_is : c.numbers_for-numbers.result ≡ numbers g k q = c.numbers_for-numbers.ensures in
    let none : first (causes_of g k q) ≡ None =
    sym (causes_told g k c.args.own c.numbers_for-numbers.result c.as_slice.result.now q c.requires.own asked_is
    keys_are) ∙ sym c.cause.ensures ∙ c.in_default.is in
    (room_of g k q none).version

pub rekeyed-requires-clause-block : goal.rekeyed-requires-clause-block
rekeyed-requires-clause-block c =
    let g = c.args.given.now in
    let k = c.args.c.now in
    let q = c.in_ok-plain.plain in
    let keys_are : c.as_slice.result.now ≡ fresh g k = search rules in
    let again_are : c.as_slice-2.result.now ≡ fresh g k = search rules in
    let asked_is : c.numbers_for-numbers.result ≡ numbers g k q = c.numbers_for-numbers.ensures in
    let none : first (causes_of g k q) ≡ None =
    sym (causes_told g k c.args.own c.numbers_for-numbers.result c.as_slice.result.now q c.requires.own asked_is
    keys_are) ∙ sym c.cause.ensures ∙ c.in_default.is in
    let formed = opened_formed g k c.args.princ.now c.requires.target c.in_ok-history.history c.in_ok-history.ensures q
    c.in_ok-plain.ensures c.requires.realm c.requires.command in
    subst (λ (keys : List Key). taken_lens (is_drawn k.keys) (next_items keys q.keys) + taken_lens false
    (kept_keys k.keep_old q.keys) + 16 * length (newest_keys q.keys) ≤ length g.random.now) (sym again_are)
    (block_serves g.random.now k (change_well g.realm.now k c.requires.command).1 q formed
    (room_of g k q none) c.requires.block)

pub put-requires : goal.put-requires
put-requires c =
    let g = c.args.given.now in
    let k = c.args.c.now in
    let q = c.in_ok-plain.plain in
    let p = c.args.princ.now in
    let m = c.in_ok-active.active in
    let history = c.in_ok-history.history in
    let keys_are : c.as_slice.result.now ≡ fresh g k = search rules in
    let again_are : c.as_slice-2.result.now ≡ fresh g k = search rules in
    let asked_is : c.numbers_for-numbers.result ≡ numbers g k q = c.numbers_for-numbers.ensures in
    let none : first (causes_of g k q) ≡ None =
    sym (causes_told g k c.args.own c.numbers_for-numbers.result c.as_slice.result.now q c.requires.own asked_is
    keys_are) ∙ sym c.cause.ensures ∙ c.in_default.is in
    let made_is : c.in_ok-made.made ≡ made_of g k m history q p =
    c.in_ok-made.ensures.princ ∙ made_told g k c.args.own c.numbers_for-numbers.result c.as_slice-2.result.now q
    c.requires.own asked_is again_are m history p in
    let shows : ShowsUnder m.key history (made_of g k m history q p) (other_of g k m history q) =
    subst (λ (r : Princ). ShowsUnder m.key history r (other_of g k m history q)) made_is
    (subst (λ (x : PlainPrinc). ShowsUnder m.key history c.in_ok-made.made x)
    (other_told g k c.args.own c.numbers_for-numbers.result c.as_slice-2.result.now q c.requires.own asked_is again_are
    m history) c.in_ok-made.ensures.shows) in
    subst IsPrinc (sym made_is)
    (change_fits g k p c.requires.target history c.in_ok-history.ensures q c.in_ok-plain.ensures m
    c.in_ok-active.ensures none c.requires.realm c.requires.command c.in_ok-made.ensures.by shows)

pub returns : goal.returns
returns c =
    let g = c.args.given.now in
    let k = c.args.c.now in
    let q = c.in_ok-plain.plain in
    let p = c.args.princ.now in
    let m = c.in_ok-active.active in
    let history = c.in_ok-history.history in
    let keys_are : c.as_slice.result.now ≡ fresh g k = search rules in
    let again_are : c.as_slice-2.result.now ≡ fresh g k = search rules in
    let asked_is : c.numbers_for-numbers.result ≡ numbers g k q = c.numbers_for-numbers.ensures in
    let none : first (causes_of g k q) ≡ None =
    sym (causes_told g k c.args.own c.numbers_for-numbers.result c.as_slice.result.now q c.requires.own asked_is
    keys_are) ∙ sym c.cause.ensures ∙ c.in_default.is in
    let made_is : c.in_ok-made.made ≡ made_of g k m history q p =
    c.in_ok-made.ensures.princ ∙ made_told g k c.args.own c.numbers_for-numbers.result c.as_slice-2.result.now q
    c.requires.own asked_is again_are m history p in
    let shows : ShowsUnder m.key history (made_of g k m history q p) (other_of g k m history q) =
    subst (λ (r : Princ). ShowsUnder m.key history r (other_of g k m history q)) made_is
    (subst (λ (x : PlainPrinc). ShowsUnder m.key history c.in_ok-made.made x)
    (other_told g k c.args.own c.numbers_for-numbers.result c.as_slice-2.result.now q c.requires.own asked_is again_are
    m history) c.in_ok-made.ensures.shows) in
    changes g k p c.requires.target history c.in_ok-history.ensures q c.in_ok-plain.ensures m c.in_ok-active.ensures
    none c.requires.realm c.requires.command c.put.result c.in_ok-made.ensures.by shows
    (subst (λ (r : Princ). IsPut op.PutPrinc r c.put.result) made_is c.put.ensures)

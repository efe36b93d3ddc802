use Rattle.std.proofs.Common.{◌≡◌, ◌∙◌, ◌<◌, ◌≤◌, List, ap, arith, get_or, length, subst, sym}
use Rattle.princ_record.specs.declared.princs.Princ.{Princ}
use Rattle.made_scripts.proofs.Counting.{counted_all, counted_more}
use Rattle.made_scripts.proofs.counts.count_keys.Goals as goal

pub loop-row-preserved : goal.loop-row-preserved
loop-row-preserved c =
    let princs = c.args.rows.now.princs in
    let i = c.loop-row.row-index in
    let p = c.get.result.now in
    let same : c.princs-row-items.result.now ≡ princs = c.princs-row-items.ensures.value in
    let is : p ≡ get_or princs i p =
    c.get.ensures ∙ c.row-item.is ∙ ap (λ (ps : List Princ). get_or ps i c.row-item.result) same
    ∙ ap (λ (d : Princ). get_or princs i d) (sym c.get.ensures) in
    let lt : i < length princs = subst (λ (ps : List Princ). i < length ps) same c.loop-row-test.true in
    record {
      told = counted_more princs i p c.loop-row.count c.keys_of-count.result lt is c.keys_of-count.ensures.value
          c.loop-row.invariant.told;
      few = omega (arith, c.loop-row.invariant.few, c.keys_of-count.ensures.few);
    }

pub returns : goal.returns
returns c =
    let same = c.princs-row-items.ensures.value in
    counted_all c.args.rows.now.princs c.loop-row.row-index c.loop-row.count
    (subst (λ (ps : List Princ). length ps ≤ c.loop-row.row-index) same (omega (arith, c.loop-row-test.false)))
    c.loop-row.invariant.told

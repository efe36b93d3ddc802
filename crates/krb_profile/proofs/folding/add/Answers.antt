use Rattle.std.proofs.Common.{rules, ◌<◌, ◌≤◌, ℕ, ◌∙◌, ◌+◌, ◌-◌, ◌%◌, ap, sym, refl, List, take, arith}
use Rattle.std.proofs.lemmas.List.{take-set-le, take-take}
use Rattle.krb_profile.proofs.Numbers.{one_more_added, nothing_added, all_added}
use Rattle.krb_profile.proofs.folding.add.Goals as goal

pub loop-i-init : goal.loop-i-init
loop-i-init c =
    (nothing_added c.args.sum.now c.args.addend.now c.args.carried c.requires.same_length, refl, c.requires.carried)

pub loop-i-preserved : goal.loop-i-preserved
loop-i-preserved c =
    let i = c.loop-i.i in
    let total = c.from.result + c.from-in-loop-i.result + c.loop-i.carry in
    let before : i - 1 ≤ i = omega arith in
    let x : c.from.result < 256 = rw c.from.ensures (search rules) in
    let y : c.from-in-loop-i.result < 256 = rw c.from-in-loop-i.ensures (search rules) in
    let small : c.loop-i.carry ≤ 1 = c.loop-i.invariant.2 in (
      one_more_added c.loop-i.sum c.args.sum.now c.args.addend.now i c.from.result c.from-in-loop-i.result
          c.loop-i.carry c.args.carried
          c.loop-i.auto.sum c.requires.same_length c.loop-i-test.true c.loop-i.auto.i c.from.ensures
          c.from-in-loop-i.ensures
          c.loop-i.invariant.1 c.loop-i.invariant.0,
      take-set-le (i - 1) c.loop-i.sum (i - 1) (total % 256) (omega arith)
          ∙ sym (take-take (i - 1) i c.loop-i.sum before) ∙ ap (λ (xs : List ℕ). take (i - 1) xs) c.loop-i.invariant.1
          ∙ take-take (i - 1) i c.args.sum.now before,
      omega (arith, x, y, small),
    )

pub returns : goal.returns
returns c = record {
  total = all_added c.loop-i.sum c.args.sum.now c.args.addend.now c.loop-i.i c.loop-i.carry c.args.carried
      c.loop-i.auto.sum c.loop-i-test.false c.loop-i.invariant.0;
  carried = c.loop-i.invariant.2;
}

use Rattle.std.proofs.Common.{◌+◌, length, refl, sym, ap, arith, length-drop}
use Rattle.std.proofs.lemmas.Bool.Decides.{nat_tests}
use Rattle.kadm_values.proofs.GlobLemmas.{any_of, any_same, any_later, one_more, none_more, no_bytes}
use Rattle.kadm_values.proofs.globs.end_matches.Goals as goal

pub returns-in-Whole-clause-yes : goal.returns-in-Whole-clause-yes
returns-in-Whole-clause-yes c = λ _. c.loop-count.invariant.0 (any_of _ _ c.in-Whole.ensures)

pub loop-count-smaller-in-Star : goal.loop-count-smaller-in-Star
loop-count-smaller-in-Star c =
    let star = c.in-Star.ensures in
    let within = star.within in
    let count = c.in-Star.count in
    omega (
      arith,
      ap length c.behind-wanted.ensures,
      ap length c.after-left.ensures,
      length-drop (count + 1) c.loop-count.wanted.now,
      length-drop count c.loop-count.left.now,
    )

pub loop-count-preserved-in-Star : goal.loop-count-preserved-in-Star
loop-count-preserved-in-Star c = (
  λ any. c.loop-count.invariant.0
      (any_of _ _ (c.in-Star.ensures.back (any_same _ _ _ _ c.after-left.ensures c.behind-wanted.ensures any))),
  λ whole. let any = c.loop-count.invariant.1 whole in
      any_same _ _ _ _ (sym c.after-left.ensures) (sym c.behind-wanted.ensures)
      (c.in-Star.ensures.forth any.skipped any.rest),
)

pub returns-then-is_empty-clause-no : goal.returns-then-is_empty-clause-no
returns-then-is_empty-clause-no c =
    λ _ whole. none_more _ _ c.in-Apart.ensures (no_bytes _ (grind (arith, nat_tests))) (c.loop-count.invariant.1 whole)

pub loop-count-preserved : goal.loop-count-preserved
loop-count-preserved c = (
  λ any. c.loop-count.invariant.0 (any_later _ _ 1 (any_same _ _ _ _ c.after-left-in-Apart.ensures refl any)),
  λ whole. any_same _ _ _ _ (sym c.after-left-in-Apart.ensures) refl
      (one_more _ _ c.in-Apart.ensures (c.loop-count.invariant.1 whole)),
)

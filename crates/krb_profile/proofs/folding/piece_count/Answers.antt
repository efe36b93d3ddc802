use Rattle.std.proofs.Common.{rules, ◌∙◌, ap, sym, ℕ, ◌-◌, ◌/◌, arith}
use Rattle.std.proofs.Math.Nat.{mul-div_cancel}
use Rattle.krb_profile.proofs.Multiples.{first_common-here, first_common-later, not_last}
use Rattle.krb_profile.specs.NFold.{least_common_multiple}
use Rattle.krb_profile.proofs.folding.piece_count.Goals as goal

pub loop-count-init : goal.loop-count-init
unfolding least_common_multiple
loop-count-init c = search rules

pub loop-count-preserved : goal.loop-count-preserved
loop-count-preserved c =
    let before =
    not_last c.args.text_len c.args.len c.loop-count.count c.loop-count.invariant.1 c.loop-count-test.true in (
      omega arith,
      omega (arith, before),
      sym (first_common-later c.args.text_len c.args.len c.loop-count.count before c.loop-count-test.true)
          ∙ c.loop-count.invariant.2,
    )

pub returns-clause-count : goal.returns-clause-count
returns-clause-count c =
    let text_len = c.args.text_len in
    let count = c.loop-count.count in
    let multiple = sym c.loop-count.invariant.2
    ∙ first_common-here text_len c.args.len count (text_len - count) c.loop-count-test.false in
    sym (ap (λ (m : ℕ). m / c.args.len) multiple ∙ mul-div_cancel count c.requires.given)

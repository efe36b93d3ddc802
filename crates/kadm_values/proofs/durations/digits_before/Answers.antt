use Rattle.std.proofs.Common.{arith, length-take}
use Rattle.kadm_values.specs.Numbers.{is_digit}
use Rattle.kadm_values.proofs.DurationLemmas.{ends_at, all_prefix}
use Rattle.kadm_values.proofs.durations.digits_before.Goals as goal

pub returns-then-count-text-clause-only : goal.returns-then-count-text-clause-only
returns-then-count-text-clause-only c = λ number behind digits e.
    let ends = ends_at _ number c.args.letter behind _ c.count_digits-count.ensures c.requires digits e in
    absurd (omega arith)

pub returns-then-text-count-clause-only : goal.returns-then-text-count-clause-only
returns-then-text-count-clause-only c = λ number behind digits e.
    let ends = ends_at _ number c.args.letter behind _ c.count_digits-count.ensures c.requires digits e in
    absurd (c.if-text-count.true ends.letter_is)

pub returns-clause-digits : goal.returns-clause-digits
returns-clause-digits c = λ some. record {
  some = grind (arith, length-take);
  digits = rw c.count_digits-count.ensures (all_prefix is_digit c.args.text.now);
}

pub returns-clause-only : goal.returns-clause-only
returns-clause-only c = λ number behind digits e.
    (ends_at _ number c.args.letter behind _ c.count_digits-count.ensures c.requires digits e).count_is

use Rattle.std.proofs.Common.{ap, sym, ◌∙◌, inl, refl, Some}
use Rattle.kadm_values.specs.Times.{SpellsTime}
use Rattle.kadm_values.proofs.ReadingLemmas.{time_value}
use Rattle.kadm_values.proofs.TimeLemmas.{never_is_zero, twenty_is_civil, else_number}
use Rattle.kadm_values.proofs.TimeLemmas.{civil_then_time, number_then_time}
use Rattle.kadm_values.proofs.times.read_time.Goals as goal

pub returns-then-is_same-clause-spelled : goal.returns-then-is_same-clause-spelled
unfolding SpellsTime
returns-then-is_same-clause-spelled c = inl (c.is_same.ensures.yes c.if-is_same.true ∙ c.as_slice.ensures, refl)

pub returns-then-is_same-clause-only : goal.returns-then-is_same-clause-only
returns-then-is_same-clause-only c = λ secs s.
    ap Some (sym (never_is_zero _ secs (c.is_same.ensures.yes c.if-is_same.true ∙ c.as_slice.ensures) s))

pub returns-then-text-eq20-clause-spelled : goal.returns-then-text-eq20-clause-spelled
returns-then-text-eq20-clause-spelled c = civil_then_time c.read_civil.result _ c.read_civil.ensures.spelled

pub returns-then-text-eq20-clause-only : goal.returns-then-text-eq20-clause-only
returns-then-text-eq20-clause-only c = λ secs s.
    c.read_civil.ensures.only secs (twenty_is_civil _ secs c.if-text-eq20.true s)

pub returns-clause-spelled : goal.returns-clause-spelled
returns-clause-spelled c = number_then_time c.read_seconds.result _ c.read_seconds.ensures.spelled

pub returns-clause-only : goal.returns-clause-only
returns-clause-only c = λ secs s.
    c.read_seconds.ensures.only secs
    (else_number _ secs (λ e. c.is_same.ensures.no c.if-is_same.false (e ∙ sym c.as_slice.ensures))
    c.if-text-eq20.false s)

pub returns-then-is_same-clause-value : goal.returns-then-is_same-clause-value
returns-then-is_same-clause-value c =
    time_value _ _ (returns-then-is_same-clause-spelled c) (returns-then-is_same-clause-only c)

pub returns-then-text-eq20-clause-value : goal.returns-then-text-eq20-clause-value
returns-then-text-eq20-clause-value c =
    time_value _ _ (returns-then-text-eq20-clause-spelled c) (returns-then-text-eq20-clause-only c)

pub returns-clause-value : goal.returns-clause-value
returns-clause-value c = time_value _ _ (returns-clause-spelled c) (returns-clause-only c)

use Rattle.std.proofs.Common.{sym, ◌∙◌, subst, List}
use Rattle.kadm_values.specs.declared.durations.Unit.{Unit}
use Rattle.kadm_values.specs.Durations.{IsUnits}
use Rattle.kadm_values.proofs.DurationLemmas.{are_units, number_then_duration}
use Rattle.kadm_values.proofs.DurationLemmas.{sum_then_duration, digits_are_number, else_sum}
use Rattle.kadm_values.proofs.ReadingLemmas.{duration_value}
use Rattle.kadm_values.proofs.durations.read_duration.Goals as goal

pub returns-then-is_all_digits-clause-spelled : goal.returns-then-is_all_digits-clause-spelled
returns-then-is_all_digits-clause-spelled c =
    number_then_duration c.read_seconds.result _ c.read_seconds.ensures.spelled

pub returns-then-is_all_digits-clause-only : goal.returns-then-is_all_digits-clause-only
returns-then-is_all_digits-clause-only c = λ secs s.
    c.read_seconds.ensures.only secs
    (digits_are_number _ secs (sym c.is_all_digits.ensures ∙ c.if-is_all_digits.true) s)

pub read_groups-requires : goal.read_groups-requires
read_groups-requires c =
    let P : List Unit → Type 0 = λ us. IsUnits us in subst P (sym c.known_units.ensures) are_units

pub returns-clause-spelled : goal.returns-clause-spelled
returns-clause-spelled c =
    sum_then_duration c.read_groups.result _ _ c.known_units.ensures
    (sym c.is_all_digits.ensures ∙ c.if-is_all_digits.false)
    c.read_groups.ensures.spelled c.read_groups.ensures.fits

pub returns-clause-only : goal.returns-clause-only
returns-clause-only c = λ secs s.
    let sum = else_sum _ _ secs c.known_units.ensures (sym c.is_all_digits.ensures ∙ c.if-is_all_digits.false) s in
    c.read_groups.ensures.only secs sum.0 sum.1

pub returns-then-is_all_digits-clause-value : goal.returns-then-is_all_digits-clause-value
returns-then-is_all_digits-clause-value c =
    duration_value _ _ (returns-then-is_all_digits-clause-spelled c) (returns-then-is_all_digits-clause-only c)

pub returns-clause-value : goal.returns-clause-value
returns-clause-value c = duration_value _ _ (returns-clause-spelled c) (returns-clause-only c)

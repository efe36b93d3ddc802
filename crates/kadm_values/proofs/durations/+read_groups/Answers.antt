use Rattle.std.proofs.Common.{◌≡◌, ℕ, ◌≤◌, List, Some, rules, sym, ap, subst, ◌∙◌, arith}
use Rattle.kadm_values.specs.declared.durations.Unit.{Unit}
use Rattle.kadm_values.specs.Numbers.{IsDigits}
use Rattle.kadm_values.proofs.DurationLemmas.{units_split, no_units, first_unit, groups_of, groups_at, skip_spelled}
use Rattle.kadm_values.proofs.DurationLemmas.{led_spelled, end_spelled, end_only, behind_first, none_first}
use Rattle.kadm_values.proofs.durations.+read_groups.Goals as goal

no_unit : Unit
no_unit = record { letter = 0; seconds = 0 }

pub digits_before-count-requires : goal.digits_before-count-requires
unfolding no_unit
digits_before-count-requires t c =
    (first_unit _ _ _ (units_split c.args.units.now no_unit c.in-len1-up.len_at_least) c.requires).0.letter

pub read_groups-requires : goal.read_groups-requires
read_groups-requires t c =
    (search rules, (first_unit _ _ _ (units_split c.args.units.now no_unit c.in-len1-up.len_at_least) c.requires).1)

pub returns-then-count-eq0-clause-spelled : goal.returns-then-count-eq0-clause-spelled
returns-then-count-eq0-clause-spelled t c =
    skip_spelled c.read_groups.result _ _ _ _ (units_split c.args.units.now no_unit c.in-len1-up.len_at_least)
    c.read_groups.ensures.spelled

pub returns-then-count-eq0-clause-only : goal.returns-then-count-eq0-clause-only
unfolding no_unit
returns-then-count-eq0-clause-only t c = λ secs s fits.
    let e = units_split c.args.units.now no_unit c.in-len1-up.len_at_least in
    c.read_groups.ensures.only secs
    (none_first _ _ c.args.text.now secs
    (λ number behind digits split. sym c.if-count-eq0.true
    ∙ c.digits_before-count.ensures.only number behind digits split)
    (groups_of _ _ _ _ _ e s))
    fits

pub read_groups-requires-in-len1-up : goal.read_groups-requires-in-len1-up
read_groups-requires-in-len1-up t c =
    (search rules, (first_unit _ _ _ (units_split c.args.units.now no_unit c.in-len1-up.len_at_least) c.requires).1)

pub in_seconds-requires-clause-some : goal.in_seconds-requires-clause-some
unfolding no_unit
in_seconds-requires-clause-some t c =
    (first_unit _ _ _ (units_split c.args.units.now no_unit c.in-len1-up.len_at_least) c.requires).0.some

pub in_seconds-requires-clause-few : goal.in_seconds-requires-clause-few
unfolding no_unit
in_seconds-requires-clause-few t c =
    (first_unit _ _ _ (units_split c.args.units.now no_unit c.in-len1-up.len_at_least) c.requires).0.few

pub returns-in-empty-clause-spelled : goal.returns-in-empty-clause-spelled
returns-in-empty-clause-spelled t c =
    end_spelled c.read_end.result _ _ (no_units c.args.units.now c.in-empty.len_below) c.read_end.ensures.only

pub returns-in-empty-clause-only : goal.returns-in-empty-clause-only
returns-in-empty-clause-only t c = λ secs s fits.
    let end = end_only _ _ secs (no_units c.args.units.now c.in-empty.len_below) s in
    c.read_end.ensures.end end.0 ∙ ap Some (sym end.1)

pub returns-in-Some-clause-spelled : goal.returns-in-Some-clause-spelled
unfolding no_unit
returns-in-Some-clause-spelled t c =
    let e = units_split c.args.units.now no_unit c.in-len1-up.len_at_least in
    let some : 1 ≤ c.digits_before-count.result = omega arith in
    let split = c.digits_before-count.ensures.split some in
    let front = c.before-in-Some.ensures in
    let back = c.after.ensures in
    let P : List ℕ → Type 0 = λ number. IsDigits number in
    led_spelled c.in_seconds.result _ _ _ _ _ _ _ e (rw (front, back) split)
    (subst P (sym front) (c.digits_before-count.ensures.digits some)) c.in-Some.ensures.spelled c.in_seconds.ensures.sum

pub returns-in-Some-clause-only : goal.returns-in-Some-clause-only
unfolding no_unit
returns-in-Some-clause-only t c = λ secs s fits.
    let e = units_split c.args.units.now no_unit c.in-len1-up.len_at_least in
    let some : 1 ≤ c.digits_before-count.result = omega arith in
    let left =
    behind_first _ _ _ _ c.args.text.now secs (rw e at c.requires) (c.digits_before-count.ensures.digits some)
    (c.digits_before-count.ensures.split some) (groups_of _ _ _ _ _ e s) in
    let front = c.before-in-Some.ensures in
    let more = left.more in
    let sum = left.secs_is in
    let found = c.in-Some.ensures.only more (groups_at _ _ _ _ c.after.ensures left.rest) (omega arith) in
    let same : c.in-Some.more ≡ more = cc in
    c.in_seconds.ensures.only secs (rw (front, same) sum) fits

pub returns-in-None-clause-only : goal.returns-in-None-clause-only
unfolding no_unit
returns-in-None-clause-only t c = λ secs s fits.
    let e = units_split c.args.units.now no_unit c.in-len1-up.len_at_least in
    let some : 1 ≤ c.digits_before-count.result = omega arith in
    let left =
    behind_first _ _ _ _ c.args.text.now secs (rw e at c.requires) (c.digits_before-count.ensures.digits some)
    (c.digits_before-count.ensures.split some) (groups_of _ _ _ _ _ e s) in
    let sum = left.secs_is in
    let found = c.in-None.ensures.only left.more (groups_at _ _ _ _ c.after.ensures left.rest) (omega arith) in
    cc

-- The days of the calendar are those that day numbers count, and each second has one civil time and one spelling.
use Rattle.std.proofs.Common.{◌≡◌, ℕ, zero, suc, ◌+◌, ◌/◌, ◌^◌, ◌<◌, ◌≤◌, ◌⊎◌, inl}
use Rattle.std.proofs.Common.{inr, List, length, refl, arith, pos, ◌+ℤ◌, ◌<ℤ◌, ◌≤ℤ◌}
use Rattle.jiff.specs.Types.{Date}
use Rattle.jiff.specs.Words.{civil_seconds, epoch_day, month_length}
use Rattle.jiff.proofs.Family.{days_from_civil-day, days_from_civil-next_month}
use Rattle.jiff.proofs.Family.{days_from_civil-next_year, days_from_civil-max}
use Rattle.jiff.proofs.SpanFacts.{signed_arith}
use Rattle.jiff.proofs.OnLiterals.{jiff_on_literals}
use Rattle.kadm_values.specs.Times.{IsAt, SpellsCivil}
use Rattle.kadm_values.specs.Calendar.{first_day, next_year, next_month, day_after}
use Rattle.kadm_values.specs.Calendar.{next_day, date_at, time_at, civil_at, civil_text_at}
use Rattle.kadm_values.proofs.TimeLemmas.{only_text, length-civil_text}

first_day-epoch_day : epoch_day first_day ≡ pos 0
unfolding jiff_on_literals first_day
first_day-epoch_day = refl

-- where a year is not the library's last one, 1 January follows 31 December
next_year-epoch_day : (d : Date) (c : (d.year <ℤ pos 9999) ⊎ (pos 9999 ≤ℤ d.year)) → d.month ≡ 12 → d.day ≡ 31
    → epoch_day d <ℤ pos 2_932_896
    → epoch_day (next_year d c) ≡ epoch_day d +ℤ pos 1
unfolding next_year
next_year-epoch_day d (inl within) month day low =
    rw (month, day) (days_from_civil-next_year d.year (d.year +ℤ pos 1) (omega (arith, signed_arith, d.year_in)) refl)
next_year-epoch_day d (inr last) month day low =
    let year : d.year ≡ pos 9999 = omega (arith, signed_arith, d.year_in) in
    absurd (omega (arith, signed_arith, days_from_civil-max, rw (year, month, day) at low))

next_month-epoch_day : (d : Date) (c : (d.month < 12) ⊎ (12 ≤ d.month)) → d.day ≡ month_length d
    → epoch_day d <ℤ pos 2_932_896
    → epoch_day (next_month d c) ≡ epoch_day d +ℤ pos 1
unfolding next_month
next_month-epoch_day d (inl within) day low = days_from_civil-next_month d.year d.month d.day d.month_in.0 day
next_month-epoch_day d (inr last) day low =
    let december : d.month ≡ 12 = omega arith in
    next_year-epoch_day d _ december (rw december at day) low

day_after-epoch_day : (d : Date) (c : (d.day < month_length d) ⊎ (month_length d ≤ d.day))
    → epoch_day d <ℤ pos 2_932_896
    → epoch_day (day_after d c) ≡ epoch_day d +ℤ pos 1
unfolding day_after
day_after-epoch_day d (inl within) low =
    let moved = days_from_civil-day d.year d.month d.day (d.day + 1) d.day_in.0 (omega arith) in
    omega (arith, signed_arith)
day_after-epoch_day d (inr last) low = next_month-epoch_day d _ (omega arith) low

-- up to 9999-12-31 the day after has the next day number
pub next_day-epoch_day : (d : Date) → epoch_day d <ℤ pos 2_932_896 → epoch_day (next_day d) ≡ epoch_day d +ℤ pos 1
unfolding next_day
next_day-epoch_day d low = day_after-epoch_day d _ low

-- and so the date so many days behind the first has that number
pub date_at-epoch_day : (days : ℕ) → days ≤ 2_932_896 → epoch_day (date_at days) ≡ pos days
unfolding date_at
date_at-epoch_day zero within = first_day-epoch_day
date_at-epoch_day (suc days) within =
    let here = date_at-epoch_day days (omega arith) in
    let next = next_day-epoch_day (date_at days) (omega (arith, signed_arith)) in
    omega (arith, signed_arith)

-- the date and time are at their seconds
pub civil_at-is : (secs : ℕ) → secs < 2 ^ 32 → IsAt (civil_at secs) secs
unfolding civil_at time_at civil_seconds
civil_at-is secs fits =
    let day = date_at-epoch_day (secs / 86_400) (omega arith) in
    record { whole = refl; seconds = omega (arith, signed_arith); fits = fits }

-- and are written as the text of these seconds
pub civil_text_at-spells : (secs : ℕ) → secs < 2 ^ 32 → SpellsCivil (civil_text_at secs) secs
unfolding civil_text_at
civil_text_at-spells secs fits = record { time = civil_at secs; at = civil_at-is secs fits; text_is = refl }

-- which is the only one
pub spells-civil_text_at : (text : List ℕ) (secs : ℕ) → SpellsCivil text secs → text ≡ civil_text_at secs
unfolding civil_text_at
spells-civil_text_at text secs s =
    only_text (civil_at secs) secs (civil_text_at secs) text (civil_at-is secs s.at.fits) refl s

pub length-civil_text_at : (secs : ℕ) → length (civil_text_at secs) ≡ 20
unfolding civil_text_at
length-civil_text_at secs = length-civil_text (civil_at secs)

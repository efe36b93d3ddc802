-- The calendar, a day at a time from 1970-01-01 on, and the civil time of each second.
use Rattle.std.specs.Prelude.{ℕ, zero, suc, ◌+◌, ◌/◌, ◌%◌, ◌<◌, ◌≤◌, ◌⊎◌, List, ℤ, pos, ◌+ℤ◌, ◌<ℤ◌, ◌≤ℤ◌}
use Rattle.std.specs.Int.{IsInRange}
use Rattle.std.proofs.Common.{inl, inr, arith}
use Rattle.std.proofs.lemmas.Bool.{cases_lt}
use Rattle.std.proofs.lemmas.Int.{by_lt_z}
use Rattle.std.proofs.lemmas.Nat.{mod_below}
use Rattle.jiff.specs.Types.{Date, Time, DateTime}
use Rattle.jiff.specs.Words.{days_in_month, month_length, IsYear}
use Rattle.jiff.proofs.SpanFacts.{signed_arith}
use Rattle.kadm_values.specs.Times.{civil_text}

-- that the calendar has the dates named below
pub has_first : (y : ℤ) (m : ℕ) → IsInRange 1 (days_in_month y m) 1
has_first y m = (omega arith, grind arith)

pub has_next_day : (d : Date) → d.day < month_length d → IsInRange 1 (month_length d) (d.day + 1)
has_next_day d within = (omega arith, omega arith)

pub has_next_month : (d : Date) → d.month < 12 → IsInRange 1 12 (d.month + 1)
has_next_month d within = (omega arith, omega arith)

pub has_next_year : (d : Date) → d.year <ℤ pos 9999 → IsYear (d.year +ℤ pos 1)
has_next_year d within = omega (arith, signed_arith, d.year_in)

pub has_1970 : IsYear (pos 1970)
has_1970 = omega (arith, signed_arith)

pub has_january : IsInRange 1 12 1
has_january = (omega arith, omega arith)

-- 1970-01-01
unfoldable pub first_day : Date
first_day = record {
  year = pos 1970;
  month = 1;
  day = 1;
  year_in = has_1970;
  month_in = has_january;
  day_in = has_first (pos 1970) 1;
}

-- 1 January of the next year; 9999-12-31 has no day after it
unfoldable pub next_year : (d : Date) → (d.year <ℤ pos 9999) ⊎ (pos 9999 ≤ℤ d.year) → Date
next_year d (inl within) =
    record {
      year = d.year +ℤ pos 1;
      month = 1;
      day = 1;
      year_in = has_next_year d within;
      month_in = has_january;
      day_in = has_first (d.year +ℤ pos 1) 1;
    }
next_year d (inr last) = d

-- the first of the next month
unfoldable pub next_month : (d : Date) → (d.month < 12) ⊎ (12 ≤ d.month) → Date
next_month d (inl within) =
    record {
      year = d.year;
      month = d.month + 1;
      day = 1;
      year_in = d.year_in;
      month_in = has_next_month d within;
      day_in = has_first d.year (d.month + 1);
    }
next_month d (inr last) = next_year d (by_lt_z d.year (pos 9999) inl inr)

-- the next day of the month, and behind its last day the first of the next month
unfoldable pub day_after : (d : Date) → (d.day < month_length d) ⊎ (month_length d ≤ d.day) → Date
day_after d (inl within) =
    record {
      year = d.year;
      month = d.month;
      day = d.day + 1;
      year_in = d.year_in;
      month_in = d.month_in;
      day_in = has_next_day d within;
    }
day_after d (inr last) = next_month d (cases_lt d.month 12)

-- the day after it
unfoldable pub next_day : Date → Date
next_day d = day_after d (cases_lt d.day (month_length d))

-- the date so many days behind 1970-01-01
unfoldable pub date_at : ℕ → Date
date_at zero = first_day
date_at (suc days) = next_day (date_at days)

-- the time of day that many seconds behind a midnight
unfoldable pub time_at : ℕ → Time
time_at secs = record {
  hour = secs / 3600 % 24;
  minute = secs / 60 % 60;
  second = secs % 60;
  subsec_nanosecond = 0;
  hour_in = mod_below (secs / 3600) 24 (omega arith);
  minute_in = mod_below (secs / 60) 60 (omega arith);
  second_in = mod_below secs 60 (omega arith);
  subsec_in = omega arith;
}

-- the date and time that many seconds behind 1970-01-01T00:00:00
unfoldable pub civil_at : ℕ → DateTime
civil_at secs = record { date = date_at (secs / 86_400); time = time_at secs }

-- and how it is written
unfoldable pub civil_text_at : ℕ → List ℕ
civil_text_at secs = civil_text (civil_at secs)

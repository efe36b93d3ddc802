-- Times as text: seconds since the beginning of 1970 by the Gregorian calendar, without leap seconds.
use Rattle.std.specs.Prelude.{ℕ, ◌≡◌, ◌+◌, ◌/◌, ◌%◌, ◌^◌, ◌<◌, ◌⊎◌, List, [], ◌∷◌, ◌++◌, codes, pos, unsigned_abs}
use Rattle.jiff.specs.Types.{DateTime}
use Rattle.jiff.specs.Words.{civil_seconds}
use Rattle.kadm_values.specs.Numbers.{SpellsSeconds}

-- the two digits of a number below 100
abbrev pub two_digits : ℕ → List ℕ
two_digits number = (48 + number / 10) ∷ (48 + number % 10) ∷ []

-- YYYY-MM-DDTHH:MM:SSZ
unfoldable pub civil_text : DateTime → List ℕ
civil_text t =
    let year = unsigned_abs t.date.year in
    two_digits (year / 100) ++ two_digits (year % 100) ++ codes "-" ++ two_digits t.date.month ++ codes "-"
    ++ two_digits t.date.day
    ++ codes "T" ++ two_digits t.time.hour ++ codes ":" ++ two_digits t.time.minute ++ codes ":"
    ++ two_digits t.time.second ++ codes "Z"

-- the date and time, which the calendar and the clock have, is that many whole seconds behind
-- 1970-01-01T00:00:00; at most 2^32 - 1, which is 2106-02-07T06:28:15
pub record IsAt (t : DateTime) (secs : ℕ) : Type 0 where
  pub whole : t.time.subsec_nanosecond ≡ 0
  pub seconds : civil_seconds t ≡ pos secs
  pub fits : secs < 2 ^ 32

-- a civil time from 1970-01-01T00:00:00Z to 2106-02-07T06:28:15Z, and its seconds
pub record SpellsCivil (text : List ℕ) (secs : ℕ) : Type 0 where
  pub time : DateTime
  pub at : IsAt time secs
  pub text_is : text ≡ civil_text time

-- `never` is 0; else a number of seconds, or a civil time
unfoldable pub SpellsTime : List ℕ → ℕ → Type 0
SpellsTime text secs =
    ((text ≡ codes "never") × (secs ≡ 0)) ⊎ (SpellsSeconds text secs ⊎ SpellsCivil text secs)

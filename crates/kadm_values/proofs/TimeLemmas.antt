-- A number of seconds has one civil time, and so one spelling as such.
use Rattle.std.proofs.Common.{◌≡◌, ℕ, ◌*◌, ◌^◌, ◌<◌, List, refl, sym, ap, ◌∙◌, arith, ℤ, pos}
use Rattle.std.proofs.Common.{negsuc, ◌≤ℤ◌, ◌≤◌, inl, w8, w16, w64, FitsSigned, to_z, of_z}
use Rattle.std.proofs.Common.{unsigned_abs, length, inr, codes, ◌≢◌, Option, Some, None, IfSome}
use Rattle.std.proofs.lemmas.Int.{by_lt_z, to_z-of_z}
use Rattle.jiff.specs.Types.{Date, DateTime}
use Rattle.jiff.specs.Words.{civil_seconds, civil_nanos, epoch_day, IsDate, IsTime, IsYmd, IsYear, days_in_month}
use Rattle.jiff.proofs.Family.{civil_nanos-civil_seconds, civil_nanos_injective, time_nanos_injective}
use Rattle.jiff.proofs.Family.{epoch_day_injective, epoch_day-lt, epoch_day_same}
use Rattle.jiff.proofs.SpanFacts.{signed_arith}
use Rattle.jiff.proofs.OnLiterals.{jiff_on_literals}
use Rattle.kadm_values.specs.Numbers.{SpellsSeconds}
use Rattle.kadm_values.specs.Times.{IsAt, civil_text, SpellsCivil, SpellsTime}

-- its nanoseconds
nanos_at : (t : DateTime) (secs : ℕ) → IsAt t secs → civil_nanos t ≡ pos (secs * 1_000_000_000)
nanos_at t secs at =
    let whole = at.whole in
    let seconds = at.seconds in
    omega (arith, signed_arith, civil_nanos-civil_seconds t)

-- what has so many nanoseconds is at these seconds
pub at_nanos : (t : DateTime) (secs : ℕ) → civil_nanos t ≡ pos (secs * 1_000_000_000) → secs < 2 ^ 32 → IsAt t secs
at_nanos t secs e fits = record {
  whole = omega (arith, signed_arith, civil_nanos-civil_seconds t);
  seconds = omega (arith, signed_arith, civil_nanos-civil_seconds t);
  fits = fits;
}

pub same_text : (a b : DateTime) (secs : ℕ) → IsAt a secs → IsAt b secs → civil_text a ≡ civil_text b
unfolding civil_text
same_text a b secs at at' =
    let nanos : civil_nanos a ≡ civil_nanos b = nanos_at a secs at ∙ sym (nanos_at b secs at') in
    let both = civil_nanos_injective a b nanos in
    let date = epoch_day_injective a.date b.date both.0 in
    let time = time_nanos_injective a.time b.time both.1 in
    cc

-- so each other spelling of these seconds is that text
pub only_text : (t : DateTime) (secs : ℕ) (text other : List ℕ) → IsAt t secs → text ≡ civil_text t
    → SpellsCivil other secs → other ≡ text
only_text t secs text other at e s = s.text_is ∙ same_text s.time t secs s.at at ∙ sym e

-- the day that is counted 0
first_day : Date
first_day = record {
  year = pos 1970;
  month = 1;
  day = 1;
  year_in = omega (arith, signed_arith);
  month_in = omega arith;
  day_in = omega arith;
}

first_day-epoch_day : epoch_day first_day ≡ pos 0
unfolding jiff_on_literals first_day
first_day-epoch_day = refl

pub since_1970 : (t : DateTime) (secs : ℕ) → IsAt t secs → pos 1970 ≤ℤ t.date.year
unfolding first_day civil_seconds
since_1970 t secs at =
    let seconds = at.seconds in
    by_lt_z t.date.year (pos 1970)
    (λ early.
    absurd (let before = epoch_day-lt t.date first_day (inl early) in omega (arith, signed_arith, first_day-epoch_day)))
    (λ late. late)

natural : (z : ℤ) → pos 0 ≤ℤ z → z ≡ pos (unsigned_abs z)
natural (pos n) low = refl
natural (negsuc n) low = absurd (omega (arith, signed_arith))

four_digits : (z : ℤ) → IsYear z → unsigned_abs z < 10000
four_digits (pos n) within = omega (arith, signed_arith)
four_digits (negsuc n) within = omega (arith, signed_arith)

-- so the year is a natural number of at most four digits
pub year_is : (t : DateTime) (secs : ℕ) → IsAt t secs → t.date.year ≡ pos (unsigned_abs t.date.year)
year_is t secs at = let late = since_1970 t secs at in natural t.date.year (omega (arith, signed_arith))

pub year_small : (t : DateTime) → unsigned_abs t.date.year < 10000
year_small t = four_digits t.date.year t.date.year_in

month_small : (y : ℤ) (m : ℕ) → days_in_month y m ≤ 31
month_small y m = grind arith

-- and the day one of two
pub day_small : (t : DateTime) → t.date.day < 100
day_small t = let month = month_small t.date.year t.date.month in omega arith

-- the parts, as numbers of so many bits
pub year_passed : (z : ℤ) (n : ℕ) → z ≡ pos n → n < 10000 → to_z w16 (of_z w16 z) ≡ pos n
year_passed z n e small = let fits : FitsSigned w16 z = omega (arith, signed_arith) in to_z-of_z w16 z fits ∙ e

pub part_passed : (z : ℤ) (n : ℕ) → z ≡ pos n → n < 100 → to_z w8 (of_z w8 z) ≡ pos n
part_passed z n e small = let fits : FitsSigned w8 z = omega (arith, signed_arith) in to_z-of_z w8 z fits ∙ e

pub seconds_passed : (z : ℤ) (n : ℕ) → z ≡ pos n → n < 2 ^ 32 → to_z w64 (of_z w64 z) ≡ pos n
seconds_passed z n e small = let fits : FitsSigned w64 z = omega (arith, signed_arith) in to_z-of_z w64 z fits ∙ e

-- the parts of a time make one
pub can_make : (t : DateTime) (y mo d h mi s : ℤ) → y ≡ t.date.year → mo ≡ pos t.date.month → d ≡ pos t.date.day
    → h ≡ pos t.time.hour → mi ≡ pos t.time.minute → s ≡ pos t.time.second → IsDate y mo d × IsTime h mi s (pos 0)
can_make t y mo d h mi s ey emo ed eh emi es =
    rw (ey, emo, ed, eh, emi, es) (omega (arith, signed_arith))

-- and times with the same parts have the same seconds
pub same_seconds : (a b : DateTime) (y mo d h mi s : ℤ) → IsYmd y mo d a.date → pos a.time.hour ≡ h
    → pos a.time.minute ≡ mi → pos a.time.second ≡ s
    → y ≡ b.date.year → mo ≡ pos b.date.month → d ≡ pos b.date.day → h ≡ pos b.time.hour → mi ≡ pos b.time.minute
    → s ≡ pos b.time.second
    → civil_seconds a ≡ civil_seconds b
unfolding civil_seconds
same_seconds a b y mo d h mi s ymd ah ami as' ey emo ed eh emi es =
    let same = epoch_day_same a.date b.date (ymd.0 ∙ ey) (omega (arith, signed_arith)) (omega (arith, signed_arith)) in
    let hour : a.time.hour ≡ b.time.hour = omega (arith, signed_arith) in
    let minute : a.time.minute ≡ b.time.minute = omega (arith, signed_arith) in
    let second : a.time.second ≡ b.time.second = omega (arith, signed_arith) in
    rw (same, hour, minute, second)

pub length-civil_text : (t : DateTime) → length (civil_text t) ≡ 20
unfolding civil_text
length-civil_text t = refl

-- which of its forms a time has is seen from its first byte and its length
pub never_is_zero : (text : List ℕ) (secs : ℕ) → text ≡ codes "never" → SpellsTime text secs → secs ≡ 0
unfolding SpellsTime
never_is_zero text secs e (inl zero) = zero.1
never_is_zero text secs e (inr (inl number)) = let digits = rw e at number.number.digits.digits in cc
never_is_zero text secs e (inr (inr civil)) =
    let same = sym e ∙ civil.text_is in
    absurd (omega (arith, ap length same, length-civil_text civil.time))

pub twenty_is_civil : (text : List ℕ) (secs : ℕ) → length text ≡ 20 → SpellsTime text secs → SpellsCivil text secs
unfolding SpellsTime
twenty_is_civil text secs e (inl zero) = absurd (omega (arith, ap length zero.0))
twenty_is_civil text secs e (inr (inl number)) = absurd (omega (arith, number.number.few))
twenty_is_civil text secs e (inr (inr civil)) = civil

pub else_number : (text : List ℕ) (secs : ℕ) → text ≢ codes "never" → length text ≢ 20 → SpellsTime text secs
    → SpellsSeconds text secs
unfolding SpellsTime
else_number text secs other long (inl zero) = absurd (other zero.0)
else_number text secs other long (inr (inl number)) = number
else_number text secs other long (inr (inr civil)) =
    absurd (long (ap length civil.text_is ∙ length-civil_text civil.time))

pub civil_then_time : (r : Option ℕ) (text : List ℕ) → IfSome r (λ secs. SpellsCivil text secs)
    → IfSome r (λ secs. SpellsTime text secs)
unfolding SpellsTime
civil_then_time None text h = h
civil_then_time (Some secs) text h = inr (inr h)

pub number_then_time : (r : Option ℕ) (text : List ℕ) → IfSome r (λ secs. SpellsSeconds text secs)
    → IfSome r (λ secs. SpellsTime text secs)
unfolding SpellsTime
number_then_time None text h = h
number_then_time (Some secs) text h = inr (inl h)

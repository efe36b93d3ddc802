-- What a text spells is what its reading gives.
use Rattle.std.proofs.Common.{◌≡◌, ℕ, zero, suc, ◌+◌, ◌*◌, ◌/◌, ◌%◌, ◌^◌, ◌<◌, ◌≤◌, ◌≢◌, Bool, true, false}
use Rattle.std.proofs.Common.{◌&&◌, cond, nat_lt, nat_le, nat_eq, List, [], ◌∷◌, ◌++◌, length, take, drop}
use Rattle.std.proofs.Common.{get_or, codes, slice_index, Option, Some, None, IfSome, inl, inr, refl, sym}
use Rattle.std.proofs.Common.{ap, subst, ◌∙◌, arith, pos, unsigned_abs, length-take, add-one}
use Rattle.std.specs.List.{list_all, prefix_len}
use Rattle.std.specs.Option.{option_or, option_map}
use Rattle.std.specs.Str.{bytes_eq}
use Rattle.std.proofs.Math.Seq.{drop-cons}
use Rattle.std.proofs.lemmas.Bool.{cases_Bool, cases_eq}
use Rattle.std.proofs.lemmas.Bool.Decides.{nat_tests}
use Rattle.std.proofs.lemmas.List.{take-append-drop}
use Rattle.std.proofs.lemmas.Slice.Eq.{bytes_eq-Decides}
use Rattle.jiff.specs.Types.{DateTime}
use Rattle.kadm_values.specs.declared.durations.Unit.{Unit}
use Rattle.kadm_values.specs.Numbers.{is_digit, decimal_value, IsDigits, SpellsNumber, SpellsSeconds}
use Rattle.kadm_values.specs.Durations.{units, IsUnits, SpellsGroups, SpellsDuration}
use Rattle.kadm_values.specs.Times.{IsAt, civil_text, SpellsCivil, SpellsTime}
use Rattle.kadm_values.specs.Calendar.{civil_text_at}
use Rattle.kadm_values.specs.Readings.{number_in, fitting, seconds_in, is_led_by, groups_in}
use Rattle.kadm_values.specs.Readings.{duration_in, first_below, civil_in, time_in}
use Rattle.kadm_values.proofs.DurationLemmas.{all_prefix, ends_at, behind_first, none_first, are_units}
use Rattle.kadm_values.proofs.DurationLemmas.{digits_are_number, else_sum, sum_then_duration}
use Rattle.kadm_values.proofs.TimeLemmas.{year_is, same_seconds, length-civil_text, never_is_zero}
use Rattle.kadm_values.proofs.CalendarLemmas.{civil_text_at-spells, spells-civil_text_at}

-- two readings that have all and only the values that are spelled are the same
pub same_reading : (Spells : ℕ → Type 0) (a b : Option ℕ) → IfSome a (λ n. Spells n) → ((n : ℕ) → Spells n → a ≡ Some n)
    → ((n : ℕ) → b ≡ Some n → Spells n) → ((n : ℕ) → Spells n → b ≡ Some n) → a ≡ b
same_reading Spells (Some n) b spelled only gives given = sym (given n spelled)
same_reading Spells None None spelled only gives given = refl
same_reading Spells None (Some n) spelled only gives given = only n (gives n refl)

-- what a test lets through
record Passed (test : Bool) (x n : ℕ) : Type 0 where
  passes : test ≡ true
  same : x ≡ n

passed : (test : Bool) (x n : ℕ) → cond test (Some x) None ≡ Some n → Passed test x n
passed true x n e = record { passes = refl; same = cc }
passed false x n e = cc

three_parts : (a b c : Bool) → (a && b && c) ≡ true → (a ≡ true) × (b ≡ true) × (c ≡ true)
three_parts true true true e = (refl, refl, refl)
three_parts false b c e = cc
three_parts true false c e = cc
three_parts true true false e = cc

pub number_in-spells : (text : List ℕ) (number : ℕ) → number_in text ≡ Some number → SpellsNumber text number
unfolding number_in
number_in-spells text number e =
    let p = passed _ _ _ e in
    let tests = three_parts (nat_lt 0 (length text)) (nat_le (length text) 10) (list_all is_digit text) p.passes in
    record {
      digits = record { some = grind (arith, nat_tests); digits = tests.2 };
      few = grind (arith, nat_tests);
      value = sym p.same;
    }

pub spells-number_in : (text : List ℕ) (number : ℕ) → SpellsNumber text number → number_in text ≡ Some number
unfolding number_in
spells-number_in text number s =
    let digits = s.digits.digits in
    let some : nat_lt 0 (length text) ≡ true = grind (arith, nat_tests) in
    let few : nat_le (length text) 10 ≡ true = grind (arith, nat_tests) in
    rw (some, few, digits) (ap Some (sym s.value))

pub number_value : (r : Option ℕ) (text : List ℕ) → IfSome r (λ n. SpellsNumber text n)
    → ((n : ℕ) → SpellsNumber text n → r ≡ Some n) → r ≡ number_in text
number_value r text spelled only =
    same_reading (SpellsNumber text) r (number_in text) spelled only (number_in-spells text) (spells-number_in text)

-- a reading that fits
record Fitted (reading : Option ℕ) (secs : ℕ) : Type 0 where
  is : reading ≡ Some secs
  fits : secs < 2 ^ 32

fitted : (reading : Option ℕ) (secs : ℕ) → fitting reading ≡ Some secs → Fitted reading secs
unfolding fitting
fitted None secs e = cc
fitted (Some n) secs e = let p = passed _ _ _ e in record { is = ap Some p.same; fits = grind (arith, nat_tests) }

is_fitting : (reading : Option ℕ) (secs : ℕ) → reading ≡ Some secs → secs < 2 ^ 32 → fitting reading ≡ Some secs
unfolding fitting
is_fitting reading secs e fits = let small : nat_lt secs (2 ^ 32) ≡ true = grind (arith, nat_tests) in rw (e, small)

pub seconds_in-spells : (text : List ℕ) (secs : ℕ) → seconds_in text ≡ Some secs → SpellsSeconds text secs
unfolding seconds_in
seconds_in-spells text secs e =
    let f = fitted _ _ e in
    record { number = number_in-spells text secs f.is; fits = f.fits }

pub spells-seconds_in : (text : List ℕ) (secs : ℕ) → SpellsSeconds text secs → seconds_in text ≡ Some secs
unfolding seconds_in
spells-seconds_in text secs s = is_fitting _ _ (spells-number_in text secs s.number) s.fits

-- a text that begins with a group of a unit, in its parts
record IsLed (letter : ℕ) (text number behind : List ℕ) : Type 0 where
  digits : IsDigits number
  text_is : text ≡ number ++ letter ∷ behind

split_at : (text : List ℕ) (count letter : ℕ) → count < length text → get_or text count 0 ≡ letter
    → text ≡ take count text ++ letter ∷ drop (count + 1) text
split_at text count letter within at =
    rw add-one (sym (take-append-drop count text) ∙ ap (λ (rest : List ℕ). take count text ++ rest)
    (drop-cons text count 0 within ∙ ap (λ (b : ℕ). b ∷ drop (suc count) text) at))

is_led : (letter : ℕ) (text : List ℕ) → is_led_by letter text ≡ true
    → IsLed letter text (take (prefix_len is_digit text) text) (drop (prefix_len is_digit text + 1) text)
unfolding is_led_by
is_led letter text led =
    let count = prefix_len is_digit text in
    let tests = three_parts (nat_lt 0 count) (nat_lt count (length text)) (nat_eq (get_or text count 0) letter) led in
    let some : 1 ≤ count = grind (arith, nat_tests) in
    let within : count < length text = grind (arith, nat_tests) in
    let at : get_or text count 0 ≡ letter = grind (arith, nat_tests) in
    record {
      digits = record { some = grind (arith, length-take); digits = all_prefix is_digit text };
      text_is = split_at text count letter within at;
    }

led_is : (letter : ℕ) (text number behind : List ℕ) → is_digit letter ≡ false → IsDigits number
    → text ≡ number ++ letter ∷ behind → is_led_by letter text ≡ true
unfolding is_led_by
led_is letter text number behind fails digits e =
    let ends = ends_at text number letter behind (prefix_len is_digit text) refl fails digits e in
    let some : nat_lt 0 (prefix_len is_digit text) ≡ true = grind (arith, nat_tests) in
    let within : nat_lt (prefix_len is_digit text) (length text) ≡ true = grind (arith, nat_tests) in
    let at : nat_eq (get_or text (prefix_len is_digit text) 0) letter ≡ true = grind (arith, nat_tests) in
    rw (some, within, at) refl

-- what a mapped reading came from
record Mapped (f : ℕ → ℕ) (reading : Option ℕ) (n : ℕ) : Type 0 where
  more : ℕ
  is : reading ≡ Some more
  same : n ≡ f more

mapped : (f : ℕ → ℕ) (reading : Option ℕ) (n : ℕ) → option_map f reading ≡ Some n → Mapped f reading n
mapped f None n e = cc
mapped f (Some more) n e = record { more = more; is = refl; same = cc }

pub groups_in-spells : (us : List Unit) (text : List ℕ) (secs : ℕ) → groups_in us text ≡ Some secs
    → SpellsGroups us text secs
unfolding groups_in SpellsGroups
groups_in-spells [] [] secs e = (refl, cc)
groups_in-spells [] (byte ∷ text) secs e = absurd (cc)
groups_in-spells (unit ∷ others) text secs e =
    elim (cases_Bool (is_led_by unit.letter text)) [
      | inl first ↦
          let count = prefix_len is_digit text in
          let from = mapped (λ more. decimal_value (take count text) * unit.seconds + more)
          (groups_in others (drop (count + 1) text)) secs (rw first at e) in
          let led = is_led unit.letter text first in
          inr (record {
            number = take count text;
            behind = drop (count + 1) text;
            more = from.more;
            digits = led.digits;
            text_is = led.text_is;
            rest = groups_in-spells others (drop (count + 1) text) from.more from.is;
            secs_is = from.same;
          })
      | inr other ↦ inl (groups_in-spells others text secs (rw other at e))
    ]

pub spells-groups_in : (us : List Unit) (text : List ℕ) (secs : ℕ) → IsUnits us → SpellsGroups us text secs
    → groups_in us text ≡ Some secs
unfolding groups_in SpellsGroups IsUnits
spells-groups_in [] text secs are s = rw (s.0, s.1) refl
spells-groups_in (unit ∷ others) text secs are s =
    elim (cases_Bool (is_led_by unit.letter text)) [
      | inl first ↦
          let count = prefix_len is_digit text in
          let led = is_led unit.letter text first in
          let left =
          behind_first unit others (take count text) (drop (count + 1) text) text secs are led.digits led.text_is s in
          rw (first, spells-groups_in others (drop (count + 1) text) left.more are.1 left.rest)
          (ap Some (sym left.secs_is))
      | inr other ↦
          let skipped = none_first unit others text secs
          (λ number behind digits e.
          absurd (let led = led_is unit.letter text number behind are.0.letter digits e in cc)) s in
          rw other (spells-groups_in others text secs are.1 skipped)
    ]

pub duration_in-spells : (text : List ℕ) (secs : ℕ) → duration_in text ≡ Some secs → SpellsDuration text secs
unfolding duration_in SpellsDuration
duration_in-spells text secs e =
    elim (cases_Bool (list_all is_digit text)) [
      | inl all ↦ inl (seconds_in-spells text secs (rw all at e))
      | inr other ↦
          let f = fitted (groups_in units text) secs (rw other at e) in
          sum_then_duration (Some secs) units text refl other (groups_in-spells units text secs f.is) f.fits
    ]

pub spells-duration_in : (text : List ℕ) (secs : ℕ) → SpellsDuration text secs → duration_in text ≡ Some secs
unfolding duration_in
spells-duration_in text secs s =
    elim (cases_Bool (list_all is_digit text)) [
      | inl all ↦ rw all (spells-seconds_in text secs (digits_are_number text secs all s))
      | inr other ↦
          let sum = else_sum units text secs refl other s in
          rw other (is_fitting (groups_in units text) secs (spells-groups_in units text secs are_units sum.0) sum.1)
    ]

pub duration_value : (r : Option ℕ) (text : List ℕ) → IfSome r (λ n. SpellsDuration text n)
    → ((n : ℕ) → SpellsDuration text n → r ≡ Some n) → r ≡ duration_in text
duration_value r text spelled only =
    same_reading (SpellsDuration text) r (duration_in text) spelled only (duration_in-spells text)
    (spells-duration_in text)

-- the first that passes below a bound is below it, and passes
record Found (bound : ℕ) (passes : ℕ → Bool) (n : ℕ) : Type 0 where
  below : n < bound
  found : passes n ≡ true

found_at : (test : Bool) (bound : ℕ) (passes : ℕ → Bool) (n : ℕ) → passes bound ≡ test
    → cond test (Some bound) None ≡ Some n → Found (suc bound) passes n
found_at test bound passes n at e =
    let p = passed test bound n e in
    let same = p.same in
    record { below = omega arith; found = rw (← same) (at ∙ p.passes) }

found_in : (before : Option ℕ) (bound : ℕ) (passes : ℕ → Bool) (n : ℕ)
    → ((k : ℕ) → before ≡ Some k → Found bound passes k)
    → option_or before (cond (passes bound) (Some bound) None) ≡ Some n → Found (suc bound) passes n
found_in None bound passes n earlier e = found_at (passes bound) bound passes n refl e
found_in (Some k) bound passes n earlier e =
    let f = earlier n e in
    let below = f.below in
    record { below = omega arith; found = f.found }

first_below-found : (bound : ℕ) (passes : ℕ → Bool) (n : ℕ) → first_below bound passes ≡ Some n → Found bound passes n
unfolding first_below
first_below-found zero passes n e = cc
first_below-found (suc bound) passes n e =
    found_in (first_below bound passes) bound passes n (first_below-found bound passes) e

none_below : (bound : ℕ) (passes : ℕ → Bool) → ((k : ℕ) → k < bound → passes k ≡ false)
    → first_below bound passes ≡ None
unfolding first_below
none_below zero passes none = refl
none_below (suc bound) passes none =
    rw (none_below bound passes (λ k below. none k (omega arith)), none bound (omega arith)) refl

-- what passes is the first where none before it passes
first_below-is : (bound : ℕ) (passes : ℕ → Bool) (n : ℕ) → n < bound → passes n ≡ true
    → ((k : ℕ) → k < n → passes k ≡ false) → first_below bound passes ≡ Some n
unfolding first_below
first_below-is zero passes n below here none = absurd (omega arith)
first_below-is (suc bound) passes n below here none =
    elim (cases_eq n bound) [
      | inl same ↦ rw (none_below bound passes (λ k lower. none k (omega arith)), ← same, here) refl
      | inr other ↦ rw (first_below-is bound passes n (omega arith) here none) refl
    ]

same_two : (x y : ℕ) → 48 + x / 10 ≡ 48 + y / 10 → 48 + x % 10 ≡ 48 + y % 10 → x ≡ y
same_two x y tens ones = omega arith

same_four : (x y : ℕ) → x / 100 ≡ y / 100 → x % 100 ≡ y % 100 → x ≡ y
same_four x y hundreds rest = omega arith

-- civil times with one spelling have the same seconds
same_text_seconds : (a b : DateTime) (secs secs' : ℕ) → IsAt a secs → IsAt b secs' → civil_text a ≡ civil_text b
    → secs ≡ secs'
unfolding civil_text
same_text_seconds a b secs secs' at at' e =
    let byte = λ (i : ℕ). ap (λ (x : List ℕ). slice_index x i) e in
    let century = same_two (unsigned_abs a.date.year / 100) (unsigned_abs b.date.year / 100) (byte 0) (byte 1) in
    let rest = same_two (unsigned_abs a.date.year % 100) (unsigned_abs b.date.year % 100) (byte 2) (byte 3) in
    let year = same_four (unsigned_abs a.date.year) (unsigned_abs b.date.year) century rest in
    let month = same_two a.date.month b.date.month (byte 5) (byte 6) in
    let day = same_two a.date.day b.date.day (byte 8) (byte 9) in
    let hour = same_two a.time.hour b.time.hour (byte 11) (byte 12) in
    let minute = same_two a.time.minute b.time.minute (byte 14) (byte 15) in
    let second = same_two a.time.second b.time.second (byte 17) (byte 18) in
    let same = same_seconds a b a.date.year (pos a.date.month) (pos a.date.day) (pos a.time.hour) (pos a.time.minute)
    (pos a.time.second)
    (refl, refl, refl) refl refl refl (year_is a secs at ∙ ap pos year ∙ sym (year_is b secs' at'))
    (ap pos month) (ap pos day) (ap pos hour) (ap pos minute) (ap pos second) in
    let whole : pos secs ≡ pos secs' = sym at.seconds ∙ same ∙ at'.seconds in
    cc

-- and so a text spells one time at most as a civil time
pub one_civil_time : (text : List ℕ) (secs secs' : ℕ) → SpellsCivil text secs → SpellsCivil text secs' → secs ≡ secs'
one_civil_time text secs secs' s s' =
    same_text_seconds s.time s'.time secs secs' s.at s'.at (sym s.text_is ∙ s'.text_is)

pub civil_in-spells : (text : List ℕ) (secs : ℕ) → civil_in text ≡ Some secs → SpellsCivil text secs
unfolding civil_in
civil_in-spells text secs e =
    let f = first_below-found (2 ^ 32) (λ n. bytes_eq text (civil_text_at n)) secs e in
    let P : List ℕ → Type 0 = λ t. SpellsCivil t secs in
    subst P (sym ((bytes_eq-Decides text (civil_text_at secs)).0 f.found)) (civil_text_at-spells secs f.below)

other_text : (text : List ℕ) (secs other : ℕ) → SpellsCivil text secs → other < secs → (b : Bool)
    → bytes_eq text (civil_text_at other) ≡ b → b ≡ false
other_text text secs other s below false e = refl
other_text text secs other s below true e =
    let P : List ℕ → Type 0 = λ t. SpellsCivil t other in
    let fits = s.at.fits in
    let spelled =
    subst P (sym ((bytes_eq-Decides text (civil_text_at other)).0 e)) (civil_text_at-spells other (omega arith)) in
    absurd (let same = one_civil_time text secs other s spelled in omega arith)

pub spells-civil_in : (text : List ℕ) (secs : ℕ) → SpellsCivil text secs → civil_in text ≡ Some secs
unfolding civil_in
spells-civil_in text secs s =
    first_below-is (2 ^ 32) (λ n. bytes_eq text (civil_text_at n)) secs s.at.fits
    ((bytes_eq-Decides text (civil_text_at secs)).1 (spells-civil_text_at text secs s))
    (λ k below. other_text text secs k s below (bytes_eq text (civil_text_at k)) refl)

-- a civil time is no number
no_seconds : (r : Option ℕ) (text : List ℕ) → seconds_in text ≡ r → length text ≡ 20 → r ≡ None
no_seconds None text e long = refl
no_seconds (Some n) text e long = absurd (let s = seconds_in-spells text n e in let few = s.number.few in omega arith)

number_or_civil : (a b : Option ℕ) (text : List ℕ) (secs : ℕ) → seconds_in text ≡ a → civil_in text ≡ b
    → option_or a b ≡ Some secs → SpellsTime text secs
unfolding SpellsTime
number_or_civil None b text secs ea eb e = inr (inr (civil_in-spells text secs (eb ∙ e)))
number_or_civil (Some n) b text secs ea eb e = inr (inl (seconds_in-spells text secs (ea ∙ e)))

pub time_in-spells : (text : List ℕ) (secs : ℕ) → time_in text ≡ Some secs → SpellsTime text secs
unfolding time_in SpellsTime
time_in-spells text secs e =
    elim (cases_Bool (bytes_eq text (codes "never"))) [
      | inl never ↦ inl ((bytes_eq-Decides text (codes "never")).0 never, let e' = rw never at e in cc)
      | inr other ↦ number_or_civil (seconds_in text) (civil_in text) text secs refl refl (rw other at e)
    ]

else_time_in : (text : List ℕ) (secs : ℕ) → text ≢ codes "never" → SpellsTime text secs
    → option_or (seconds_in text) (civil_in text) ≡ Some secs
unfolding SpellsTime
else_time_in text secs other (inl never) = absurd (other never.0)
else_time_in text secs other (inr (inl number)) = rw (spells-seconds_in text secs number) refl
else_time_in text secs other (inr (inr civil)) =
    let long = ap length civil.text_is ∙ length-civil_text civil.time in
    rw (no_seconds (seconds_in text) text refl long) (spells-civil_in text secs civil)

pub spells-time_in : (text : List ℕ) (secs : ℕ) → SpellsTime text secs → time_in text ≡ Some secs
unfolding time_in
spells-time_in text secs s =
    elim (cases_Bool (bytes_eq text (codes "never"))) [
      | inl never ↦
          rw never (ap Some (sym (never_is_zero text secs ((bytes_eq-Decides text (codes "never")).0 never) s)))
      | inr other ↦
          let differs : text ≢ codes "never" = λ e. let same = (bytes_eq-Decides text (codes "never")).1 e in cc in
          rw other (else_time_in text secs differs s)
    ]

pub time_value : (r : Option ℕ) (text : List ℕ) → IfSome r (λ n. SpellsTime text n)
    → ((n : ℕ) → SpellsTime text n → r ≡ Some n) → r ≡ time_in text
time_value r text spelled only =
    same_reading (SpellsTime text) r (time_in text) spelled only (time_in-spells text) (spells-time_in text)

-- what is written for a time is read as it
pub time_in-civil_text_at : (secs : ℕ) → secs < 2 ^ 32 → time_in (civil_text_at secs) ≡ Some secs
unfolding SpellsTime
time_in-civil_text_at secs fits = spells-time_in (civil_text_at secs) secs (inr (inr (civil_text_at-spells secs fits)))

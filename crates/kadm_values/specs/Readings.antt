-- What a text spells, as a function of its bytes; nothing where it spells no such value.
use Rattle.std.specs.Prelude.{ℕ, zero, suc, ◌+◌, ◌*◌, ◌^◌, Bool, ◌&&◌, nat_lt, nat_le, nat_eq, if◌then◌else◌, List}
use Rattle.std.specs.Prelude.{[], ◌∷◌, length, take, drop, slice_index, codes, Option, Some, None, option_map}
use Rattle.std.specs.List.{list_all, prefix_len}
use Rattle.std.specs.Option.{option_or}
use Rattle.std.specs.Str.{bytes_eq}
use Rattle.kadm_values.specs.declared.durations.Unit.{Unit}
use Rattle.kadm_values.specs.Numbers.{is_digit, decimal_value}
use Rattle.kadm_values.specs.Durations.{units}
use Rattle.kadm_values.specs.Calendar.{civil_text_at}

-- the value of 1 to 10 digits
unfoldable pub number_in : List ℕ → Option ℕ
number_in text =
    if nat_lt 0 (length text) && nat_le (length text) 10 && list_all is_digit text
    then Some (decimal_value text) else None

-- seconds that fit 32 bits
unfoldable pub fitting : Option ℕ → Option ℕ
fitting None = None
fitting (Some secs) = if nat_lt secs (2 ^ 32) then Some secs else None

-- a number of seconds
unfoldable pub seconds_in : List ℕ → Option ℕ
seconds_in text = fitting (number_in text)

-- whether a text begins with digits that this letter follows
unfoldable pub is_led_by : ℕ → List ℕ → Bool
is_led_by letter text =
    let count = prefix_len is_digit text in
    nat_lt 0 count && nat_lt count (length text) && nat_eq (slice_index text count) letter

-- a group for each of some of these units, in their order: where a text begins with a group of the first unit,
-- so many of it and what the rest spells, else what the other units make of it
unfoldable pub groups_in : List Unit → List ℕ → Option ℕ
groups_in [] [] = Some 0
groups_in [] (byte ∷ text) = None
groups_in (unit ∷ others) text =
    let count = prefix_len is_digit text in
    if is_led_by unit.letter text
    then option_map (λ more. decimal_value (take count text) * unit.seconds + more)
    (groups_in others (drop (count + 1) text))
    else groups_in others text

-- digits alone are seconds; else groups with a sum that fits
unfoldable pub duration_in : List ℕ → Option ℕ
duration_in text = if list_all is_digit text then seconds_in text else fitting (groups_in units text)

-- the first number below a bound that passes
unfoldable pub first_below : ℕ → (ℕ → Bool) → Option ℕ
first_below zero passes = None
first_below (suc n) passes = option_or (first_below n passes) (if passes n then Some n else None)

-- the seconds that are written so
unfoldable pub civil_in : List ℕ → Option ℕ
civil_in text = first_below (2 ^ 32) (λ secs. bytes_eq text (civil_text_at secs))

-- `never` is 0; else a number of seconds, or a civil time
unfoldable pub time_in : List ℕ → Option ℕ
time_in text = if bytes_eq text (codes "never") then Some 0 else option_or (seconds_in text) (civil_in text)

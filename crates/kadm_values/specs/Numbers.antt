-- Decimal numbers.
use Rattle.std.specs.Prelude.{ℕ, ◌≡◌, ◌+◌, ◌-◌, ◌*◌, ◌^◌, ◌<◌, ◌≤◌, Bool, true, ◌&&◌, nat_le, List, length, fold}
use Rattle.std.specs.List.{list_all}

-- the bytes 0 to 9
abbrev pub is_digit : ℕ → Bool
is_digit byte = nat_le 48 byte && nat_le byte 57

-- the number before one more digit, and the number with it
abbrev pub with_digit : ℕ → ℕ → ℕ
with_digit number byte = 10 * number + (byte - 48)

-- the number that decimal digits are
unfoldable pub decimal_value : List ℕ → ℕ
decimal_value text = fold with_digit 0 text

-- at least one digit, and nothing else
pub record IsDigits (text : List ℕ) : Type 0 where
  pub some : 1 ≤ length text
  pub digits : list_all is_digit text ≡ true

-- a number of 1 to 10 digits
pub record SpellsNumber (text : List ℕ) (number : ℕ) : Type 0 where
  pub digits : IsDigits text
  pub few : length text ≤ 10
  pub value : number ≡ decimal_value text

-- such a number that fits 32 bits
pub record SpellsSeconds (text : List ℕ) (secs : ℕ) : Type 0 where
  pub number : SpellsNumber text secs
  pub fits : secs < 2 ^ 32

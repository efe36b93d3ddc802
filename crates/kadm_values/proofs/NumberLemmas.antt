-- How great a number of so many digits can be.
use Rattle.std.proofs.Common.{◌≡◌, ℕ, ◌+◌, ◌-◌, ◌*◌, ◌^◌, ◌<◌, ◌≤◌, min, List, [], ◌∷◌, length, true, arith}
use Rattle.std.specs.List.{list_all, fold}
use Rattle.std.proofs.Math.Nat.{mul-le-mul_left, pow-suc, pow-le-pow_right}
use Rattle.std.proofs.lemmas.Bool.{and_parts}
use Rattle.std.proofs.lemmas.Bool.Decides.{nat_tests}
use Rattle.kadm_values.specs.Numbers.{is_digit, with_digit, decimal_value}

digit_small : (byte : ℕ) → is_digit byte ≡ true → byte - 48 ≤ 9
digit_small byte digit = grind (arith, nat_tests)

one_digit : (power start digit room : ℕ) → digit ≤ 9 → power * 10 * (start + 1) ≤ room
    → power * (10 * start + digit + 1) ≤ room
one_digit power start digit room small fits =
    let grown : 10 * start + digit + 1 ≤ 10 * (start + 1) = omega arith in
    omega (arith, mul-le-mul_left power grown)

-- each digit multiplies a start and what is above it by ten
below_from : (start : ℕ) (text : List ℕ) (room : ℕ) → list_all is_digit text ≡ true
    → 10 ^ length text * (start + 1) ≤ room → fold with_digit start text < room
below_from start [] room digits fits = omega arith
below_from start (byte ∷ text) room digits fits =
    let parts = and_parts _ _ digits in
    below_from (with_digit start byte) text room parts.1
    (one_digit (10 ^ length text) start (byte - 48) room (digit_small byte parts.0)
    (rw (pow-suc 10 (length text)) at fits))

-- at most ten digits are below ten thousand millions
ten_digits : (text : List ℕ) → list_all is_digit text ≡ true → length text ≤ 10 → decimal_value text < 10_000_000_000
unfolding decimal_value
ten_digits text digits few =
    let ten : 0 < 10 = omega arith in
    let power : 10 ^ length text ≤ 10 ^ 10 = pow-le-pow_right {n = 10} ten few in
    below_from 0 text 10_000_000_000 digits (omega arith)

-- and so no limit of 64 bits is met
pub number_is : (text : List ℕ) (number : ℕ) → number ≡ min (2 ^ 64 - 1) (decimal_value text)
    → list_all is_digit text ≡ true → length text ≤ 10 → number ≡ decimal_value text
number_is text number e digits few = let small = ten_digits text digits few in omega arith

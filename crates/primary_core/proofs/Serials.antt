-- A serial number behind which another one is left.
use Rattle.std.proofs.Common.{◌≡◌, ◌<◌, ◌^◌, ◌||◌, ℕ, Bool, true, false, refl, arith}
use Rattle.std.specs.Prelude.{nat_eq}

below_last : (n : ℕ) → n < 2 ^ 32 → nat_eq n 4294967295 ≡ false → n < 4294967295
below_last n lt e = grind arith

first_false : (a b : Bool) → (a || b) ≡ false → a ≡ false
first_false true b e = e
first_false false b e = refl

pub serial_below : (n : ℕ) (long : Bool) → n < 2 ^ 32 → (nat_eq n 4294967295 || long) ≡ false → n < 4294967295
serial_below n long lt e = below_last n lt (first_false (nat_eq n 4294967295) long e)

-- Numbers in six digits.
use Rattle.std.proofs.Common.{◌≡◌, ℕ, ◌-◌, ◌^◌, false, [], refl, append-nil}
use Rattle.std.specs.Fmt.{decimal, padded_integral, char_count, format_spec}
use Rattle.std.proofs.Math.Nat.{sub-zero}
use Rattle.kadm_values.specs.Points.{six_digits}

-- six digits are written with zeros in front
pub padded_six : (n : ℕ) → padded_integral (format_spec 32 0 4 6 (2 ^ 64 - 1)) false [] (decimal n) ≡ six_digits n
unfolding padded_integral char_count
padded_six n = simp (append-nil, sub-zero) refl

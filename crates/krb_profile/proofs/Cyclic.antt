-- Lemmas on a text that is read over and over.
use Rattle.std.proofs.Common.{◌≡◌, ℕ, ◌+◌, ◌-◌, ◌*◌, ◌/◌, ◌%◌, ◌^◌, ◌<◌, ◌≤◌}
use Rattle.std.proofs.Common.{◌∙◌, ap, sym, refl, List, inl, inr, length, arith}
use Rattle.std.specs.Prelude.{slice_index}
use Rattle.std.specs.Int.{bit_at}
use Rattle.std.proofs.Math.Nat.{div-add-mod, mul-add-mod_self_left, div-div-eq-div-mul, mod-eq_of_lt}
use Rattle.std.proofs.lemmas.Bool.{cases_lt}
use Rattle.std.proofs.lemmas.Nat.{mod-mul-add, shr-shr}
use Rattle.std.proofs.lemmas.Nat.Bits.{bit_at_cat_low, bit_at_cat_high, bit_at-lt}
use Rattle.krb_profile.specs.NFold.{bit_of, cyclic_bit, copied_bit, number_of}
use Rattle.krb_profile.proofs.Bits.{number_of-same, number_of-bit_at}

-- the place of bit t of byte u, read over and over
pub cyclic_place : (u t a : ℕ) → t < 8 → 0 < a → (8 * u + t) % (8 * a) ≡ 8 * (u % a) + t
cyclic_place u t a bit some =
    let whole = div-add-mod u a in
    let lt : u % a < a = omega arith in
    let inside : 8 * (u % a) + t < 8 * a = omega arith in
    let split : 8 * u + t ≡ (u / a) * (8 * a) + (8 * (u % a) + t) = grind (arith, whole) in
    rw split (mod-mul-add (u / a) (8 * a) (8 * (u % a) + t) inside)

-- bit t of byte u, read over and over
pub cyclic_bit-at : (text : List ℕ) (u t : ℕ) → t < 8 → 0 < length text →
    cyclic_bit text (8 * u + t) ≡ bit_at (slice_index text (u % length text)) (7 - t)
unfolding cyclic_bit bit_of
cyclic_bit-at text u t bit some =
    let place = cyclic_place u t (length text) bit some in
    let byte : (8 * (u % length text) + t) / 8 ≡ u % length text = omega arith in
    let rest : (8 * (u % length text) + t) % 8 ≡ t = omega arith in
    rw (place, byte, rest) refl

-- bit e of the eight bits of two bytes from bit r on, in the first byte
pub bit_of_pair_high : (high low r e : ℕ) → low < 256 → e < 8 → r + e < 8 →
    bit_at ((high * 256 + low) / 2 ^ (8 - r)) (7 - e) ≡ bit_at high (7 - (r + e))
bit_of_pair_high high low r e byte bit before =
    let place : 8 - r + (7 - e) ≡ 15 - (r + e) = omega arith in
    let inside : 15 - (r + e) - 8 ≡ 7 - (r + e) = omega arith in
    let shifted : bit_at ((high * 256 + low) / 2 ^ (8 - r)) (7 - e) ≡ bit_at (high * 256 + low) (8 - r + (7 - e))
    = ap (λ (x : ℕ). x % 2) (shr-shr (high * 256 + low) (8 - r) (7 - e)) in
    shifted ∙ ap (bit_at (high * 256 + low)) place
    ∙ bit_at_cat_high high 8 low (15 - (r + e)) byte (omega arith) ∙ ap (bit_at high) inside

-- and in the second
pub bit_of_pair_low : (high low r e : ℕ) → r < 8 → e < 8 → 8 ≤ r + e →
    bit_at ((high * 256 + low) / 2 ^ (8 - r)) (7 - e) ≡ bit_at low (7 - (r + e - 8))
bit_of_pair_low high low r e first bit past =
    let place : 8 - r + (7 - e) ≡ 7 - (r + e - 8) = omega arith in
    let shifted : bit_at ((high * 256 + low) / 2 ^ (8 - r)) (7 - e) ≡ bit_at (high * 256 + low) (8 - r + (7 - e))
    = ap (λ (x : ℕ). x % 2) (shr-shr (high * 256 + low) (8 - r) (7 - e)) in
    shifted ∙ ap (bit_at (high * 256 + low)) place
    ∙ bit_at_cat_low high 8 low (7 - (r + e - 8)) (omega arith)

-- eight bits from any bit on, by the two bytes that they stand in
pub byte_of_pair : (text : List ℕ) (first high low : ℕ) → first < 8 * length text → low < 256 →
    high ≡ slice_index text (first / 8) → low ≡ slice_index text ((first / 8 + 1) % length text) →
    (high * 256 + low) / 2 ^ (8 - first % 8) % 256 ≡ number_of (cyclic_bit text) first 8
byte_of_pair text first high low inside byte is_high is_low =
    let some : 0 < length text = omega arith in
    let u = first / 8 in
    let r = first % 8 in
    let bit_below : r < 8 = omega arith in
    let same : (e : ℕ) → e < 8 → cyclic_bit text (first + e) ≡ bit_at ((high * 256 + low) / 2 ^ (8 - r)) (7 - e) =
    λ e below.
    elim (cases_lt (r + e) 8) [
      | inl before ↦
          let place : first + e ≡ 8 * u + (r + e) = omega arith in
          let row : u % length text ≡ u = mod-eq_of_lt (omega arith) in
          ap (cyclic_bit text) place ∙ cyclic_bit-at text u (r + e) before some
          ∙ rw (row, ← is_high) (sym (bit_of_pair_high high low r e byte below before))
      | inr past ↦
          let place : first + e ≡ 8 * (u + 1) + (r + e - 8) = omega arith in
          ap (cyclic_bit text) place ∙ cyclic_bit-at text (u + 1) (r + e - 8) (omega arith) some
          ∙ rw (← is_low) (sym (bit_of_pair_low high low r e bit_below below past))
    ] in
    sym (number_of-bit_at (cyclic_bit text) ((high * 256 + low) / 2 ^ (8 - r)) first 8 same)

-- a place after another one
pub remainder-add : (s first e m : ℕ) → first ≡ s % m → (first + e) % m ≡ (s + e) % m
remainder-add s first e m is_first =
    let whole = div-add-mod s m in
    let split : s + e ≡ m * (s / m) + (first + e) = omega (arith, whole, is_first) in
    rw split (sym (mul-add-mod_self_left m (s / m) (first + e)))

-- the bits of a byte of the copies stand in the text from one place on
pub copied_byte-at : (text : List ℕ) (place first : ℕ) → 0 < length text →
    first ≡ (8 * place + 13 * (place / length text) * (8 * length text - 1)) % (8 * length text) →
    number_of (cyclic_bit text) first 8 ≡ number_of (copied_bit text) (8 * place) 8
unfolding copied_bit cyclic_bit
copied_byte-at text place first some is_first =
    number_of-same _ _ first (8 * place) 8 (λ e below.
    let byte : (8 * place + e) / 8 ≡ place = omega arith in
    let copy : (8 * place + e) / (8 * length text) ≡ place / length text =
    sym (div-div-eq-div-mul (8 * place + e) 8 (length text)) ∙ ap (λ (x : ℕ). x / length text) byte in
    let turn = 13 * (place / length text) * (8 * length text - 1) in
    let order : 8 * place + turn + e ≡ 8 * place + e + turn = omega arith in
    ap (bit_of text) (remainder-add _ first e (8 * length text) is_first
    ∙ ap (λ (x : ℕ). x % (8 * length text)) order
    ∙ ap (λ (x : ℕ). (8 * place + e + 13 * x * (8 * length text - 1)) % (8 * length text)) (sym copy)))

pub copied_bit-lt : (text : List ℕ) (p : ℕ) → copied_bit text p < 2
unfolding copied_bit cyclic_bit bit_of
copied_bit-lt text p = bit_at-lt _ _

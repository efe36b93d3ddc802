-- A state as one number of 128 bits.
use Rattle.std.proofs.Common.{◌≡◌, ℕ, ◌+◌, ◌*◌, ◌/◌, ◌%◌, ◌<◌, ◌^◌, ◌++◌}
use Rattle.std.proofs.Common.{List, slice_index, bit_or, ap, sym, ◌∙◌, arith}
use Rattle.std.specs.Int.{w128, to_be_bytes}
use Rattle.std.proofs.lemmas.Nat.{or_shifted}
use Rattle.aes_cts.specs.Words.{word_bytes, block_of}
use Rattle.aes_cts.proofs.Words.{four_joined}

-- the four words of a number
pub words_of_number : (x : ℕ) → word_bytes (x / 2 ^ 96) ++ (word_bytes (x / 2 ^ 64 % 2 ^ 32)
    ++ (word_bytes (x / 2 ^ 32 % 2 ^ 32) ++ word_bytes (x % 2 ^ 32))) ≡ to_be_bytes w128 x
unfolding word_bytes
words_of_number x =
    let e0 : (x / 2 ^ 96) / 2 ^ 24 % 2 ^ 8 ≡ x / 2 ^ 120 % 2 ^ 8 = omega arith in
    let e1 : (x / 2 ^ 96) / 2 ^ 16 % 2 ^ 8 ≡ x / 2 ^ 112 % 2 ^ 8 = omega arith in
    let e2 : (x / 2 ^ 96) / 2 ^ 8 % 2 ^ 8 ≡ x / 2 ^ 104 % 2 ^ 8 = omega arith in
    let e3 : (x / 2 ^ 96) % 2 ^ 8 ≡ x / 2 ^ 96 % 2 ^ 8 = omega arith in
    let e4 : (x / 2 ^ 64 % 2 ^ 32) / 2 ^ 24 % 2 ^ 8 ≡ x / 2 ^ 88 % 2 ^ 8 = omega arith in
    let e5 : (x / 2 ^ 64 % 2 ^ 32) / 2 ^ 16 % 2 ^ 8 ≡ x / 2 ^ 80 % 2 ^ 8 = omega arith in
    let e6 : (x / 2 ^ 64 % 2 ^ 32) / 2 ^ 8 % 2 ^ 8 ≡ x / 2 ^ 72 % 2 ^ 8 = omega arith in
    let e7 : (x / 2 ^ 64 % 2 ^ 32) % 2 ^ 8 ≡ x / 2 ^ 64 % 2 ^ 8 = omega arith in
    let e8 : (x / 2 ^ 32 % 2 ^ 32) / 2 ^ 24 % 2 ^ 8 ≡ x / 2 ^ 56 % 2 ^ 8 = omega arith in
    let e9 : (x / 2 ^ 32 % 2 ^ 32) / 2 ^ 16 % 2 ^ 8 ≡ x / 2 ^ 48 % 2 ^ 8 = omega arith in
    let e10 : (x / 2 ^ 32 % 2 ^ 32) / 2 ^ 8 % 2 ^ 8 ≡ x / 2 ^ 40 % 2 ^ 8 = omega arith in
    let e11 : (x / 2 ^ 32 % 2 ^ 32) % 2 ^ 8 ≡ x / 2 ^ 32 % 2 ^ 8 = omega arith in
    let e12 : (x % 2 ^ 32) / 2 ^ 24 % 2 ^ 8 ≡ x / 2 ^ 24 % 2 ^ 8 = omega arith in
    let e13 : (x % 2 ^ 32) / 2 ^ 16 % 2 ^ 8 ≡ x / 2 ^ 16 % 2 ^ 8 = omega arith in
    let e14 : (x % 2 ^ 32) / 2 ^ 8 % 2 ^ 8 ≡ x / 2 ^ 8 % 2 ^ 8 = omega arith in
    let e15 : (x % 2 ^ 32) % 2 ^ 8 ≡ x % 2 ^ 8 = omega arith in
    cc

-- two words one after the other
pair : (a b n : ℕ) → a < 2 ^ 32 → b < 2 ^ 32 → n ≡ bit_or (a * 2 ^ 32 % 2 ^ 64) b → n ≡ a * 2 ^ 32 + b
pair a b n fits low e =
    let m : a * 2 ^ 32 % 2 ^ 64 ≡ a * 2 ^ 32 = omega arith in
    e ∙ ap (λ (x : ℕ). bit_or x b) m ∙ or_shifted a 32 b low

-- the number of two halves
halves : (h l : ℕ) → h < 2 ^ 64 → l < 2 ^ 64 → bit_or (h * 2 ^ 64 % 2 ^ 128) l ≡ h * 2 ^ 64 + l
halves h l fits low =
    let m : h * 2 ^ 64 % 2 ^ 128 ≡ h * 2 ^ 64 = omega arith in
    ap (λ (x : ℕ). bit_or x l) m ∙ or_shifted h 64 l low

-- the number of four words has their bytes
pub bytes_of_number : (s : List ℕ) (a b c d high low : ℕ) → a < 2 ^ 32 → b < 2 ^ 32 → c < 2 ^ 32 → d < 2 ^ 32
    → a ≡ slice_index s 0 → b ≡ slice_index s 1 → c ≡ slice_index s 2 → d ≡ slice_index s 3
    → high ≡ bit_or (a * 2 ^ 32 % 2 ^ 64) b → low ≡ bit_or (c * 2 ^ 32 % 2 ^ 64) d
    → to_be_bytes w128 (bit_or (high * 2 ^ 64 % 2 ^ 128) low) ≡ block_of s
unfolding block_of
bytes_of_number s a b c d high low fa fb fc fd ea eb ec ed h l =
    let h' : high ≡ a * 2 ^ 32 + b = pair a b high fa fb h in
    let l' : low ≡ c * 2 ^ 32 + d = pair c d low fc fd l in
    let x : bit_or (high * 2 ^ 64 % 2 ^ 128) low ≡ high * 2 ^ 64 + low = halves high low (omega arith) (omega arith) in
    let e0 : (high * 2 ^ 64 + low) / 2 ^ 96 ≡ slice_index s 0 = omega arith in
    let e1 : (high * 2 ^ 64 + low) / 2 ^ 64 % 2 ^ 32 ≡ slice_index s 1 = omega arith in
    let e2 : (high * 2 ^ 64 + low) / 2 ^ 32 % 2 ^ 32 ≡ slice_index s 2 = omega arith in
    let e3 : (high * 2 ^ 64 + low) % 2 ^ 32 ≡ slice_index s 3 = omega arith in
    ap (λ (n : ℕ). to_be_bytes w128 n) x ∙ sym (words_of_number (high * 2 ^ 64 + low))
    ∙ four_joined (ap word_bytes e0) (ap word_bytes e1) (ap word_bytes e2) (ap word_bytes e3)

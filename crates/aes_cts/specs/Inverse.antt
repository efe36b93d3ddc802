-- The inverse cipher of AES (FIPS 197, 5.3), and the inverse of ciphertext stealing.
use Rattle.std.specs.Prelude.{ℕ, zero, suc, ◌+◌, ◌-◌, ◌*◌, ◌%◌, ◌^◌, List, [], ◌∷◌, ◌++◌, map, slice_index, bit_xor}
use Rattle.std.specs.Int.{bit_at}
use Rattle.aes_cts.specs.Field.{product, inverse}
use Rattle.aes_cts.specs.Cipher.{add_bytes, below, round_key}

-- bit i of the inverse of the affine map of the S-box, with the constant 5
unfoldable pub unaffine_bit : ℕ → ℕ → ℕ
unaffine_bit b i = (bit_at b ((i + 2) % 8) + bit_at b ((i + 5) % 8) + bit_at b ((i + 7) % 8) + bit_at 5 i) % 2

-- the number of the lowest n bits of that inverse
unfoldable pub unaffine_bits : ℕ → ℕ → ℕ
unaffine_bits zero b = 0
unaffine_bits (suc n) b = unaffine_bits n b + unaffine_bit b n * 2 ^ n

-- the inverse S-box (5.3.2): the inverse of the affine map, then the inverse in the field
unfoldable pub unsub_byte : ℕ → ℕ
unsub_byte a = inverse (unaffine_bits 8 a)

-- InvSubBytes (5.3.2)
unfoldable pub unsub_bytes : List ℕ → List ℕ
unsub_bytes bytes = map unsub_byte bytes

-- InvShiftRows (5.3.1): the byte of row r and column c comes from column c - r, modulo 4
unfoldable pub unshift_rows : List ℕ → List ℕ
unshift_rows block = map (λ (i : ℕ). slice_index block ((i + 12 * (i % 4)) % 16)) (below 16)

-- one column of InvMixColumns (5.3.3)
unfoldable pub unmixed : ℕ → ℕ → ℕ → ℕ → List ℕ
unmixed a b c d =
    bit_xor (bit_xor (bit_xor (product 14 a) (product 11 b)) (product 13 c)) (product 9 d)
    ∷ bit_xor (bit_xor (bit_xor (product 9 a) (product 14 b)) (product 11 c)) (product 13 d)
    ∷ bit_xor (bit_xor (bit_xor (product 13 a) (product 9 b)) (product 14 c)) (product 11 d)
    ∷ bit_xor (bit_xor (bit_xor (product 11 a) (product 13 b)) (product 9 c)) (product 14 d)
    ∷ []

unfoldable pub unmixed_at : List ℕ → ℕ → List ℕ
unmixed_at block i =
    unmixed (slice_index block i) (slice_index block (i + 1)) (slice_index block (i + 2)) (slice_index block (i + 3))

-- InvMixColumns (5.3.3)
unfoldable pub unmix_columns : List ℕ → List ℕ
unmix_columns block = unmixed_at block 0 ++ (unmixed_at block 4 ++ (unmixed_at block 8 ++ unmixed_at block 12))

-- the state after the first key and r whole rounds of the equivalent inverse cipher (5.3.5)
unfoldable pub unrounds : List ℕ → List ℕ → ℕ → List ℕ
unrounds keys block zero = add_bytes block (round_key keys 0)
unrounds keys block (suc r) =
    add_bytes (unmix_columns (unshift_rows (unsub_bytes (unrounds keys block r)))) (round_key keys (suc r))

-- n rounds of the equivalent inverse cipher, the last without InvMixColumns (5.3.5)
unfoldable pub uncipher_by : List ℕ → ℕ → List ℕ → List ℕ
uncipher_by keys n block = add_bytes (unshift_rows (unsub_bytes (unrounds keys block (n - 1)))) (round_key keys n)

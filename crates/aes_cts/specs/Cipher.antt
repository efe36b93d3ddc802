-- AES (FIPS 197) on lists of bytes. A block is the 16 bytes of a state column by column, as the standard reads its
-- input (3.4), so that place r + 4 c holds the byte of row r and column c. A key has 16 or 32 bytes.
use Rattle.std.specs.Prelude.{ℕ, zero, suc, ◌+◌, ◌-◌, ◌*◌, ◌/◌, ◌%◌, ◌==◌, ◌&&◌, nat_lt, if◌then◌else◌}
use Rattle.std.specs.Prelude.{List, [], ◌∷◌, ◌++◌, length, take, drop, map, slice_index, bit_xor}
use Rattle.aes_cts.specs.Field.{times_power, product, sub_byte}

-- the sum of two lists of bytes, place by place (AddRoundKey, 5.1.4)
unfoldable pub add_bytes : List ℕ → List ℕ → List ℕ
add_bytes (x ∷ xs) (y ∷ ys) = bit_xor x y ∷ add_bytes xs ys
add_bytes [] ys = []
add_bytes xs [] = []

-- SubBytes (5.1.1), and SubWord (5.2) on a word
unfoldable pub sub_bytes : List ℕ → List ℕ
sub_bytes bytes = map sub_byte bytes

-- the numbers from 0 to n - 1
unfoldable pub below : ℕ → List ℕ
below zero = []
below (suc n) = below n ++ n ∷ []

-- ShiftRows (5.1.2): the byte of row r and column c comes from column c + r, modulo 4
unfoldable pub shift_rows : List ℕ → List ℕ
shift_rows block = map (λ (i : ℕ). slice_index block ((i + 4 * (i % 4)) % 16)) (below 16)

-- one column of MixColumns (5.1.3)
unfoldable pub mixed : ℕ → ℕ → ℕ → ℕ → List ℕ
mixed a b c d =
    bit_xor (bit_xor (bit_xor (product 2 a) (product 3 b)) c) d
    ∷ bit_xor (bit_xor (bit_xor a (product 2 b)) (product 3 c)) d
    ∷ bit_xor (bit_xor (bit_xor a b) (product 2 c)) (product 3 d)
    ∷ bit_xor (bit_xor (bit_xor (product 3 a) b) c) (product 2 d)
    ∷ []

-- the column whose first byte stands at place i, mixed
unfoldable pub mixed_at : List ℕ → ℕ → List ℕ
mixed_at block i =
    mixed (slice_index block i) (slice_index block (i + 1)) (slice_index block (i + 2)) (slice_index block (i + 3))

-- MixColumns (5.1.3)
unfoldable pub mix_columns : List ℕ → List ℕ
mix_columns block = mixed_at block 0 ++ (mixed_at block 4 ++ (mixed_at block 8 ++ mixed_at block 12))

-- RotWord (5.2)
unfoldable pub rot_word : List ℕ → List ℕ
rot_word word = drop 1 word ++ take 1 word

-- Rcon[j] (5.2), for j from 1
unfoldable pub round_constant : ℕ → List ℕ
round_constant j = times_power (j - 1) 1 ∷ 0 ∷ 0 ∷ 0 ∷ []

-- what word i of the expanded key of a key of n words takes from `last`, word i - 1 (5.2)
unfoldable pub turned : ℕ → ℕ → List ℕ → List ℕ
turned n i last =
    if i % n == 0 then add_bytes (sub_bytes (rot_word last)) (round_constant (i / n))
    else if nat_lt 6 n && (i % n == 4) then sub_bytes last
    else last

-- the word after the words of `bytes`, where the key has n words (5.2)
unfoldable pub next_word : ℕ → List ℕ → List ℕ
next_word n bytes =
    add_bytes (take 4 (drop (length bytes - 4 * n) bytes)) (turned n (length bytes / 4) (drop (length bytes - 4) bytes))

-- a key of n words and the `more` words that follow it
unfoldable pub expand : ℕ → List ℕ → ℕ → List ℕ
expand n key zero = key
expand n key (suc more) = expand n key more ++ next_word n (expand n key more)

-- the number of rounds, 10 or 14 (5)
unfoldable pub rounds_of : List ℕ → ℕ
rounds_of key = length key / 4 + 6

-- the key expansion (5.2): four words for the start and for each round
unfoldable pub expanded : List ℕ → List ℕ
expanded key = expand (length key / 4) key (4 * (rounds_of key + 1) - length key / 4)

-- round key r of an expanded key
unfoldable pub round_key : List ℕ → ℕ → List ℕ
round_key keys r = take 16 (drop (16 * r) keys)

-- the state after the first key and r whole rounds (5.1)
unfoldable pub rounds : List ℕ → List ℕ → ℕ → List ℕ
rounds keys block zero = add_bytes block (round_key keys 0)
rounds keys block (suc r) =
    add_bytes (mix_columns (shift_rows (sub_bytes (rounds keys block r)))) (round_key keys (suc r))

-- n rounds, the last without MixColumns (5.1)
unfoldable pub cipher_by : List ℕ → ℕ → List ℕ → List ℕ
cipher_by keys n block = add_bytes (shift_rows (sub_bytes (rounds keys block (n - 1)))) (round_key keys n)

-- the cipher (5.1)
unfoldable pub cipher : List ℕ → List ℕ → List ℕ
cipher key block = cipher_by (expanded key) (rounds_of key) block

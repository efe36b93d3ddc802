-- The bytes of the words that the code computes on: a word is four bytes, the first the highest, and a state or a
-- round key is four words, a column each.
use Rattle.std.specs.Prelude.{◌≡◌, ℕ, zero, suc, ◌+◌, ◌-◌, ◌*◌, ◌<◌, ◌==◌, ◌||◌, if◌then◌else◌}
use Rattle.std.specs.Prelude.{List, [], ◌∷◌, ◌++◌, length, take, drop, slice_index, slice_index_or}
use Rattle.std.specs.Int.{w32, to_be_bytes}
use Rattle.aes_cts.specs.Cipher.{add_bytes, expand}
use Rattle.aes_cts.specs.Inverse.{unmix_columns}

unfoldable pub word_bytes : ℕ → List ℕ
word_bytes word = to_be_bytes w32 word

-- byte i of a word, the highest byte 0
unfoldable pub byte_of : ℕ → ℕ → ℕ
byte_of word i = slice_index (word_bytes word) i

unfoldable pub block_of : List ℕ → List ℕ
block_of s = word_bytes (slice_index s 0)
    ++ (word_bytes (slice_index s 1) ++ (word_bytes (slice_index s 2) ++ word_bytes (slice_index s 3)))

-- the bytes of a list of round keys
unfoldable pub schedule_bytes : List (List ℕ) → List ℕ
schedule_bytes [] = []
schedule_bytes (key ∷ more) = block_of key ++ schedule_bytes more

-- what byte s of a row from 0 to 3 adds to each byte of a column whose first row of factors is p, q, r, t
unfoldable pub spread : ℕ → ℕ → ℕ → ℕ → ℕ → List ℕ
spread zero p q r t = p ∷ t ∷ r ∷ q ∷ []
spread (suc zero) p q r t = q ∷ p ∷ t ∷ r ∷ []
spread (suc (suc zero)) p q r t = r ∷ q ∷ p ∷ t ∷ []
spread (suc (suc (suc n))) p q r t = t ∷ r ∷ q ∷ p ∷ []

-- round key r of the keys by which a state is decrypted: the keys in reverse, those of the inner rounds unmixed
unfoldable pub undo_key : List (List ℕ) → ℕ → List ℕ
undo_key keys r =
    let key = block_of (slice_index_or keys (length keys - 1 - r) []) in
    if (r == 0) || (r + 1 == length keys) then key else unmix_columns key

-- these undo those
abbrev pub Undoes : List (List ℕ) → List (List ℕ) → Type 0
Undoes undo keys =
    (length undo ≡ length keys) × ((r : ℕ) → r < length keys → block_of (slice_index_or undo r []) ≡ undo_key keys r)

-- the four words of a block, each added to the sum before it, the first to `word`
unfoldable pub chained_words : List ℕ → List ℕ → List ℕ
chained_words block word =
    let a = add_bytes (take 4 block) word in
    let b = add_bytes (take 4 (drop 4 block)) a in
    let c = add_bytes (take 4 (drop 8 block)) b in
    let d = add_bytes (take 4 (drop 12 block)) c in
    a ++ (b ++ (c ++ d))

-- the round keys of a key of `stride` round keys, in both directions
abbrev pub AreSchedules : ℕ → List (List ℕ) → List (List ℕ) → Type 0
AreSchedules stride keys undo =
    (length keys ≡ 4 * stride + 7)
    × (schedule_bytes keys ≡ expand (4 * stride) (schedule_bytes (take stride keys)) (4 * (4 * stride + 7 - stride)))
    × Undoes undo keys

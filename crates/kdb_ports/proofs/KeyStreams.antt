-- The next byte of a key's stream, and what is left after it.
use Rattle.std.proofs.Common.{◌≡◌, ℕ, ◌+◌, ◌-◌, ◌/◌, ◌%◌, ◌^◌, ◌<◌, List, length}
use Rattle.std.proofs.Common.{slice_index, slice_set, w32, refl, ap, ◌∙◌, arith}
use Rattle.std.proofs.Math.Path.{fun_ext}
use Rattle.std.proofs.Math.Decide.{dec_lt}
use Rattle.std.proofs.lemmas.List.{get_or-set_other}
use Rattle.std.proofs.lemmas.Grind.{get_or-set_at}
use Rattle.std.specs.Int.{to_le_bytes}
use Rattle.rand_chacha.specs.ChaCha.{ChaCha, next_word, word_at}
use Rattle.kdb_ports.specs.Told.{later_bytes}
use Rattle.kdb_ports.specs.ChaCha.{StandsAt, drawn_in, key_byte, chacha_bytes}

-- the stream repeats after 2 ^ 70 bytes
key_byte_at : (key : List ℕ) (a b : ℕ) → a % 2 ^ 70 ≡ b % 2 ^ 70 → key_byte key a ≡ key_byte key b
unfolding key_byte
key_byte_at key a b same =
    let place : a / 4 % 2 ^ 68 ≡ b / 4 % 2 ^ 68 = omega arith in
    let byte : a % 4 ≡ b % 4 = omega arith in
    rw (place, byte) refl

-- the next byte is in the last word
pub next_in_word : (words : ChaCha) (word : List ℕ) (given : ℕ) → StandsAt words word given → given < 4
    → slice_index word given ≡ key_byte words.key (drawn_in words given)
unfolding key_byte
next_in_word words word given stands more =
    let below : words.word_pos < 2 ^ 68 = stands.below in
    let place : drawn_in words given / 4 % 2 ^ 68 ≡ (words.word_pos + (2 ^ 68 - 1)) % 2 ^ 68 = omega arith in
    let byte : drawn_in words given % 4 ≡ given = omega arith in
    rw (stands.last more, place, byte) refl

-- one byte more was given
pub goes_on : (words : ChaCha) (given : ℕ)
    → chacha_bytes words.key (drawn_in words (given + 1))
    ≡ later_bytes 1 (chacha_bytes words.key (drawn_in words given))
goes_on words given =
    fun_ext (λ i. key_byte_at words.key (drawn_in words (given + 1) + i) (drawn_in words given + (1 + i)) (omega arith))

-- a new word begins where all of the last one were given
pub first_of_word : (old new : ChaCha) (x : ℕ) (word : List ℕ) → old.stream ≡ 0 → old.word_pos < 2 ^ 68
    → (x, new) ≡ next_word 10 old
    → word ≡ to_le_bytes w32 x → slice_index word 0 ≡ key_byte old.key (drawn_in old 4)
unfolding key_byte
first_of_word old new x word nonce below step is =
    let value : x ≡ word_at 10 old.key old.stream old.word_pos = ap (λ (p : ℕ × ChaCha). p.0) step in
    let place : drawn_in old 4 / 4 % 2 ^ 68 ≡ old.word_pos = omega arith in
    let byte : drawn_in old 4 % 4 ≡ 0 = omega arith in
    rw (is, value, nonce, place, byte) refl

pub after_first : (old new : ChaCha) (x : ℕ) → (x, new) ≡ next_word 10 old
    → chacha_bytes new.key (drawn_in new 1) ≡ later_bytes 1 (chacha_bytes old.key (drawn_in old 4))
after_first old new x step =
    let key : new.key ≡ old.key = ap (λ (p : ℕ × ChaCha). p.1.key) step in
    let place : new.word_pos ≡ (old.word_pos + 1) % 2 ^ 68 = ap (λ (p : ℕ × ChaCha). p.1.word_pos) step in
    rw key (fun_ext (λ i. key_byte_at old.key (drawn_in new 1 + i) (drawn_in old 4 + (1 + i)) (omega arith)))

-- a stream behind n bytes, and that behind m more
pub later_bytes-later_bytes : (m n : ℕ) (stream : ℕ → ℕ)
    → later_bytes m (later_bytes n stream) ≡ later_bytes (n + m) stream
later_bytes-later_bytes m n stream = fun_ext (λ i. ap stream (omega arith))

-- one byte more of a stream stands in
pub stands_one_more : (xs : List ℕ) (n x : ℕ) (stream rest : ℕ → ℕ) → ((i : ℕ) → i < n → slice_index xs i ≡ stream i)
    → n < length xs
    → rest ≡ later_bytes n stream → x ≡ rest 0 → (i : ℕ) → i < n + 1 → slice_index (slice_set xs n x) i ≡ stream i
stands_one_more xs n x stream rest before inside told is i below =
    let value : x ≡ stream n = is ∙ ap (λ (f : ℕ → ℕ). f 0) told ∙ ap stream (omega arith) in
    elim (dec_lt i n) [
      | yes earlier ↦ get_or-set_other xs n i x 0 (omega arith) ∙ before i earlier
      | no last ↦
          let same : i ≡ n = omega arith in
          get_or-set_at xs n i x 0 same inside ∙ value ∙ ap stream (omega arith)
    ]

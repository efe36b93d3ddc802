-- The bytes of words under `^`, and a round on words as a round on bytes.
use Rattle.std.proofs.Common.{◌≡◌, ℕ, zero, suc, ◌/◌, ◌%◌, ◌<◌, ◌^◌, ◌∷◌, ◌++◌, [], List}
use Rattle.std.proofs.Common.{slice_index, get_or, bit_xor, lit<, refl, ap₂, ap, sym, ◌∙◌, arith}
use Rattle.std.specs.Int.{w32, to_be_bytes, from_be_bytes}
use Rattle.std.specs.Int.Bits.{xor_assoc}
use Rattle.std.proofs.lemmas.Nat.{xor_comm, xor_shr, xor_mod, be_bytes_4}
use Rattle.aes_cts.specs.Field.{product, sub_byte}
use Rattle.aes_cts.specs.Cipher.{add_bytes, sub_bytes, below, shift_rows, mixed, mixed_at, mix_columns}
use Rattle.aes_cts.specs.Inverse.{unsub_byte, unsub_bytes, unshift_rows, unmixed, unmixed_at, unmix_columns}
use Rattle.aes_cts.specs.Words.{word_bytes, byte_of, block_of, spread}

-- four lists of bytes, each known, one after another
pub four_joined : {w w' x x' y y' z z' : List ℕ} → w ≡ w' → x ≡ x' → y ≡ y' → z ≡ z'
    → w ++ (x ++ (y ++ z)) ≡ w' ++ (x' ++ (y' ++ z'))
four_joined e f g h =
    ap₂ (λ (p q : List ℕ). p ++ q) e (ap₂ (λ (p q : List ℕ). p ++ q) f (ap₂ (λ (p q : List ℕ). p ++ q) g h))

byte_of_xor : (a b k : ℕ) → bit_xor a b / 2 ^ k % 2 ^ 8 ≡ bit_xor (a / 2 ^ k % 2 ^ 8) (b / 2 ^ k % 2 ^ 8)
byte_of_xor a b k = ap (λ (x : ℕ). x % 2 ^ 8) (xor_shr a b k) ∙ xor_mod (a / 2 ^ k) (b / 2 ^ k) 8

pub word_of_xor : (a b : ℕ) → word_bytes (bit_xor a b) ≡ add_bytes (word_bytes a) (word_bytes b)
unfolding word_bytes add_bytes
word_of_xor a b =
    let e0 : bit_xor a b % 256 ≡ bit_xor (a % 256) (b % 256) = xor_mod a b 8 in
    let e1 : bit_xor a b / 256 % 256 ≡ bit_xor (a / 256 % 256) (b / 256 % 256) = byte_of_xor a b 8 in
    let e2 : bit_xor a b / 65536 % 256 ≡ bit_xor (a / 65536 % 256) (b / 65536 % 256) = byte_of_xor a b 16 in
    let e3 : bit_xor a b / 16777216 % 256 ≡ bit_xor (a / 16777216 % 256) (b / 16777216 % 256) = byte_of_xor a b 24 in
    cc

-- a sum in reverse
xor_turned : (a b c d e : ℕ)
    → bit_xor (bit_xor (bit_xor (bit_xor a b) c) d) e ≡ bit_xor (bit_xor (bit_xor (bit_xor e d) c) b) a
xor_turned a b c d e =
    xor_comm (bit_xor (bit_xor (bit_xor a b) c) d) e
    ∙ ap (λ (x : ℕ). bit_xor e x) (xor_comm (bit_xor (bit_xor a b) c) d) ∙ sym (xor_assoc e d (bit_xor (bit_xor a b) c))
    ∙ ap (λ (x : ℕ). bit_xor (bit_xor e d) x) (xor_comm (bit_xor a b) c) ∙ sym (xor_assoc (bit_xor e d) c (bit_xor a b))
    ∙ ap (λ (x : ℕ). bit_xor (bit_xor (bit_xor e d) c) x) (xor_comm a b) ∙ sym (xor_assoc (bit_xor (bit_xor e d) c) b a)

-- a column of a round is the sum of what its four bytes add, and the key
pub column_of_parts : (p1 p2 p3 p4 key a b c d : ℕ)
    → word_bytes p1 ≡ spread 0 (product 2 a) (product 3 a) a a
    → word_bytes p2 ≡ spread 1 (product 2 b) (product 3 b) b b
    → word_bytes p3 ≡ spread 2 (product 2 c) (product 3 c) c c
    → word_bytes p4 ≡ spread 3 (product 2 d) (product 3 d) d d
    → word_bytes (bit_xor (bit_xor (bit_xor (bit_xor key p4) p3) p2) p1) ≡ add_bytes (mixed a b c d) (word_bytes key)
unfolding spread add_bytes mixed
column_of_parts p1 p2 p3 p4 key a b c d e1 e2 e3 e4 =
    let m : bit_xor (bit_xor (bit_xor (bit_xor key p4) p3) p2) p1
    ≡ bit_xor (bit_xor (bit_xor (bit_xor p1 p2) p3) p4) key = xor_turned key p4 p3 p2 p1 in
    rw (
      m,
      word_of_xor (bit_xor (bit_xor (bit_xor p1 p2) p3) p4) key,
      word_of_xor (bit_xor (bit_xor p1 p2) p3) p4,
      word_of_xor (bit_xor p1 p2) p3,
      word_of_xor p1 p2,
      e1,
      e2,
      e3,
      e4,
    ) refl

pub uncolumn_of_parts : (p1 p2 p3 p4 key a b c d : ℕ)
    → word_bytes p1 ≡ spread 0 (product 14 a) (product 11 a) (product 13 a) (product 9 a)
    → word_bytes p2 ≡ spread 1 (product 14 b) (product 11 b) (product 13 b) (product 9 b)
    → word_bytes p3 ≡ spread 2 (product 14 c) (product 11 c) (product 13 c) (product 9 c)
    → word_bytes p4 ≡ spread 3 (product 14 d) (product 11 d) (product 13 d) (product 9 d)
    → word_bytes (bit_xor (bit_xor (bit_xor (bit_xor p1 p2) p3) p4) key) ≡ add_bytes (unmixed a b c d) (word_bytes key)
unfolding spread add_bytes unmixed
uncolumn_of_parts p1 p2 p3 p4 key a b c d e1 e2 e3 e4 =
    rw (
      word_of_xor (bit_xor (bit_xor (bit_xor p1 p2) p3) p4) key,
      word_of_xor (bit_xor (bit_xor p1 p2) p3) p4,
      word_of_xor (bit_xor p1 p2) p3,
      word_of_xor p1 p2,
      e1,
      e2,
      e3,
      e4,
    ) refl

-- byte i of a word, read from its list of bytes
pub byte_read : (w : List ℕ) (a i : ℕ) → w ≡ to_be_bytes w32 a → slice_index w i ≡ byte_of a i
unfolding byte_of word_bytes
byte_read w a i e = ap (λ (l : List ℕ). slice_index l i) e

pub encrypt_column_of : (p1 p2 p3 p4 key a b c d : ℕ) (w x y z : List ℕ)
    → w ≡ to_be_bytes w32 a → x ≡ to_be_bytes w32 b → y ≡ to_be_bytes w32 c → z ≡ to_be_bytes w32 d
    → word_bytes p1 ≡ spread 0 (product 2 (sub_byte (slice_index w 0))) (product 3 (sub_byte (slice_index w 0)))
    (sub_byte (slice_index w 0)) (sub_byte (slice_index w 0))
    → word_bytes p2 ≡ spread 1 (product 2 (sub_byte (slice_index x 1))) (product 3 (sub_byte (slice_index x 1)))
    (sub_byte (slice_index x 1)) (sub_byte (slice_index x 1))
    → word_bytes p3 ≡ spread 2 (product 2 (sub_byte (slice_index y 2))) (product 3 (sub_byte (slice_index y 2)))
    (sub_byte (slice_index y 2)) (sub_byte (slice_index y 2))
    → word_bytes p4 ≡ spread 3 (product 2 (sub_byte (slice_index z 3))) (product 3 (sub_byte (slice_index z 3)))
    (sub_byte (slice_index z 3)) (sub_byte (slice_index z 3))
    → word_bytes (bit_xor (bit_xor (bit_xor (bit_xor key p4) p3) p2) p1)
    ≡ add_bytes (mixed (sub_byte (byte_of a 0)) (sub_byte (byte_of b 1)) (sub_byte (byte_of c 2))
    (sub_byte (byte_of d 3))) (word_bytes key)
encrypt_column_of p1 p2 p3 p4 key a b c d w x y z ea eb ec ed e1 e2 e3 e4 =
    rw (← byte_read w a 0 ea, ← byte_read x b 1 eb, ← byte_read y c 2 ec, ← byte_read z d 3 ed)
    (column_of_parts p1 p2 p3 p4 key _ _ _ _ e1 e2 e3 e4)

pub decrypt_column_of : (p1 p2 p3 p4 key a b c d : ℕ) (w x y z : List ℕ)
    → w ≡ to_be_bytes w32 a → x ≡ to_be_bytes w32 b → y ≡ to_be_bytes w32 c → z ≡ to_be_bytes w32 d
    → word_bytes p1 ≡ spread 0 (product 14 (unsub_byte (slice_index w 0))) (product 11 (unsub_byte (slice_index w 0)))
    (product 13 (unsub_byte (slice_index w 0))) (product 9 (unsub_byte (slice_index w 0)))
    → word_bytes p2 ≡ spread 1 (product 14 (unsub_byte (slice_index x 1))) (product 11 (unsub_byte (slice_index x 1)))
    (product 13 (unsub_byte (slice_index x 1))) (product 9 (unsub_byte (slice_index x 1)))
    → word_bytes p3 ≡ spread 2 (product 14 (unsub_byte (slice_index y 2))) (product 11 (unsub_byte (slice_index y 2)))
    (product 13 (unsub_byte (slice_index y 2))) (product 9 (unsub_byte (slice_index y 2)))
    → word_bytes p4 ≡ spread 3 (product 14 (unsub_byte (slice_index z 3))) (product 11 (unsub_byte (slice_index z 3)))
    (product 13 (unsub_byte (slice_index z 3))) (product 9 (unsub_byte (slice_index z 3)))
    → word_bytes (bit_xor (bit_xor (bit_xor (bit_xor p1 p2) p3) p4) key)
    ≡ add_bytes (unmixed (unsub_byte (byte_of a 0)) (unsub_byte (byte_of b 1)) (unsub_byte (byte_of c 2))
    (unsub_byte (byte_of d 3))) (word_bytes key)
decrypt_column_of p1 p2 p3 p4 key a b c d w x y z ea eb ec ed e1 e2 e3 e4 =
    rw (← byte_read w a 0 ea, ← byte_read x b 1 eb, ← byte_read y c 2 ec, ← byte_read z d 3 ed)
    (uncolumn_of_parts p1 p2 p3 p4 key _ _ _ _ e1 e2 e3 e4)

all_below_byte : (a b c d : ℕ) → a < 256 → b < 256 → c < 256 → d < 256 → (i : ℕ) → get_or (a ∷ b ∷ c ∷ d ∷ []) i 0 < 256
all_below_byte a b c d p q r s zero = p
all_below_byte a b c d p q r s (suc zero) = q
all_below_byte a b c d p q r s (suc (suc zero)) = r
all_below_byte a b c d p q r s (suc (suc (suc zero))) = s
all_below_byte a b c d p q r s (suc (suc (suc (suc i)))) = lit< tt

-- a word made of four bytes has them
pub word_of_bytes : (n a b c d : ℕ) → a < 256 → b < 256 → c < 256 → d < 256 → n ≡ from_be_bytes w32 (a ∷ b ∷ c ∷ d ∷ [])
    → word_bytes n ≡ a ∷ b ∷ c ∷ d ∷ []
unfolding word_bytes
word_of_bytes n a b c d p q r s e = be_bytes_4 (a ∷ b ∷ c ∷ d ∷ []) n refl (all_below_byte a b c d p q r s) e

-- the same where the bytes are known
pub word_of_known : (n s t u v s' t' u' v' : ℕ) → s < 256 → t < 256 → u < 256 → v < 256
    → n ≡ from_be_bytes w32 (s ∷ t ∷ u ∷ v ∷ []) → s ≡ s' → t ≡ t' → u ≡ u' → v ≡ v'
    → word_bytes n ≡ s' ∷ t' ∷ u' ∷ v' ∷ []
word_of_known n s t u v s' t' u' v' p q r o e f g h i = rw (word_of_bytes n s t u v p q r o e, f, g, h, i) refl

-- a column of the last round, from its four bytes after substitution
pub last_column_of : (n key s t u v s' t' u' v' : ℕ) → s < 256 → t < 256 → u < 256 → v < 256
    → n ≡ from_be_bytes w32 (s ∷ t ∷ u ∷ v ∷ []) → s ≡ s' → t ≡ t' → u ≡ u' → v ≡ v'
    → word_bytes (bit_xor n key) ≡ add_bytes (s' ∷ t' ∷ u' ∷ v' ∷ []) (word_bytes key)
last_column_of n key s t u v s' t' u' v' p q r o e f g h i =
    rw (word_of_xor n key, word_of_known n s t u v s' t' u' v' p q r o e f g h i) refl

-- four columns are a round
pub round_of_columns : (s key : List ℕ) (r0 r1 r2 r3 : ℕ)
    → word_bytes r0 ≡ add_bytes (mixed (sub_byte (byte_of (slice_index s 0) 0)) (sub_byte (byte_of (slice_index s 1) 1))
    (sub_byte (byte_of (slice_index s 2) 2)) (sub_byte (byte_of (slice_index s 3) 3))) (word_bytes (slice_index key 0))
    → word_bytes r1 ≡ add_bytes (mixed (sub_byte (byte_of (slice_index s 1) 0)) (sub_byte (byte_of (slice_index s 2) 1))
    (sub_byte (byte_of (slice_index s 3) 2)) (sub_byte (byte_of (slice_index s 0) 3))) (word_bytes (slice_index key 1))
    → word_bytes r2 ≡ add_bytes (mixed (sub_byte (byte_of (slice_index s 2) 0)) (sub_byte (byte_of (slice_index s 3) 1))
    (sub_byte (byte_of (slice_index s 0) 2)) (sub_byte (byte_of (slice_index s 1) 3))) (word_bytes (slice_index key 2))
    → word_bytes r3 ≡ add_bytes (mixed (sub_byte (byte_of (slice_index s 3) 0)) (sub_byte (byte_of (slice_index s 0) 1))
    (sub_byte (byte_of (slice_index s 1) 2)) (sub_byte (byte_of (slice_index s 2) 3))) (word_bytes (slice_index key 3))
    → block_of (r0 ∷ r1 ∷ r2 ∷ r3 ∷ []) ≡ add_bytes (mix_columns (shift_rows (sub_bytes (block_of s)))) (block_of key)
unfolding block_of byte_of word_bytes add_bytes sub_bytes below shift_rows mixed mixed_at mix_columns
round_of_columns s key r0 r1 r2 r3 e0 e1 e2 e3 = four_joined e0 e1 e2 e3

pub last_round_of_columns : (s key : List ℕ) (r0 r1 r2 r3 : ℕ)
    → word_bytes r0 ≡ add_bytes (sub_byte (byte_of (slice_index s 0) 0) ∷ sub_byte (byte_of (slice_index s 1) 1)
    ∷ sub_byte (byte_of (slice_index s 2) 2) ∷ sub_byte (byte_of (slice_index s 3) 3)
    ∷ []) (word_bytes (slice_index key 0))
    → word_bytes r1 ≡ add_bytes (sub_byte (byte_of (slice_index s 1) 0) ∷ sub_byte (byte_of (slice_index s 2) 1)
    ∷ sub_byte (byte_of (slice_index s 3) 2) ∷ sub_byte (byte_of (slice_index s 0) 3)
    ∷ []) (word_bytes (slice_index key 1))
    → word_bytes r2 ≡ add_bytes (sub_byte (byte_of (slice_index s 2) 0) ∷ sub_byte (byte_of (slice_index s 3) 1)
    ∷ sub_byte (byte_of (slice_index s 0) 2) ∷ sub_byte (byte_of (slice_index s 1) 3)
    ∷ []) (word_bytes (slice_index key 2))
    → word_bytes r3 ≡ add_bytes (sub_byte (byte_of (slice_index s 3) 0) ∷ sub_byte (byte_of (slice_index s 0) 1)
    ∷ sub_byte (byte_of (slice_index s 1) 2) ∷ sub_byte (byte_of (slice_index s 2) 3)
    ∷ []) (word_bytes (slice_index key 3))
    → block_of (r0 ∷ r1 ∷ r2 ∷ r3 ∷ []) ≡ add_bytes (shift_rows (sub_bytes (block_of s))) (block_of key)
unfolding block_of byte_of word_bytes add_bytes sub_bytes below shift_rows
last_round_of_columns s key r0 r1 r2 r3 e0 e1 e2 e3 = four_joined e0 e1 e2 e3

pub unround_of_columns : (s key : List ℕ) (r0 r1 r2 r3 : ℕ)
    → word_bytes r0 ≡ add_bytes (unmixed (unsub_byte (byte_of (slice_index s 0) 0))
    (unsub_byte (byte_of (slice_index s 3) 1)) (unsub_byte (byte_of (slice_index s 2) 2))
    (unsub_byte (byte_of (slice_index s 1) 3))) (word_bytes (slice_index key 0))
    → word_bytes r1 ≡ add_bytes (unmixed (unsub_byte (byte_of (slice_index s 1) 0))
    (unsub_byte (byte_of (slice_index s 0) 1)) (unsub_byte (byte_of (slice_index s 3) 2))
    (unsub_byte (byte_of (slice_index s 2) 3))) (word_bytes (slice_index key 1))
    → word_bytes r2 ≡ add_bytes (unmixed (unsub_byte (byte_of (slice_index s 2) 0))
    (unsub_byte (byte_of (slice_index s 1) 1)) (unsub_byte (byte_of (slice_index s 0) 2))
    (unsub_byte (byte_of (slice_index s 3) 3))) (word_bytes (slice_index key 2))
    → word_bytes r3 ≡ add_bytes (unmixed (unsub_byte (byte_of (slice_index s 3) 0))
    (unsub_byte (byte_of (slice_index s 2) 1)) (unsub_byte (byte_of (slice_index s 1) 2))
    (unsub_byte (byte_of (slice_index s 0) 3))) (word_bytes (slice_index key 3))
    → block_of (r0 ∷ r1 ∷ r2 ∷ r3 ∷ [])
    ≡ add_bytes (unmix_columns (unshift_rows (unsub_bytes (block_of s)))) (block_of key)
unfolding block_of byte_of word_bytes add_bytes unsub_bytes below unshift_rows unmixed unmixed_at unmix_columns
unround_of_columns s key r0 r1 r2 r3 e0 e1 e2 e3 = four_joined e0 e1 e2 e3

pub last_unround_of_columns : (s key : List ℕ) (r0 r1 r2 r3 : ℕ)
    → word_bytes r0 ≡ add_bytes (unsub_byte (byte_of (slice_index s 0) 0) ∷ unsub_byte (byte_of (slice_index s 3) 1)
    ∷ unsub_byte (byte_of (slice_index s 2) 2) ∷ unsub_byte (byte_of (slice_index s 1) 3)
    ∷ []) (word_bytes (slice_index key 0))
    → word_bytes r1 ≡ add_bytes (unsub_byte (byte_of (slice_index s 1) 0) ∷ unsub_byte (byte_of (slice_index s 0) 1)
    ∷ unsub_byte (byte_of (slice_index s 3) 2) ∷ unsub_byte (byte_of (slice_index s 2) 3)
    ∷ []) (word_bytes (slice_index key 1))
    → word_bytes r2 ≡ add_bytes (unsub_byte (byte_of (slice_index s 2) 0) ∷ unsub_byte (byte_of (slice_index s 1) 1)
    ∷ unsub_byte (byte_of (slice_index s 0) 2) ∷ unsub_byte (byte_of (slice_index s 3) 3)
    ∷ []) (word_bytes (slice_index key 2))
    → word_bytes r3 ≡ add_bytes (unsub_byte (byte_of (slice_index s 3) 0) ∷ unsub_byte (byte_of (slice_index s 2) 1)
    ∷ unsub_byte (byte_of (slice_index s 1) 2) ∷ unsub_byte (byte_of (slice_index s 0) 3)
    ∷ []) (word_bytes (slice_index key 3))
    → block_of (r0 ∷ r1 ∷ r2 ∷ r3 ∷ []) ≡ add_bytes (unshift_rows (unsub_bytes (block_of s))) (block_of key)
unfolding block_of byte_of word_bytes add_bytes unsub_bytes below unshift_rows
last_unround_of_columns s key r0 r1 r2 r3 e0 e1 e2 e3 = four_joined e0 e1 e2 e3

-- the sum of two states, word by word
pub block_of_xor : (s key : List ℕ)
    → block_of (bit_xor (slice_index s 0) (slice_index key 0) ∷ bit_xor (slice_index s 1) (slice_index key 1)
    ∷ bit_xor (slice_index s 2) (slice_index key 2) ∷ bit_xor (slice_index s 3) (slice_index key 3) ∷ [])
    ≡ add_bytes (block_of s) (block_of key)
unfolding block_of word_bytes add_bytes
block_of_xor s key =
    four_joined
    (word_of_xor (slice_index s 0) (slice_index key 0)) (word_of_xor (slice_index s 1) (slice_index key 1))
    (word_of_xor (slice_index s 2) (slice_index key 2)) (word_of_xor (slice_index s 3) (slice_index key 3))

-- InvMixColumns on a word, from what its four bytes add
pub unmixed_of_parts : (p1 p2 p3 p4 a b c d : ℕ)
    → word_bytes p1 ≡ spread 0 (product 14 a) (product 11 a) (product 13 a) (product 9 a)
    → word_bytes p2 ≡ spread 1 (product 14 b) (product 11 b) (product 13 b) (product 9 b)
    → word_bytes p3 ≡ spread 2 (product 14 c) (product 11 c) (product 13 c) (product 9 c)
    → word_bytes p4 ≡ spread 3 (product 14 d) (product 11 d) (product 13 d) (product 9 d)
    → word_bytes (bit_xor (bit_xor (bit_xor p1 p2) p3) p4) ≡ unmixed a b c d
unfolding spread add_bytes unmixed
unmixed_of_parts p1 p2 p3 p4 a b c d e1 e2 e3 e4 =
    rw (word_of_xor (bit_xor (bit_xor p1 p2) p3) p4, word_of_xor (bit_xor p1 p2) p3, word_of_xor p1 p2, e1, e2, e3, e4)
    refl

pub unmixed_of_columns : (key : List ℕ) (r0 r1 r2 r3 : ℕ)
    → word_bytes r0 ≡ unmixed (byte_of (slice_index key 0) 0) (byte_of (slice_index key 0) 1)
    (byte_of (slice_index key 0) 2) (byte_of (slice_index key 0) 3)
    → word_bytes r1 ≡ unmixed (byte_of (slice_index key 1) 0) (byte_of (slice_index key 1) 1)
    (byte_of (slice_index key 1) 2) (byte_of (slice_index key 1) 3)
    → word_bytes r2 ≡ unmixed (byte_of (slice_index key 2) 0) (byte_of (slice_index key 2) 1)
    (byte_of (slice_index key 2) 2) (byte_of (slice_index key 2) 3)
    → word_bytes r3 ≡ unmixed (byte_of (slice_index key 3) 0) (byte_of (slice_index key 3) 1)
    (byte_of (slice_index key 3) 2) (byte_of (slice_index key 3) 3)
    → block_of (r0 ∷ r1 ∷ r2 ∷ r3 ∷ []) ≡ unmix_columns (block_of key)
unfolding block_of byte_of word_bytes unmixed unmixed_at unmix_columns
unmixed_of_columns key r0 r1 r2 r3 e0 e1 e2 e3 = four_joined e0 e1 e2 e3

pub byte_of-lt : (a i : ℕ) → byte_of a i < 256
unfolding byte_of word_bytes
byte_of-lt a zero = omega arith
byte_of-lt a (suc zero) = omega arith
byte_of-lt a (suc (suc zero)) = omega arith
byte_of-lt a (suc (suc (suc zero))) = omega arith
byte_of-lt a (suc (suc (suc (suc i)))) = lit< tt

pub unmix_word_of : (p1 p2 p3 p4 s t u v a b c d : ℕ) → unsub_byte s ≡ a → unsub_byte t ≡ b → unsub_byte u ≡ c
    → unsub_byte v ≡ d
    → word_bytes p1 ≡ spread 0 (product 14 (unsub_byte s)) (product 11 (unsub_byte s)) (product 13 (unsub_byte s))
    (product 9 (unsub_byte s))
    → word_bytes p2 ≡ spread 1 (product 14 (unsub_byte t)) (product 11 (unsub_byte t)) (product 13 (unsub_byte t))
    (product 9 (unsub_byte t))
    → word_bytes p3 ≡ spread 2 (product 14 (unsub_byte u)) (product 11 (unsub_byte u)) (product 13 (unsub_byte u))
    (product 9 (unsub_byte u))
    → word_bytes p4 ≡ spread 3 (product 14 (unsub_byte v)) (product 11 (unsub_byte v)) (product 13 (unsub_byte v))
    (product 9 (unsub_byte v))
    → word_bytes (bit_xor (bit_xor (bit_xor p1 p2) p3) p4) ≡ unmixed a b c d
unmix_word_of p1 p2 p3 p4 s t u v a b c d e f g h e1 e2 e3 e4 =
    rw (← e, ← f, ← g, ← h) (unmixed_of_parts p1 p2 p3 p4 _ _ _ _ e1 e2 e3 e4)

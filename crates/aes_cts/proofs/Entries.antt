-- What the tables hold: each rule is a test that the checker computes over the whole table, and a lemma that turns the
-- test into the rule at each entry.
use Rattle.std.proofs.Common.{◌≡◌, ℕ, ◌+◌, ◌*◌, ◌/◌, ◌%◌, ◌<◌, ◌∷◌, [], List, Bool, true, false}
use Rattle.std.proofs.Common.{nat_eq, nat_lt, ◌&&◌, slice_index, refl, ap, sym, ◌∙◌, arith}
use Rattle.std.proofs.lemmas.Bool.{agree_below, agree_below_at, eqb-true, ltb-true, and_parts, false≢true}
use Rattle.aes_cts.specs.declared.tables.TheConstants.{SBOX, INVERSE_SBOX, ENCRYPT, DECRYPT}
use Rattle.aes_cts.specs.Field.{times_x, times_power, partial_product, product}
use Rattle.aes_cts.specs.Field.{inverse_from, inverse, affine_bit, affine_bits, sub_byte}
use Rattle.aes_cts.specs.Inverse.{unaffine_bit, unaffine_bits, unsub_byte}
use Rattle.aes_cts.specs.Words.{word_bytes, spread}

-- two lists of numbers are one
unfoldable pub same_bytes : List ℕ → List ℕ → Bool
same_bytes [] [] = true
same_bytes [] (y ∷ ys) = false
same_bytes (x ∷ xs) [] = false
same_bytes (x ∷ xs) (y ∷ ys) = nat_eq x y && same_bytes xs ys

pub same_bytes-true : (xs ys : List ℕ) → same_bytes xs ys ≡ true → xs ≡ ys
unfolding same_bytes
same_bytes-true [] [] h = refl
same_bytes-true [] (y ∷ ys) h = absurd (false≢true h)
same_bytes-true (x ∷ xs) [] h = absurd (false≢true h)
same_bytes-true (x ∷ xs) (y ∷ ys) h =
    let parts = and_parts (nat_eq x y) (same_bytes xs ys) h in
    let e = eqb-true x y parts.0 in
    let f = same_bytes-true xs ys parts.1 in
    cc

sbox_test : agree_below (λ a. nat_eq (slice_index SBOX a) (sub_byte a)) (λ _. true) 256 ≡ true
unfolding times_x times_power partial_product product inverse_from inverse affine_bit affine_bits sub_byte
sbox_test = refl

pub sbox-sub_byte : (a : ℕ) → a < 256 → slice_index SBOX a ≡ sub_byte a
sbox-sub_byte a lt = eqb-true _ _
    (agree_below_at (λ (x : ℕ). nat_eq (slice_index SBOX x) (sub_byte x)) (λ (x : ℕ). true) 256 a sbox_test lt)

inverse_test : agree_below (λ a. nat_eq (slice_index INVERSE_SBOX a) (unsub_byte a)) (λ _. true) 256 ≡ true
unfolding times_x times_power partial_product product inverse_from inverse unaffine_bit unaffine_bits unsub_byte
inverse_test = refl

pub sbox-unsub_byte : (a : ℕ) → a < 256 → slice_index INVERSE_SBOX a ≡ unsub_byte a
sbox-unsub_byte a lt = eqb-true _ _ (agree_below_at (λ (x : ℕ). nat_eq (slice_index INVERSE_SBOX x) (unsub_byte x))
    (λ (x : ℕ). true) 256 a inverse_test lt)

-- what an entry of the table of encryption has to be, by the S-box's table
encrypt_entry : ℕ → ℕ → List ℕ
encrypt_entry row s = spread row (product 2 s) (product 3 s) s s

decrypt_entry : ℕ → ℕ → List ℕ
decrypt_entry row s = spread row (product 14 s) (product 11 s) (product 13 s) (product 9 s)

encrypt_test : agree_below (λ i. same_bytes (word_bytes (slice_index ENCRYPT i))
    (encrypt_entry (i / 256) (slice_index SBOX (i % 256)))) (λ _. true) 1024 ≡ true
unfolding times_x times_power partial_product product same_bytes word_bytes encrypt_entry spread
encrypt_test = refl

decrypt_test : agree_below (λ i. same_bytes (word_bytes (slice_index DECRYPT i))
    (decrypt_entry (i / 256) (slice_index INVERSE_SBOX (i % 256)))) (λ _. true) 1024 ≡ true
unfolding times_x times_power partial_product product same_bytes word_bytes decrypt_entry spread
decrypt_test = refl

encrypt_at : (i : ℕ) → i < 1024
    → word_bytes (slice_index ENCRYPT i) ≡ encrypt_entry (i / 256) (slice_index SBOX (i % 256))
encrypt_at i lt =
    same_bytes-true _ _ (agree_below_at (λ (x : ℕ). same_bytes (word_bytes (slice_index ENCRYPT x))
    (encrypt_entry (x / 256) (slice_index SBOX (x % 256)))) (λ (x : ℕ). true) 1024 i encrypt_test lt)

decrypt_at : (i : ℕ) → i < 1024
    → word_bytes (slice_index DECRYPT i) ≡ decrypt_entry (i / 256) (slice_index INVERSE_SBOX (i % 256))
decrypt_at i lt =
    same_bytes-true _ _ (agree_below_at (λ (x : ℕ). same_bytes (word_bytes (slice_index DECRYPT x))
    (decrypt_entry (x / 256) (slice_index INVERSE_SBOX (x % 256)))) (λ (x : ℕ). true) 1024 i decrypt_test lt)

pub encrypt_part : (row byte : ℕ) → row < 4 → byte < 256 → word_bytes (slice_index ENCRYPT (256 * row + byte))
    ≡ spread row (product 2 (sub_byte byte)) (product 3 (sub_byte byte)) (sub_byte byte) (sub_byte byte)
unfolding encrypt_entry
encrypt_part row byte below fits =
    let r : (256 * row + byte) / 256 ≡ row = omega arith in
    let b : (256 * row + byte) % 256 ≡ byte = omega arith in
    let s : slice_index SBOX byte ≡ sub_byte byte = sbox-sub_byte byte fits in
    let e = encrypt_at (256 * row + byte) (omega arith) in
    let f = rw (r, b, s) at e in
    f

pub decrypt_part : (row byte : ℕ) → row < 4
    → byte < 256 → word_bytes (slice_index DECRYPT (256 * row + byte)) ≡ spread row (product 14 (unsub_byte byte))
    (product 11 (unsub_byte byte)) (product 13 (unsub_byte byte)) (product 9 (unsub_byte byte))
unfolding decrypt_entry
decrypt_part row byte below fits =
    let r : (256 * row + byte) / 256 ≡ row = omega arith in
    let b : (256 * row + byte) % 256 ≡ byte = omega arith in
    let s : slice_index INVERSE_SBOX byte ≡ unsub_byte byte = sbox-unsub_byte byte fits in
    let e = decrypt_at (256 * row + byte) (omega arith) in
    let f = rw (r, b, s) at e in
    f

unsub_test : agree_below (λ a.
    nat_eq (slice_index INVERSE_SBOX (slice_index SBOX a)) a && nat_lt (slice_index SBOX a) 256) (λ _. true) 256 ≡ true
unsub_test = refl

sub_test : agree_below (λ a. nat_eq (slice_index SBOX (slice_index INVERSE_SBOX a)) a
    && nat_lt (slice_index INVERSE_SBOX a) 256) (λ _. true) 256 ≡ true
sub_test = refl

unsub_at : (a : ℕ) → a < 256 → (slice_index INVERSE_SBOX (slice_index SBOX a) ≡ a) × (slice_index SBOX a < 256)
unsub_at a lt =
    let h = and_parts (nat_eq (slice_index INVERSE_SBOX (slice_index SBOX a)) a) (nat_lt (slice_index SBOX a) 256)
    (agree_below_at (λ (x : ℕ). nat_eq (slice_index INVERSE_SBOX (slice_index SBOX x)) x
    && nat_lt (slice_index SBOX x) 256) (λ (x : ℕ). true) 256 a unsub_test lt) in
    (eqb-true _ _ h.0, ltb-true _ _ h.1)

sub_at : (a : ℕ) → a < 256 → (slice_index SBOX (slice_index INVERSE_SBOX a) ≡ a) × (slice_index INVERSE_SBOX a < 256)
sub_at a lt =
    let h =
    and_parts (nat_eq (slice_index SBOX (slice_index INVERSE_SBOX a)) a) (nat_lt (slice_index INVERSE_SBOX a) 256)
    (agree_below_at (λ (x : ℕ). nat_eq (slice_index SBOX (slice_index INVERSE_SBOX x)) x
    && nat_lt (slice_index INVERSE_SBOX x) 256) (λ (x : ℕ). true) 256 a sub_test lt) in
    (eqb-true _ _ h.0, ltb-true _ _ h.1)

pub sub_byte-lt : (a : ℕ) → a < 256 → sub_byte a < 256
sub_byte-lt a lt = rw (← sbox-sub_byte a lt) (unsub_at a lt).1

pub unsub_byte-lt : (a : ℕ) → a < 256 → unsub_byte a < 256
unsub_byte-lt a lt = rw (← sbox-unsub_byte a lt) (sub_at a lt).1

-- the two substitutions undo each other
pub unsub-sub_byte : (a : ℕ) → a < 256 → unsub_byte (sub_byte a) ≡ a
unsub-sub_byte a lt =
    sym (sbox-unsub_byte (sub_byte a) (sub_byte-lt a lt))
    ∙ ap (λ (x : ℕ). slice_index INVERSE_SBOX x) (sym (sbox-sub_byte a lt)) ∙ (unsub_at a lt).0

pub sub-unsub_byte : (a : ℕ) → a < 256 → sub_byte (unsub_byte a) ≡ a
sub-unsub_byte a lt =
    sym (sbox-sub_byte (unsub_byte a) (unsub_byte-lt a lt))
    ∙ ap (λ (x : ℕ). slice_index SBOX x) (sym (sbox-unsub_byte a lt)) ∙ (sub_at a lt).0

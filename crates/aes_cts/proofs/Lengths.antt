-- How long the cipher's values are, at every key of 16 or 32 bytes.
use Rattle.std.proofs.Common.{◌≡◌, ℕ, zero, suc, ◌+◌, ◌-◌, ◌*◌, ◌/◌, ◌%◌, ◌≤◌, ◌⊎◌, List, nat_eq, nat_lt}
use Rattle.std.proofs.Common.{◌&&◌, length, take, drop, replicate, inl, inr, refl, sym, ◌∙◌, arith}
use Rattle.std.proofs.lemmas.Bool.{cond_both}
use Rattle.std.proofs.lemmas.List.{length-append, length-drop, length-take-le, length-map}
use Rattle.aes_cts.specs.Field.{sub_byte}
use Rattle.aes_cts.specs.Cipher.{add_bytes, sub_bytes, below, shift_rows, rot_word, round_constant, turned}
use Rattle.aes_cts.specs.Cipher.{next_word, expand, rounds_of, expanded, round_key, cipher_by, cipher}
use Rattle.aes_cts.specs.Stealing.{cts}
use Rattle.aes_cts.proofs.Sums.{length-add_bytes}
use Rattle.aes_cts.proofs.Relation.{length-stolen}

length-sub_bytes : (b : List ℕ) → length (sub_bytes b) ≡ length b
unfolding sub_bytes
length-sub_bytes b = length-map b sub_byte

length-rot_word : (w : List ℕ) → length w ≡ 4 → length (rot_word w) ≡ 4
unfolding rot_word
length-rot_word w h =
    length-append (drop 1 w) (take 1 w) ∙ omega (arith, length-drop 1 w, length-take-le 1 w (omega arith))

length-round_constant : (j : ℕ) → length (round_constant j) ≡ 4
unfolding round_constant
length-round_constant j = refl

length-start : (w : List ℕ) (j : ℕ) → length w ≡ 4 → length (add_bytes (sub_bytes (rot_word w)) (round_constant j)) ≡ 4
length-start w j h =
    length-add_bytes (sub_bytes (rot_word w)) (round_constant j)
    (length-sub_bytes (rot_word w) ∙ length-rot_word w h ∙ sym (length-round_constant j))
    ∙ length-round_constant j

length-turned : (n i : ℕ) (w : List ℕ) → length w ≡ 4 → length (turned n i w) ≡ 4
unfolding turned
length-turned n i w h =
    let is_four = λ (l : List ℕ). length l ≡ 4 in
    cond_both (nat_eq (i % n) 0) _ _ is_four
    (λ e. length-start w (i / n) h)
    (λ e. cond_both (nat_lt 6 n && nat_eq (i % n) 4) (sub_bytes w) w is_four (λ f. length-sub_bytes w ∙ h) (λ f. h))

length-next_word : (n : ℕ) (bytes : List ℕ) → 1 ≤ n → 4 * n ≤ length bytes → length (next_word n bytes) ≡ 4
unfolding next_word
length-next_word n bytes low le =
    let back : length (take 4 (drop (length bytes - 4 * n) bytes)) ≡ 4 =
    length-take-le 4 (drop (length bytes - 4 * n) bytes) (omega (arith, length-drop (length bytes - 4 * n) bytes)) in
    let last : length (drop (length bytes - 4) bytes) ≡ 4 = length-drop (length bytes - 4) bytes ∙ omega arith in
    let four = length-turned n (length bytes / 4) (drop (length bytes - 4) bytes) last in
    length-add_bytes _ (turned n (length bytes / 4) (drop (length bytes - 4) bytes)) (back ∙ sym four) ∙ four

pub length-expand : (n : ℕ) (key : List ℕ) (more : ℕ) → 1 ≤ n → length key ≡ 4 * n
    → length (expand n key more) ≡ 4 * n + 4 * more
unfolding expand
length-expand n key zero low h = h ∙ omega arith
length-expand n key (suc more) low h =
    let before = length-expand n key more low h in
    length-append (expand n key more) (next_word n (expand n key more))
    ∙ omega (arith, before, length-next_word n (expand n key more) low (omega (arith, before)))

length-round_key : (keys : List ℕ) (r : ℕ) → 16 * r + 16 ≤ length keys → length (round_key keys r) ≡ 16
unfolding round_key
length-round_key keys r le = length-take-le 16 (drop (16 * r) keys) (omega (arith, length-drop (16 * r) keys))

length-last_key : (key : List ℕ) → ((length key ≡ 16) ⊎ (length key ≡ 32))
    → length (round_key (expanded key) (rounds_of key)) ≡ 16
unfolding expanded rounds_of
length-last_key key h =
    let four : length key ≡ 4 * (length key / 4) = elim h [ inl e ↦ omega arith | inr e ↦ omega arith ] in
    let some : 1 ≤ length key / 4 = elim h [ inl e ↦ omega arith | inr e ↦ omega arith ] in
    let n = length-expand (length key / 4) key (4 * (length key / 4 + 6 + 1) - length key / 4) some four in
    length-round_key _ (length key / 4 + 6) (elim h [ inl e ↦ omega (arith, n) | inr e ↦ omega (arith, n) ])

length-shift_rows : (b : List ℕ) → length (shift_rows b) ≡ 16
unfolding shift_rows below
length-shift_rows b = refl

-- a block's encryption is a block
pub length-cipher_at : (key block : List ℕ) → ((length key ≡ 16) ⊎ (length key ≡ 32)) → length (cipher key block) ≡ 16
unfolding cipher cipher_by
length-cipher_at key block h =
    let last = length-last_key key h in
    length-add_bytes _ (round_key (expanded key) (rounds_of key)) (length-shift_rows _ ∙ sym last) ∙ last

-- a text's cipher text is as long as the text
pub length-cts_at : (key text : List ℕ) → ((length key ≡ 16) ⊎ (length key ≡ 32)) → length (cts key text) ≡ length text
unfolding cts
length-cts_at key text h = length-stolen (cipher key) (λ b. length-cipher_at key b h) (replicate 16 0) text

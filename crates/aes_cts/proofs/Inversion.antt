-- The inverse cipher undoes the cipher, and the cipher undoes the inverse cipher.
use Rattle.std.proofs.Common.{◌≡◌, ℕ, zero, suc, ◌+◌, ◌-◌, ◌<◌, ◌≤◌, ◌∷◌, [], List}
use Rattle.std.proofs.Common.{length, map, subst, refl, ap₂, ap, sym, ◌∙◌, arith}
use Rattle.std.proofs.lemmas.List.{length-map}
use Rattle.aes_cts.specs.Field.{sub_byte}
use Rattle.aes_cts.specs.Cipher.{add_bytes, sub_bytes, below, shift_rows, mixed}
use Rattle.aes_cts.specs.Cipher.{mixed_at, mix_columns, round_key, rounds, cipher_by}
use Rattle.aes_cts.specs.Inverse.{unsub_byte, unsub_bytes, unshift_rows, unmixed}
use Rattle.aes_cts.specs.Inverse.{unmixed_at, unmix_columns, unrounds, uncipher_by}
use Rattle.aes_cts.proofs.Entries.{sub_byte-lt, unsub_byte-lt, sub-unsub_byte, unsub-sub_byte}
use Rattle.aes_cts.proofs.Places.{sixteen_reads}
use Rattle.aes_cts.proofs.Words.{four_joined}
use Rattle.aes_cts.proofs.Mixing.{mixed-add_at, unmixed-add_at, mix_unmixed, unmix_mixed, mixed-lt, unmixed-lt}
use Rattle.aes_cts.proofs.Sums.{length-add_bytes, slice_index-add_bytes, add_twice, AreBytes}
use Rattle.aes_cts.proofs.Sums.{byte_at_place, AreBytes-from_places, AreBytes-append, AreBytes-add}

-- a block of bytes
pub record IsBlock (b : List ℕ) : Type 0 where
  pub whole : length b ≡ 16
  pub bytes : AreBytes b

pub block_add : (b k : List ℕ) → IsBlock b → IsBlock k → IsBlock (add_bytes b k)
block_add b k h g =
    record { whole = length-add_bytes b k (h.whole ∙ sym g.whole) ∙ g.whole; bytes = AreBytes-add b k h.bytes g.bytes }

pub add_twice_block : (b k : List ℕ) → IsBlock b → IsBlock k → add_bytes (add_bytes b k) k ≡ b
add_twice_block b k h g = add_twice b k (h.whole ∙ sym g.whole)

-- the substitutions
pub sub-lt : (b : List ℕ) → AreBytes b → AreBytes (map sub_byte b)
sub-lt [] h = tt
sub-lt (x ∷ xs) h = (sub_byte-lt x h.0, sub-lt xs h.1)

unsub-lt : (b : List ℕ) → AreBytes b → AreBytes (map unsub_byte b)
unsub-lt [] h = tt
unsub-lt (x ∷ xs) h = (unsub_byte-lt x h.0, unsub-lt xs h.1)

sub_unsub : (b : List ℕ) → AreBytes b → map sub_byte (map unsub_byte b) ≡ b
sub_unsub [] h = refl
sub_unsub (x ∷ xs) h = ap₂ (λ (p : ℕ) (q : List ℕ). p ∷ q) (sub-unsub_byte x h.0) (sub_unsub xs h.1)

unsub_sub : (b : List ℕ) → AreBytes b → map unsub_byte (map sub_byte b) ≡ b
unsub_sub [] h = refl
unsub_sub (x ∷ xs) h = ap₂ (λ (p : ℕ) (q : List ℕ). p ∷ q) (unsub-sub_byte x h.0) (unsub_sub xs h.1)

block_sub : (b : List ℕ) → IsBlock b → IsBlock (sub_bytes b)
unfolding sub_bytes
block_sub b h = record { whole = length-map b sub_byte ∙ h.whole; bytes = sub-lt b h.bytes }

block_unsub : (b : List ℕ) → IsBlock b → IsBlock (unsub_bytes b)
unfolding unsub_bytes
block_unsub b h = record { whole = length-map b unsub_byte ∙ h.whole; bytes = unsub-lt b h.bytes }

-- the shifts
block_shift : (b : List ℕ) → IsBlock b → IsBlock (shift_rows b)
unfolding shift_rows below
block_shift b h =
    let at = byte_at_place b h.bytes in
    record {
      whole = refl;
      bytes = (
        at 0,
        (
          at 5,
          (
            at 10,
            (
              at 15,
              (at 4, (at 9, (at 14, (at 3, (at 8, (at 13, (at 2, (at 7, (at 12, (at 1, (at 6, (at 11, tt)))))))))))),
            ),
          ),
        ),
      );
    }

block_unshift : (b : List ℕ) → IsBlock b → IsBlock (unshift_rows b)
unfolding unshift_rows below
block_unshift b h =
    let at = byte_at_place b h.bytes in
    record {
      whole = refl;
      bytes = (
        at 0,
        (
          at 13,
          (
            at 10,
            (
              at 7,
              (at 4, (at 1, (at 14, (at 11, (at 8, (at 5, (at 2, (at 15, (at 12, (at 9, (at 6, (at 3, tt)))))))))))),
            ),
          ),
        ),
      );
    }

shift_unshift : (b : List ℕ) → IsBlock b → shift_rows (unshift_rows b) ≡ b
unfolding shift_rows unshift_rows below
shift_unshift b h = sixteen_reads b h.whole

unshift_shift : (b : List ℕ) → IsBlock b → unshift_rows (shift_rows b) ≡ b
unfolding shift_rows unshift_rows below
unshift_shift b h = sixteen_reads b h.whole

-- one column of a block, mixed
column_bytes : (b : List ℕ) → IsBlock b → (i : ℕ) → AreBytes (mixed_at b i)
unfolding mixed_at
column_bytes b h i =
    let at = byte_at_place b h.bytes in
    AreBytes-from_places _ (mixed-lt _ _ _ _ (at i) (at (i + 1)) (at (i + 2)) (at (i + 3)))

uncolumn_bytes : (b : List ℕ) → IsBlock b → (i : ℕ) → AreBytes (unmixed_at b i)
unfolding unmixed_at
uncolumn_bytes b h i =
    let at = byte_at_place b h.bytes in
    AreBytes-from_places _ (unmixed-lt _ _ _ _ (at i) (at (i + 1)) (at (i + 2)) (at (i + 3)))

length-mix : (b : List ℕ) → length (mix_columns b) ≡ 16
unfolding mix_columns mixed_at mixed
length-mix b = refl

length-unmix : (b : List ℕ) → length (unmix_columns b) ≡ 16
unfolding unmix_columns unmixed_at unmixed
length-unmix b = refl

block_mix : (b : List ℕ) → IsBlock b → IsBlock (mix_columns b)
unfolding mix_columns
block_mix b h = record {
  whole = length-mix b;
  bytes = AreBytes-append _ _ (column_bytes b h 0)
      (AreBytes-append _ _ (column_bytes b h 4) (AreBytes-append _ _ (column_bytes b h 8) (column_bytes b h 12)));
}

pub block_unmix : (b : List ℕ) → IsBlock b → IsBlock (unmix_columns b)
unfolding unmix_columns
block_unmix b h = record {
  whole = length-unmix b;
  bytes = AreBytes-append _ _ (uncolumn_bytes b h 0)
      (AreBytes-append _ _ (uncolumn_bytes b h 4) (AreBytes-append _ _ (uncolumn_bytes b h 8) (uncolumn_bytes b h 12)));
}

mix_unmix : (b : List ℕ) → IsBlock b → mix_columns (unmix_columns b) ≡ b
unfolding mix_columns unmix_columns mixed_at unmixed_at unmixed
mix_unmix b h =
    let at = byte_at_place b h.bytes in
    four_joined
    (mix_unmixed _ _ _ _ (at 0) (at 1) (at 2) (at 3)) (mix_unmixed _ _ _ _ (at 4) (at 5) (at 6) (at 7))
    (mix_unmixed _ _ _ _ (at 8) (at 9) (at 10) (at 11)) (mix_unmixed _ _ _ _ (at 12) (at 13) (at 14) (at 15))
    ∙ sixteen_reads b h.whole

unmix_mix : (b : List ℕ) → IsBlock b → unmix_columns (mix_columns b) ≡ b
unfolding mix_columns unmix_columns mixed_at unmixed_at mixed
unmix_mix b h =
    let at = byte_at_place b h.bytes in
    four_joined
    (unmix_mixed _ _ _ _ (at 0) (at 1) (at 2) (at 3)) (unmix_mixed _ _ _ _ (at 4) (at 5) (at 6) (at 7))
    (unmix_mixed _ _ _ _ (at 8) (at 9) (at 10) (at 11)) (unmix_mixed _ _ _ _ (at 12) (at 13) (at 14) (at 15))
    ∙ sixteen_reads b h.whole

mix_add : (b k : List ℕ) → IsBlock b → IsBlock k
    → mix_columns (add_bytes b k) ≡ add_bytes (mix_columns b) (mix_columns k)
unfolding mix_columns mixed_at mixed add_bytes
mix_add b k h g =
    let step = mixed-add_at b k (byte_at_place b h.bytes) (byte_at_place k g.bytes)
    (slice_index-add_bytes b k (h.whole ∙ sym g.whole)) in
    four_joined (step 0) (step 4) (step 8) (step 12)

unmix_add : (b k : List ℕ) → IsBlock b → IsBlock k
    → unmix_columns (add_bytes b k) ≡ add_bytes (unmix_columns b) (unmix_columns k)
unfolding unmix_columns unmixed_at unmixed add_bytes
unmix_add b k h g =
    let step = unmixed-add_at b k (byte_at_place b h.bytes) (byte_at_place k g.bytes)
    (slice_index-add_bytes b k (h.whole ∙ sym g.whole)) in
    four_joined (step 0) (step 4) (step 8) (step 12)

-- a substitution of each byte and a move of the rows change places
unsub_shift : (b : List ℕ) → length b ≡ 16 → unsub_bytes (shift_rows b) ≡ shift_rows (unsub_bytes b)
unfolding unsub_bytes shift_rows below
unsub_shift b h =
    subst (λ (x : List ℕ). unsub_bytes (shift_rows x) ≡ shift_rows (unsub_bytes x)) (sixteen_reads b h) refl

sub_unshift : (b : List ℕ) → length b ≡ 16 → sub_bytes (unshift_rows b) ≡ unshift_rows (sub_bytes b)
unfolding sub_bytes unshift_rows below
sub_unshift b h =
    subst (λ (x : List ℕ). sub_bytes (unshift_rows x) ≡ unshift_rows (sub_bytes x)) (sixteen_reads b h) refl

-- SubBytes with ShiftRows, and InvSubBytes with InvShiftRows
abbrev mingled : List ℕ → List ℕ
mingled b = shift_rows (sub_bytes b)

abbrev unmingled : List ℕ → List ℕ
unmingled b = unshift_rows (unsub_bytes b)

block_mingled : (b : List ℕ) → IsBlock b → IsBlock (mingled b)
block_mingled b h = block_shift (sub_bytes b) (block_sub b h)

block_unmingled : (b : List ℕ) → IsBlock b → IsBlock (unmingled b)
block_unmingled b h = block_unshift (unsub_bytes b) (block_unsub b h)

unsub_sub_bytes : (b : List ℕ) → IsBlock b → unsub_bytes (sub_bytes b) ≡ b
unfolding sub_bytes unsub_bytes
unsub_sub_bytes b h = unsub_sub b h.bytes

sub_unsub_bytes : (b : List ℕ) → IsBlock b → sub_bytes (unsub_bytes b) ≡ b
unfolding sub_bytes unsub_bytes
sub_unsub_bytes b h = sub_unsub b h.bytes

unmingled_mingled : (b : List ℕ) → IsBlock b → unmingled (mingled b) ≡ b
unmingled_mingled b h =
    ap unshift_rows (unsub_shift (sub_bytes b) (block_sub b h).whole ∙ ap shift_rows (unsub_sub_bytes b h))
    ∙ unshift_shift b h

mingled_unmingled : (b : List ℕ) → IsBlock b → mingled (unmingled b) ≡ b
mingled_unmingled b h =
    ap shift_rows (sub_unshift (unsub_bytes b) (block_unsub b h).whole ∙ ap unshift_rows (sub_unsub_bytes b h))
    ∙ shift_unshift b h

-- the round keys of encryption are blocks, and those of decryption are what undoes them
pub record IsUndone (keys undo : List ℕ) (n : ℕ) : Type 0 where
  pub some : 1 ≤ n
  pub blocks : (r : ℕ) → r ≤ n → IsBlock (round_key keys r)
  pub first : round_key undo 0 ≡ round_key keys n
  pub last : round_key undo n ≡ round_key keys 0
  pub inner : (r : ℕ) → 1 ≤ r → r < n → round_key undo r ≡ unmix_columns (round_key keys (n - r))

block_rounds : (keys undo : List ℕ) (n : ℕ) → IsUndone keys undo n → (b : List ℕ) → IsBlock b → (r : ℕ) → r ≤ n
    → IsBlock (rounds keys b r)
unfolding rounds
block_rounds keys undo n u b h zero le = block_add b (round_key keys 0) h (u.blocks 0 (omega arith))
block_rounds keys undo n u b h (suc r) le =
    block_add _ (round_key keys (suc r))
    (block_mix _ (block_mingled _ (block_rounds keys undo n u b h r (omega arith)))) (u.blocks (suc r) le)

block_undo_key : (keys undo : List ℕ) (n : ℕ) → IsUndone keys undo n → (r : ℕ) → r < n → IsBlock (round_key undo r)
block_undo_key keys undo n u zero lt = rw u.first (u.blocks n (omega arith))
block_undo_key keys undo n u (suc r) lt =
    rw (u.inner (suc r) (omega arith) lt) (block_unmix _ (u.blocks (n - suc r) (omega arith)))

block_unrounds : (keys undo : List ℕ) (n : ℕ) → IsUndone keys undo n → (b : List ℕ) → IsBlock b → (r : ℕ) → r < n
    → IsBlock (unrounds undo b r)
unfolding unrounds
block_unrounds keys undo n u b h zero lt = block_add b (round_key undo 0) h (block_undo_key keys undo n u 0 lt)
block_unrounds keys undo n u b h (suc r) lt =
    block_add _ (round_key undo (suc r))
    (block_unmix _ (block_unmingled _ (block_unrounds keys undo n u b h r (omega arith))))
    (block_undo_key keys undo n u (suc r) lt)

pub block_cipher : (keys undo : List ℕ) (n : ℕ) → IsUndone keys undo n → (b : List ℕ) → IsBlock b
    → IsBlock (cipher_by keys n b)
unfolding cipher_by
block_cipher keys undo n u b h =
    block_add _ (round_key keys n) (block_mingled _ (block_rounds keys undo n u b h (n - 1) (omega arith)))
    (u.blocks n (omega arith))

pub block_uncipher : (keys undo : List ℕ) (n : ℕ) → IsUndone keys undo n → (b : List ℕ) → IsBlock b
    → IsBlock (uncipher_by undo n b)
unfolding uncipher_by
block_uncipher keys undo n u b h =
    rw u.last (block_add _ (round_key keys 0)
    (block_unmingled _ (block_unrounds keys undo n u b h (n - 1) (omega (arith, u.some)))) (u.blocks 0 (omega arith)))

-- an inner round undone
undone_round : (s k : List ℕ) → IsBlock s → IsBlock k
    → add_bytes (unmix_columns (add_bytes (mix_columns s) k)) (unmix_columns k) ≡ s
undone_round s k h g =
    ap (λ (x : List ℕ). add_bytes x (unmix_columns k))
    (unmix_add (mix_columns s) k (block_mix s h) g ∙ ap (λ (x : List ℕ). add_bytes x (unmix_columns k)) (unmix_mix s h))
    ∙ add_twice_block s (unmix_columns k) h (block_unmix k g)

redone_round : (s k : List ℕ) → IsBlock s → IsBlock k
    → add_bytes (mix_columns (add_bytes (unmix_columns s) (unmix_columns k))) k ≡ s
redone_round s k h g =
    ap (λ (x : List ℕ). add_bytes x k) (mix_add (unmix_columns s) (unmix_columns k) (block_unmix s h) (block_unmix k g)
    ∙ ap₂ add_bytes (mix_unmix s h) (mix_unmix k g))
    ∙ add_twice_block s k h g

-- decryption after encryption: after r rounds its state is what encryption had before its last r rounds
undone_state : (keys undo : List ℕ) (n : ℕ) → IsUndone keys undo n → (b : List ℕ) → IsBlock b → (r : ℕ) → r < n
    → unrounds undo (cipher_by keys n b) r ≡ mingled (rounds keys b (n - 1 - r))
unfolding unrounds cipher_by rounds
undone_state keys undo n u b h zero lt =
    let z : n - 1 - 0 ≡ n - 1 = omega arith in
    rw (u.first, z) (add_twice_block (mingled (rounds keys b (n - 1))) (round_key keys n)
    (block_mingled _ (block_rounds keys undo n u b h (n - 1) (omega arith))) (u.blocks n (omega arith)))
undone_state keys undo n u b h (suc r) lt =
    let m : n - 1 - r ≡ suc (n - 1 - suc r) = omega arith in
    let k : n - suc r ≡ suc (n - 1 - suc r) = omega arith in
    let s = rounds keys b (n - 1 - suc r) in
    let hs = block_rounds keys undo n u b h (n - 1 - suc r) (omega arith) in
    let hn = block_rounds keys undo n u b h (suc (n - 1 - suc r)) (omega arith) in
    let before : unrounds undo (cipher_by keys n b) r ≡ mingled (rounds keys b (suc (n - 1 - suc r))) =
    undone_state keys undo n u b h r (omega arith) ∙ ap (λ (x : ℕ). mingled (rounds keys b x)) m in
    let key : round_key undo (suc r) ≡ unmix_columns (round_key keys (suc (n - 1 - suc r))) =
    u.inner (suc r) (omega arith) lt ∙ ap (λ (x : ℕ). unmix_columns (round_key keys x)) k in
    ap₂ (λ (x y : List ℕ). add_bytes (unmix_columns x) y) (ap unmingled before ∙ unmingled_mingled _ hn) key
    ∙ undone_round (mingled s) (round_key keys (suc (n - 1 - suc r))) (block_mingled s hs)
    (u.blocks (suc (n - 1 - suc r)) (omega arith))

pub uncipher_cipher : (keys undo : List ℕ) (n : ℕ) → IsUndone keys undo n → (b : List ℕ) → IsBlock b
    → uncipher_by undo n (cipher_by keys n b) ≡ b
unfolding uncipher_by rounds
uncipher_cipher keys undo n u b h =
    let z : n - 1 - (n - 1) ≡ 0 = omega arith in
    let state : unrounds undo (cipher_by keys n b) (n - 1) ≡ mingled (rounds keys b 0) =
    undone_state keys undo n u b h (n - 1) (omega (arith, u.some)) ∙ ap (λ (x : ℕ). mingled (rounds keys b x)) z in
    ap₂ add_bytes (ap unmingled state ∙ unmingled_mingled _ (block_rounds keys undo n u b h 0 (omega arith))) u.last
    ∙ add_twice_block b (round_key keys 0) h (u.blocks 0 (omega arith))

-- encryption after decryption, likewise
redone_state : (keys undo : List ℕ) (n : ℕ) → IsUndone keys undo n → (b : List ℕ) → IsBlock b → (r : ℕ) → r < n
    → rounds keys (uncipher_by undo n b) r ≡ unmingled (unrounds undo b (n - 1 - r))
unfolding rounds uncipher_by unrounds
redone_state keys undo n u b h zero lt =
    let z : n - 1 - 0 ≡ n - 1 = omega arith in
    rw (u.last, z) (add_twice_block (unmingled (unrounds undo b (n - 1))) (round_key keys 0)
    (block_unmingled _ (block_unrounds keys undo n u b h (n - 1) (omega arith))) (u.blocks 0 (omega arith)))
redone_state keys undo n u b h (suc r) lt =
    let m : n - 1 - r ≡ suc (n - 1 - suc r) = omega arith in
    let k : n - suc (n - 1 - suc r) ≡ suc r = omega arith in
    let s = unrounds undo b (n - 1 - suc r) in
    let hs = block_unrounds keys undo n u b h (n - 1 - suc r) (omega arith) in
    let hn = block_unrounds keys undo n u b h (suc (n - 1 - suc r)) (omega arith) in
    let key : round_key undo (suc (n - 1 - suc r)) ≡ unmix_columns (round_key keys (suc r)) =
    u.inner (suc (n - 1 - suc r)) (omega arith) (omega arith) ∙ ap (λ (x : ℕ). unmix_columns (round_key keys x)) k in
    let before : rounds keys (uncipher_by undo n b) r ≡ unmingled (unrounds undo b (suc (n - 1 - suc r))) =
    redone_state keys undo n u b h r (omega arith) ∙ ap (λ (x : ℕ). unmingled (unrounds undo b x)) m in
    ap (λ (x : List ℕ). add_bytes (mix_columns x) (round_key keys (suc r)))
    (ap mingled before ∙ mingled_unmingled _ hn ∙ ap (λ (x : List ℕ). add_bytes (unmix_columns (unmingled s)) x) key)
    ∙ redone_round (unmingled s) (round_key keys (suc r)) (block_unmingled s hs) (u.blocks (suc r) (omega arith))

pub cipher_uncipher : (keys undo : List ℕ) (n : ℕ) → IsUndone keys undo n → (b : List ℕ) → IsBlock b
    → cipher_by keys n (uncipher_by undo n b) ≡ b
unfolding cipher_by unrounds
cipher_uncipher keys undo n u b h =
    let z : n - 1 - (n - 1) ≡ 0 = omega arith in
    let state : rounds keys (uncipher_by undo n b) (n - 1) ≡ unmingled (unrounds undo b 0) =
    redone_state keys undo n u b h (n - 1) (omega (arith, u.some)) ∙ ap (λ (x : ℕ). unmingled (unrounds undo b x)) z in
    let h0 = block_unrounds keys undo n u b h 0 (omega (arith, u.some)) in
    ap₂ add_bytes (ap mingled state ∙ mingled_unmingled _ h0) (sym u.first)
    ∙ add_twice_block b (round_key undo 0) h (block_undo_key keys undo n u 0 (omega (arith, u.some)))

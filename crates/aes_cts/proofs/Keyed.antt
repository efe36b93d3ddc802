-- Ciphertext stealing under a key, by the key's schedules.
use Rattle.std.proofs.Common.{◌≡◌, ℕ, ◌+◌, ◌*◌, ◌≤◌, List, length, take, replicate, refl, ap, sym, ◌∙◌, arith}
use Rattle.aes_cts.specs.Cipher.{below, shift_rows, round_key, cipher_by, cipher}
use Rattle.aes_cts.specs.Inverse.{uncipher_by}
use Rattle.aes_cts.specs.Stealing.{stolen, cts}
use Rattle.aes_cts.specs.Words.{schedule_bytes, AreSchedules}
use Rattle.aes_cts.specs.Steps.{blocks_before_end, steal, return}
use Rattle.aes_cts.proofs.Sums.{length-add_bytes, AreBytes}
use Rattle.aes_cts.proofs.Inversion.{IsBlock, block_cipher, block_uncipher, cipher_uncipher, uncipher_cipher}
use Rattle.aes_cts.proofs.Expansion.{cipher_of, undone_of}
use Rattle.aes_cts.proofs.Returning.{AreInverse, block_of_zeros, steal_return, return_steal}
use Rattle.aes_cts.proofs.Relation.{stolen_pass, length-stolen}

length-shift_rows : (b : List ℕ) → length (shift_rows b) ≡ 16
unfolding shift_rows below
length-shift_rows b = refl

length-cipher : (keys block : List ℕ) (n : ℕ) → IsBlock (round_key keys n) → length (cipher_by keys n block) ≡ 16
unfolding cipher_by
length-cipher keys block n h = length-add_bytes _ (round_key keys n) (length-shift_rows _ ∙ sym h.whole) ∙ h.whole

-- one cipher, by the schedule and by the key
one_cipher : (stride : ℕ) (keys undo : List (List ℕ)) (key : List ℕ) → 1 ≤ stride → AreSchedules stride keys undo
    → schedule_bytes (take stride keys) ≡ key → cipher_by (schedule_bytes keys) (4 * stride + 6) ≡ cipher key
one_cipher stride keys undo key low held is = λ i b. cipher_of stride keys undo key b low held is i

long_cipher : (stride : ℕ) (keys undo : List (List ℕ)) → AreSchedules stride keys undo → (b : List ℕ)
    → length (cipher_by (schedule_bytes keys) (4 * stride + 6) b) ≡ 16
long_cipher stride keys undo held b =
    let u = undone_of stride keys undo held in
    length-cipher (schedule_bytes keys) b (4 * stride + 6) (u.blocks (4 * stride + 6) (omega arith))

pub cts_of : (stride : ℕ) (keys undo : List (List ℕ)) (key text : List ℕ) → 1 ≤ stride → AreSchedules stride keys undo
    → schedule_bytes (take stride keys) ≡ key → 16 ≤ length text
    → steal (blocks_before_end (length text)) (cipher_by (schedule_bytes keys) (4 * stride + 6)) (replicate 16 0) text
    ≡ cts key text
unfolding cts
cts_of stride keys undo key text low held is long =
    sym (stolen_pass (cipher_by (schedule_bytes keys) (4 * stride + 6)) (long_cipher stride keys undo held)
    (replicate 16 0) text long)
    ∙ ap (λ (e : List ℕ → List ℕ). stolen e (replicate 16 0) text) (one_cipher stride keys undo key low held is)

pub length-cts : (stride : ℕ) (keys undo : List (List ℕ)) (key text : List ℕ) → 1 ≤ stride
    → AreSchedules stride keys undo
    → schedule_bytes (take stride keys) ≡ key → length (cts key text) ≡ length text
unfolding cts
length-cts stride keys undo key text low held is =
    ap (λ (e : List ℕ → List ℕ). length (stolen e (replicate 16 0) text))
    (sym (one_cipher stride keys undo key low held is))
    ∙ length-stolen (cipher_by (schedule_bytes keys) (4 * stride + 6)) (long_cipher stride keys undo held)
    (replicate 16 0) text

inverse_of : (stride : ℕ) (keys undo : List (List ℕ)) → AreSchedules stride keys undo
    → AreInverse (cipher_by (schedule_bytes keys) (4 * stride + 6)) (uncipher_by (schedule_bytes undo) (4 * stride + 6))
inverse_of stride keys undo held =
    let u = undone_of stride keys undo held in
    record {
      to_block = block_cipher (schedule_bytes keys) (schedule_bytes undo) (4 * stride + 6) u;
      from_block = block_uncipher (schedule_bytes keys) (schedule_bytes undo) (4 * stride + 6) u;
      there = cipher_uncipher (schedule_bytes keys) (schedule_bytes undo) (4 * stride + 6) u;
      back = uncipher_cipher (schedule_bytes keys) (schedule_bytes undo) (4 * stride + 6) u;
    }

-- how many blocks stand before the end
pub before_low : (n : ℕ) → 16 ≤ n → 16 * blocks_before_end n + 16 ≤ n
unfolding blocks_before_end
before_low n low = omega arith

pub before_high : (n : ℕ) → n ≤ 16 * blocks_before_end n + 32
unfolding blocks_before_end
before_high n = omega arith

-- what decryption leaves is the one text whose cipher text was given
pub returned_is : (stride : ℕ) (keys undo : List (List ℕ)) (key old new : List ℕ) → 1 ≤ stride
    → AreSchedules stride keys undo
    → schedule_bytes (take stride keys) ≡ key → AreBytes old → 16 ≤ length old → length new ≡ length old
    → new ≡ return (blocks_before_end (length old)) (uncipher_by (schedule_bytes undo) (4 * stride + 6))
    (replicate 16 0) old
    → cts key new ≡ old
returned_is stride keys undo key old new low held is bytes long same e =
    let n = blocks_before_end (length old) in
    let c = cipher_by (schedule_bytes keys) (4 * stride + 6) in
    sym (cts_of stride keys undo key new low held is (omega arith))
    ∙ ap (λ (m : ℕ). steal (blocks_before_end m) c (replicate 16 0) new) same
    ∙ ap (steal n c (replicate 16 0)) e
    ∙ steal_return c (uncipher_by (schedule_bytes undo) (4 * stride + 6)) (inverse_of stride keys undo held) n
    (replicate 16 0) old
    block_of_zeros bytes (before_low (length old) long) (before_high (length old))

pub returned_only : (stride : ℕ) (keys undo : List (List ℕ)) (key old new other : List ℕ) → 1 ≤ stride
    → AreSchedules stride keys undo
    → schedule_bytes (take stride keys) ≡ key → 16 ≤ length old
    → new ≡ return (blocks_before_end (length old)) (uncipher_by (schedule_bytes undo) (4 * stride + 6))
    (replicate 16 0) old
    → AreBytes other → cts key other ≡ old → other ≡ new
returned_only stride keys undo key old new other low held is long e bytes f =
    let n = blocks_before_end (length old) in
    let c = cipher_by (schedule_bytes keys) (4 * stride + 6) in
    let d = uncipher_by (schedule_bytes undo) (4 * stride + 6) in
    let same : length other ≡ length old = sym (length-cts stride keys undo key other low held is) ∙ ap length f in
    let steps : steal n c (replicate 16 0) other ≡ old =
    ap (λ (m : ℕ). steal (blocks_before_end m) c (replicate 16 0) other) (sym same)
    ∙ cts_of stride keys undo key other low held is (omega arith) ∙ f in
    let there : 16 * n + 16 ≤ length other = rw same (before_low (length old) long) in
    let within : length other ≤ 16 * n + 32 = rw same (before_high (length old)) in
    sym (return_steal c d (inverse_of stride keys undo held) n (replicate 16 0) other block_of_zeros bytes there within)
    ∙ ap (return n d (replicate 16 0)) steps ∙ sym e

-- Round keys as words and as bytes, and the steps of the loops over them.
use Rattle.std.proofs.Common.{◌≡◌, ℕ, zero, suc, ◌+◌, ◌-◌, ◌*◌, ◌<◌, ◌≤◌, ◌∷◌}
use Rattle.std.proofs.Common.{[], List, length, slice_index_or, refl, arith}
use Rattle.std.proofs.lemmas.List.{drop-drop}
use Rattle.aes_cts.specs.Cipher.{add_bytes, sub_bytes, shift_rows, mix_columns, round_key, rounds, cipher_by}
use Rattle.aes_cts.specs.Inverse.{unsub_bytes, unshift_rows, unmix_columns, unrounds, uncipher_by}
use Rattle.aes_cts.specs.Words.{word_bytes, block_of, schedule_bytes}

-- round key r of a schedule of words
pub schedule_key : (keys : List (List ℕ)) (r : ℕ) (d : List ℕ) → r < length keys
    → round_key (schedule_bytes keys) r ≡ block_of (slice_index_or keys r d)
unfolding round_key schedule_bytes block_of word_bytes
schedule_key [] r d lt = absurd (omega arith)
schedule_key (k ∷ ks) zero d lt = refl
schedule_key (k ∷ ks) (suc r) d lt =
    let e : 16 * suc r ≡ 16 + 16 * r = omega arith in
    rw (e, ← drop-drop (16 * r) 16 (schedule_bytes (k ∷ ks))) (schedule_key ks r d (omega arith))

pub rounds_first : (keys : List (List ℕ)) (d s state : List ℕ) → 0 < length keys
    → state ≡ add_bytes s (block_of (slice_index_or keys 0 d)) → state ≡ rounds (schedule_bytes keys) s 0
unfolding rounds
rounds_first keys d s state lt e = rw (schedule_key keys 0 d lt) e

pub rounds_next : (keys : List (List ℕ)) (d s state next : List ℕ) (r : ℕ) → 1 ≤ r → r < length keys
    → state ≡ rounds (schedule_bytes keys) s (r - 1)
    → next ≡ add_bytes (mix_columns (shift_rows (sub_bytes state))) (block_of (slice_index_or keys r d))
    → next ≡ rounds (schedule_bytes keys) s (r + 1 - 1)
unfolding rounds
rounds_next keys d s state next zero low lt e f = absurd (omega arith)
rounds_next keys d s state next (suc r) low lt e f =
    let i : suc r - 1 ≡ r = omega arith in
    let j : suc r + 1 - 1 ≡ suc r = omega arith in
    let e' = rw i at e in
    rw (j, schedule_key keys (suc r) d lt, ← e') f

pub rounds_last : (keys : List (List ℕ)) (d s state last : List ℕ) (r n : ℕ) → 1 ≤ n → n < length keys → r ≡ n
    → state ≡ rounds (schedule_bytes keys) s (r - 1)
    → last ≡ add_bytes (shift_rows (sub_bytes state)) (block_of (slice_index_or keys n d))
    → last ≡ cipher_by (schedule_bytes keys) n s
unfolding cipher_by
rounds_last keys d s state last r n low lt same e f = rw (schedule_key keys n d lt, ← same, ← e) (rw same f)

pub unrounds_first : (keys : List (List ℕ)) (d s state : List ℕ) → 0 < length keys
    → state ≡ add_bytes s (block_of (slice_index_or keys 0 d)) → state ≡ unrounds (schedule_bytes keys) s 0
unfolding unrounds
unrounds_first keys d s state lt e = rw (schedule_key keys 0 d lt) e

pub unrounds_next : (keys : List (List ℕ)) (d s state next : List ℕ) (r : ℕ) → 1 ≤ r → r < length keys
    → state ≡ unrounds (schedule_bytes keys) s (r - 1)
    → next ≡ add_bytes (unmix_columns (unshift_rows (unsub_bytes state))) (block_of (slice_index_or keys r d))
    → next ≡ unrounds (schedule_bytes keys) s (r + 1 - 1)
unfolding unrounds
unrounds_next keys d s state next zero low lt e f = absurd (omega arith)
unrounds_next keys d s state next (suc r) low lt e f =
    let i : suc r - 1 ≡ r = omega arith in
    let j : suc r + 1 - 1 ≡ suc r = omega arith in
    let e' = rw i at e in
    rw (j, schedule_key keys (suc r) d lt, ← e') f

pub unrounds_last : (keys : List (List ℕ)) (d s state last : List ℕ) (r n : ℕ) → 1 ≤ n → n < length keys → r ≡ n
    → state ≡ unrounds (schedule_bytes keys) s (r - 1)
    → last ≡ add_bytes (unshift_rows (unsub_bytes state)) (block_of (slice_index_or keys n d))
    → last ≡ uncipher_by (schedule_bytes keys) n s
unfolding uncipher_by
unrounds_last keys d s state last r n low lt same e f = rw (schedule_key keys n d lt, ← same, ← e) (rw same f)

-- Lemmas on a key as one block.
use Rattle.std.proofs.Common.{◌≡◌, ℕ, ◌+◌, ◌-◌, ◌≤◌, true, false, List, ◌++◌, ◌∙◌, ap}
use Rattle.std.proofs.Common.{refl, length, take, drop, replicate, nat_lt, arith}
use Rattle.std.proofs.lemmas.List.{drop-replicate, take-replicate}
use Rattle.std.proofs.Math.Seq.{take-append-add}
use Rattle.krb_hmac.specs.Hmac.{key_block, short_key}

-- a text written over the front of zeros
pub over_zeros : (written text : List ℕ) (len room : ℕ) → written ≡ text → length text ≤ len → len ≤ room →
    take len (written ++ drop (length text) (replicate room 0)) ≡ text ++ replicate (len - length text) 0
over_zeros written text len room same fits short =
    let total : length text + (len - length text) ≡ len = omega arith in
    let zeros : take (len - length text) (drop (length text) (replicate room 0)) ≡ replicate (len - length text) 0 =
    ap (take (len - length text)) (drop-replicate (length text) room 0)
    ∙ take-replicate (len - length text) (room - length text) 0 (omega arith) in
    ap (λ (front : List ℕ). take len (front ++ drop (length text) (replicate room 0))) same
    ∙ rw total at (take-append-add text (drop (length text) (replicate room 0)) (len - length text))
    ∙ ap (λ (back : List ℕ). text ++ back) zeros

pub long_key : (hash : List ℕ → List ℕ) (block : ℕ) (key : List ℕ) → nat_lt block (length key) ≡ true →
    key_block hash block key ≡ hash key ++ replicate (block - length (hash key)) 0
unfolding key_block short_key
long_key hash block key long = rw long refl

pub whole_key : (hash : List ℕ → List ℕ) (block : ℕ) (key : List ℕ) → nat_lt block (length key) ≡ false →
    key_block hash block key ≡ key ++ replicate (block - length key) 0
unfolding key_block short_key
whole_key hash block key short = rw short refl

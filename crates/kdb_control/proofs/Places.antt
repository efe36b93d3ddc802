-- The bytes of the slots of a control file.
use Rattle.std.proofs.Common.{◌≡◌, ℕ, ◌+◌, ◌-◌, ◌≤◌, List, ◌++◌, length, take, drop}
use Rattle.std.proofs.Common.{refl, sym, ◌∙◌, ap, arith, length-take, take-add}
use Rattle.std.proofs.Math.Seq.{take-append-add}
use Rattle.std.specs.Prelude.{Result, Ok, Err, IfOk}
use Rattle.std.proofs.lemmas.List.{take_all, take-take, drop-take}
use Rattle.std.proofs.lemmas.Slice.{take-put_mid}
use borrow.Rule.Slice.PartMut.{put_mid}
use Rattle.kdb_control.specs.Force.{slot_bytes, slot, newer, in_force}

-- a front is all of the bytes, where no more are asked for
pub slots_front : (at : ℕ) (xs : List ℕ) → at + 64 ≤ 128 → take 64 (drop at (take 128 xs)) ≡ take 64 (drop at xs)
slots_front at xs le =
    let whole : 128 ≡ at + (128 - at) = omega arith in
    ap (λ (k : ℕ). take 64 (drop at (take k xs))) whole ∙ ap (take 64) (drop-take at (128 - at) xs)
    ∙ take-take 64 (128 - at) (drop at xs) (omega arith)

-- the bytes of both slots are all that counts
pub force_front : (xs : List ℕ) → in_force (take 128 xs) ≡ in_force xs
unfolding in_force slot_bytes
force_front xs =
    ap (λ (bytes : List ℕ). newer (slot bytes) (slot (take 64 (drop 64 (take 128 xs)))))
    (slots_front 0 xs (omega arith))
    ∙ ap (λ (bytes : List ℕ). newer (slot (take 64 (drop 0 xs))) (slot bytes)) (slots_front 64 xs (omega arith))

-- one piece more of a file
pub piece_more : (count n : ℕ) (front piece file : List ℕ) → count ≤ length front → n ≤ length piece
    → count + n ≤ length file → take count front ≡ take count file → take n piece ≡ take n (drop count file)
    → take (count + n) (take count front ++ piece) ≡ take (count + n) file
piece_more count n front piece file within long fits so_far more =
    let long : count ≡ length (take count front) = omega (arith, length-take count front) in
    ap (λ (k : ℕ). take (k + n) (take count front ++ piece)) long
    ∙ take-append-add (take count front) piece n
    ∙ ap (λ (l : List ℕ). l ++ take n piece) so_far
    ∙ ap (λ (l : List ℕ). take count file ++ l) more
    ∙ sym (take-add count n file)

pub piece_read : (count n k : ℕ) (front piece file : List ℕ) → count ≤ length front → n ≤ length piece
    → count + n ≤ length file → take count front ≡ take count file → take n piece ≡ take n (drop count file)
    → take (count + n) (put_mid count k front piece) ≡ take (count + n) file
piece_read count n k front piece file within long fits so_far more =
    sym (take-take (count + n) (count + length piece) (put_mid count k front piece) (omega arith))
    ∙ ap (take (count + n)) (take-put_mid count k front piece (count + length piece) refl within)
    ∙ piece_more count n front piece file within long fits so_far more

-- where there is one
pub piece_read_ok : {E : Type 0} (r : Result ℕ E) (count k : ℕ) (front piece file : List ℕ)
    → count ≤ length front → IfOk r (λ n. n ≤ length piece) → IfOk r (λ n. count + n ≤ length file)
    → take count front ≡ take count file → IfOk r (λ n. take n piece ≡ take n (drop count file))
    → IfOk r (λ n. take (count + n) (put_mid count k front piece) ≡ take (count + n) file)
piece_read_ok (Ok n) count k front piece file within few fits so_far more =
    piece_read count n k front piece file within few fits so_far more
piece_read_ok (Err e) count k front piece file within few fits so_far more = tt

-- no more is to be read
pub whole_read : (count n : ℕ) (front file first : List ℕ) → n ≡ 0 → length file ≤ count → count ≤ 128
    → take (count + n) front ≡ take (count + n) file → file ≡ first → take count front ≡ take 128 first
whole_read count n front file first none all fits bytes same =
    let here : count ≡ count + n = omega arith in
    ap (λ (k : ℕ). take k front) here ∙ bytes ∙ take_all (count + n) file (omega arith)
    ∙ sym (take_all 128 file (omega arith)) ∙ ap (take 128) same

pub slot_front : (at : ℕ) (xs : List ℕ) → at + 64 ≤ 128 → slot_bytes at (take 128 xs) ≡ slot_bytes at xs
unfolding slot_bytes
slot_front at xs le = slots_front at xs le

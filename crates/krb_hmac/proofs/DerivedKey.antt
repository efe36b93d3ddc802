-- Lemmas on the rounds and the blocks of PBKDF2.
use Rattle.std.proofs.Common.{◌≡◌, ℕ, suc, ◌+◌, ◌-◌, ◌*◌, ◌<◌, ◌≤◌, inl, inr, List, []}
use Rattle.std.proofs.Common.{◌++◌, ◌∙◌, ap, sym, refl, take, drop, length, min, arith}
use Rattle.std.proofs.lemmas.Bool.{cases_lt}
use Rattle.std.proofs.lemmas.Grind.{div_ceil_times}
use Rattle.std.proofs.lemmas.List.{append-nil, length-append, length-take, length-take-le}
use Rattle.std.proofs.lemmas.List.{take-take, take_all, take_at, take-append-le}
use Rattle.std.proofs.lemmas.List.Folds.{concat-append}
use Rattle.std.proofs.lemmas.List.FromFn.{map-range_with_len_more}
use Rattle.std.proofs.Math.Seq.{take-append-add}
use Rattle.std.proofs.Math.Nat.{lt_of_mul-lt-mul_right}
use Rattle.std.specs.List.{fold}
use Rattle.std.specs.Int.{w32, div_ceil, to_be_bytes}
use Rattle.krb_hmac.specs.Pbkdf2.{chain, xor_bytes, xor_all, block, blocks, pbkdf2_by}

-- a round takes the first of the texts that are left into the sum
pub next_round : (keyed : List ℕ → List ℕ) (last new_last sum new_sum whole : List ℕ) (count i : ℕ) → i < count →
    new_last ≡ keyed (last ++ []) → new_sum ≡ xor_bytes sum new_last →
    fold xor_bytes sum (chain keyed last (count - i)) ≡ whole →
    fold xor_bytes new_sum (chain keyed new_last (count - (i + 1))) ≡ whole
unfolding chain
next_round keyed last new_last sum new_sum whole count i left tagged added so_far =
    let more : count - i ≡ suc (count - (i + 1)) = omega arith in
    let same : new_last ≡ keyed last = rw (append-nil last) at tagged in
    let split : fold xor_bytes (xor_bytes sum (keyed last)) (chain keyed (keyed last) (count - (i + 1))) ≡ whole
    = rw more at so_far in
    rw (added, same) split

-- with no round left, the sum is the block
pub last_round : (keyed : List ℕ → List ℕ) (salt first sum last : List ℕ) (number count i : ℕ) → 1 ≤ count → count ≤ i →
    first ≡ keyed (salt ++ to_be_bytes w32 number) →
    fold xor_bytes sum (chain keyed last (count - i)) ≡ fold xor_bytes first (chain keyed first (count - 1)) →
    sum ≡ block keyed salt count number
unfolding chain xor_all block
last_round keyed salt first sum last number count i counted done tagged so_far =
    let none : count - i ≡ 0 = omega arith in
    let some : count ≡ suc (count - 1) = omega arith in
    let summed : sum ≡ fold xor_bytes first (chain keyed first (count - 1)) = rw none at so_far in
    let text = salt ++ to_be_bytes w32 number in
    let unrolled : xor_all (chain keyed text count) ≡ fold xor_bytes (keyed text) (chain keyed (keyed text) (count - 1))
    = ap (λ (rounds : ℕ). xor_all (chain keyed text rounds)) some in
    summed ∙ rw tagged (sym unrolled)

-- one more block of the derived key
pub blocks-more : (keyed : List ℕ → List ℕ) (salt : List ℕ) (count many number : ℕ) → 1 + many ≡ number →
    blocks keyed salt count (many + 1) ≡ blocks keyed salt count many ++ block keyed salt count number
unfolding blocks
blocks-more keyed salt count many number next =
    rw (map-range_with_len_more (block keyed salt count) 1 many number next, concat-append, append-nil) refl

-- a block written behind `start` bytes, as much of it as there is room for
pub one_more_piece : (into before piece : List ℕ) (start size len : ℕ) → start < len → length into ≡ len
    → length piece ≡ size →
    length before ≡ start → take start into ≡ before →
    take (start + size) (take start into ++ take (len - start) (piece ++ drop size (drop start into)))
    ≡ take len (before ++ piece)
one_more_piece into before piece start size len inside long piece_len before_len same =
    let rest = take (len - start) (piece ++ drop size (drop start into)) in
    let left : take (start + size) (before ++ rest) ≡ before ++ take size rest =
    behind before rest start size before_len in
    let total : start + (len - start) ≡ len = omega arith in
    let right : take len (before ++ piece) ≡ before ++ take (len - start) piece =
    rw total at (behind before piece start (len - start) before_len) in
    rw same (left ∙ ap (λ (t : List ℕ). before ++ t)
    (front_of_piece piece (drop size (drop start into)) size (len - start) piece_len) ∙ sym right)
  where
    behind : (xs ys : List ℕ) (start more : ℕ) → length xs ≡ start → take (start + more) (xs ++ ys) ≡ xs ++ take more ys
    behind xs ys start more long = rw (← long) (take-append-add xs ys more)

    front_of_piece : (piece more : List ℕ) (size room : ℕ) → length piece ≡ size →
        take size (take room (piece ++ more)) ≡ take room piece
    front_of_piece piece more size room piece_len =
        elim (cases_lt size room) [
          | inl less ↦
              take-take size room (piece ++ more) (omega arith) ∙ take_at piece more size piece_len
              ∙ sym (take_all room piece (omega (arith, piece_len)))
          | inr most ↦
              let short : room ≤ length piece = omega (arith, piece_len) in
              let few : length (take room (piece ++ more)) ≡ room =
              length-take-le room (piece ++ more) (omega (arith, length-append piece more, short)) in
              take_all size (take room (piece ++ more)) (omega (arith, few)) ∙ take-append-le room piece more short
        ]

-- how many blocks there are is the length divided by a block's, rounded up
pub count_is : (number size len start : ℕ) → 1 ≤ size → start ≡ number * size → len ≤ start → start < len + size →
    number ≡ div_ceil len size
count_is number size len start some made enough few =
    let bounds = div_ceil_times len size some in
    let most = div_ceil len size in
    let above : number * size < (most + 1) * size = times most size (rw made at few) bounds.0 in
    let below : most * size < (number + 1) * size = times number size bounds.1 (rw made at enough) in
    let a = lt_of_mul-lt-mul_right size above in
    let b = lt_of_mul-lt-mul_right size below in
    omega (arith, a, b)
  where
    times : {x len : ℕ} (k size : ℕ) → x < len + size → len ≤ k * size → x < (k + 1) * size
    times k size less most =
        let next : (k + 1) * size ≡ k * size + size = grind arith in
        rw next (omega (arith, less, most))

-- before the first block there is nothing
pub no_block : (keyed : List ℕ → List ℕ) (salt into : List ℕ) (count len : ℕ) →
    take 0 into ≡ take len (blocks keyed salt count 0)
unfolding blocks
no_block keyed salt into count len = sym (take_all len [] (omega arith))

-- one block more, as much of it as there is room for
pub next_piece : (keyed : List ℕ → List ℕ) (salt into new piece : List ℕ) (count number start size len : ℕ)
    → start < len →
    length into ≡ len → length piece ≡ size → start ≡ number * size → piece ≡ block keyed salt count (number + 1) →
    take start into ≡ take len (blocks keyed salt count number)
    → new ≡ take start into ++ take (length into - start) (piece ++ drop size (drop start into)) →
    length new ≡ len → take (start + size) new ≡ take (length new) (blocks keyed salt count (number + 1))
next_piece keyed salt into new piece count number start size len inside long piece_len made is_block so_far
    written new_len =
    let all = blocks keyed salt count number in
    let next : 1 + number ≡ number + 1 = omega arith in
    let front_len : length (take start into) ≡ start = length-take-le start into (omega (arith, long)) in
    let counted : min len (length all) ≡ start = sym (length-take len all) ∙ ap length (sym so_far) ∙ front_len in
    let few : length all ≤ len = omega (arith, counted) in
    let all_len : length all ≡ start = omega (arith, counted) in
    let same : take start into ≡ all = so_far ∙ take_all len all few in
    let wrote : new ≡ take start into ++ take (len - start) (piece ++ drop size (drop start into)) =
    rw long at written in
    let more : blocks keyed salt count (number + 1) ≡ all ++ piece =
    rw is_block (blocks-more keyed salt count number (number + 1) next) in
    ap (take (start + size)) wrote ∙ one_more_piece into all piece start size len inside long piece_len all_len same
    ∙ rw (new_len, more) refl

-- with the last block, the text is the derived key
pub all_pieces : (prf : List ℕ → List ℕ → List ℕ) (password salt into : List ℕ) (count number size len start : ℕ)
    → 1 ≤ size →
    length into ≡ len → start ≡ number * size → len ≤ start → start < len + size →
    take start into ≡ take len (blocks (prf password) salt count number)
    → into ≡ pbkdf2_by prf size password salt count len
unfolding pbkdf2_by
all_pieces prf password salt into count number size len start some long made enough few written =
    let many = count_is number size len start some made enough few in
    let all : into ≡ take len (blocks (prf password) salt count number) =
    rw (take_all start into (omega (arith, long))) at written in
    rw (← many) all

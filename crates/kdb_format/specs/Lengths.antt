-- How long spellings are, and what stands where bytes were put.
use Rattle.std.proofs.Common.{◌≡◌, ℕ, ◌+◌, ◌≤◌, List, ◌++◌, length, take, drop, refl, sym, ap, ◌∙◌, arith}
use Rattle.std.specs.List.{flat_map, sum_by}
use Rattle.std.proofs.lemmas.List.{length-append, length-drop, length-replicate}
use Rattle.std.proofs.lemmas.List.{length-take, drop-drop, drop_at, take_at}
use Rattle.std.proofs.lemmas.List.Concat.{length-flat_map}
use Rattle.kdb_format.specs.Spellings.{big, counted, counted_list, zeros, put}
use Rattle.kdb_format.specs.Numbers.{length-big}

pub length-counted : (xs : List ℕ) → length (counted xs) ≡ 2 + length xs
unfolding counted
length-counted xs = omega (arith, length-append (big 2 (length xs)) xs, length-big 2 (length xs))

pub length-counted_list : {A : Type 0} (width : ℕ) (item : A → List ℕ) (xs : List A)
    → length (counted_list width item xs) ≡ width + sum_by (λ x. length (item x)) xs
unfolding counted_list
length-counted_list {A = A} width item xs =
    omega (
      arith,
      length-append (big width (length xs)) (flat_map item xs),
      length-big width (length xs),
      length-flat_map item xs,
    )

pub length-zeros : (n : ℕ) → length (zeros n) ≡ n
unfolding zeros
length-zeros n = length-replicate {A = ℕ} n 0

pub length-put : (at : ℕ) (bytes old : List ℕ) → at + length bytes ≤ length old → length (put at bytes old) ≡ length old
unfolding put
length-put at bytes old le =
    omega (
      arith,
      length-append (take at old) (bytes ++ drop (at + length bytes) old),
      length-append bytes (drop (at + length bytes) old),
      length-take at old,
      length-drop (at + length bytes) old,
    )

-- bytes that are put behind a front
pub put_behind : (at : ℕ) (bytes front rest : List ℕ) → length front ≡ at
    → put at bytes (front ++ rest) ≡ front ++ (bytes ++ drop (length bytes) rest)
unfolding put
put_behind at bytes front rest len =
    let here : take at (front ++ rest) ≡ front = take_at front rest at len in
    let behind : drop (at + length bytes) (front ++ rest) ≡ drop (length bytes) rest =
    sym (drop-drop (length bytes) at (front ++ rest)) ∙ ap (drop (length bytes)) (drop_at front rest at len) in
    rw (here, behind) refl

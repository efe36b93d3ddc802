-- The bytes of a body, put down one after another.
use Rattle.std.proofs.Common.{◌≡◌, ℕ, ◌+◌, ◌-◌, ◌≤◌, List, ◌++◌, length, drop, refl}
use Rattle.std.proofs.Common.{sym, ap, ◌∙◌, arith, append_assoc, length-append}
use Rattle.std.proofs.lemmas.List.{drop-replicate}
use Rattle.kdb_format.specs.Spellings.{put, zeros}
use Rattle.kdb_format.specs.Lengths.{put_behind}

drop_zeros : (n k : ℕ) → n ≤ k → drop n (zeros k) ≡ zeros (k - n)
unfolding zeros
drop_zeros n k le = drop-replicate {X = ℕ} n k 0

-- the first bytes are these, and the others zeros
pub record IsSoFar (at : ℕ) (front out : List ℕ) : Type 0 where
  pub len : length front ≡ at
  pub is : out ≡ front ++ zeros (63 - at)

pub next : {at : ℕ} {front out : List ℕ} (n : ℕ) (bytes after : List ℕ) → IsSoFar at front out
    → after ≡ put at bytes out → length bytes ≡ n → at + n ≤ 63 → IsSoFar (at + n) (front ++ bytes) after
next {at} {front} {out} n bytes after so_far put_down long fits =
    let left : (63 - at) - length bytes ≡ 63 - (at + n) = omega (arith, long) in
    record {
      len = omega (arith, length-append front bytes, so_far.len, long);
      is = put_down ∙ ap (put at bytes) so_far.is ∙ put_behind at bytes front (zeros (63 - at)) so_far.len
          ∙ ap (λ (l : List ℕ). front ++ (bytes ++ l))
          (drop_zeros (length bytes) (63 - at) (omega (arith, long, fits)) ∙ ap zeros left)
          ∙ sym (append_assoc front bytes (zeros (63 - (at + n))));
    }

pub in_order : (a x b d e f g h i j k z : List ℕ)
    → ((((((((((a ++ x) ++ b) ++ d) ++ e) ++ f) ++ g) ++ h) ++ i) ++ j) ++ k) ++ z
    ≡ a ++ (x ++ (b ++ (d ++ (e ++ (f ++ (g ++ (h ++ ((i ++ (j ++ k)) ++ z))))))))
in_order a x b d e f g h i j k z = simp (append_assoc) refl

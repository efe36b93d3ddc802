-- A dump that is written piece by piece.
use Rattle.std.proofs.Common.{◌≡◌, ℕ, zero, suc, ◌≤◌, ◌<◌, Bool, false, cond, eqb, List, [], ◌∷◌, ◌++◌}
use Rattle.std.proofs.Common.{length, take, drop, refl, sym, ap, ◌∙◌, append_assoc, arith, inl, inr}
use Rattle.std.specs.Prelude.{min}
use Rattle.std.proofs.lemmas.Bool.{cases_lt}
use Rattle.std.proofs.lemmas.List.{append-nil, length-drop, drop_all, take_all}
use Rattle.iprop_wire.specs.Frames.{frame_text, most_behind, piece_kind}
use Rattle.iprop_wire.specs.Messages.{pieces_text}

-- nothing is written of nothing
pub no_pieces : (n : ℕ) → pieces_text n [] ≡ []
unfolding pieces_text
no_pieces zero = refl
no_pieces (suc n) = refl

pub some_pieces : (n : ℕ) (text : List ℕ) → 0 < length text
    → pieces_text (suc n) text ≡ frame_text piece_kind (take most_behind text) ++ pieces_text n (drop most_behind text)
unfolding pieces_text
some_pieces n text lt =
    let no : eqb (length text) 0 ≡ false = grind arith in
    ap (λ (b : Bool).
    cond b [] (frame_text piece_kind (take most_behind text) ++ pieces_text n (drop most_behind text))) no

-- more turns than bytes change nothing
pub enough : (n m : ℕ) (text : List ℕ) → length text ≤ n → length text ≤ m → pieces_text n text ≡ pieces_text m text
enough n m [] a b = no_pieces n ∙ sym (no_pieces m)
enough zero m (x ∷ xs) a b = absurd (omega arith)
enough (suc n) zero (x ∷ xs) a b = absurd (omega arith)
enough (suc n) (suc m) (x ∷ xs) a b =
    let left = length-drop most_behind (x ∷ xs) in
    some_pieces n (x ∷ xs) (omega arith)
    ∙ ap (λ (t : List ℕ). frame_text piece_kind (take most_behind (x ∷ xs)) ++ t)
    (enough n m (drop most_behind (x ∷ xs)) (omega arith) (omega arith))
    ∙ sym (some_pieces m (x ∷ xs) (omega arith))

-- one piece more
pub one_more : (out rest : List ℕ) → 0 < length rest
    → (out ++ frame_text piece_kind (take most_behind rest))
    ++ pieces_text (length (drop most_behind rest)) (drop most_behind rest) ≡ out ++ pieces_text (length rest) rest
one_more out [] lt = absurd (omega arith)
one_more out (x ∷ xs) lt =
    let left = length-drop most_behind (x ∷ xs) in
    let behind = drop most_behind (x ∷ xs) in
    append_assoc out (frame_text piece_kind (take most_behind (x ∷ xs))) (pieces_text (length behind) behind)
    ∙ ap (λ (t : List ℕ). out ++ t)
    (ap (λ (t : List ℕ). frame_text piece_kind (take most_behind (x ∷ xs)) ++ t)
    (enough (length behind) (length xs) behind (omega arith) (omega arith))
    ∙ sym (some_pieces (length xs) (x ∷ xs) lt))

-- a piece as long as may be, or all that is left
front_of : (rest : List ℕ) (n : ℕ) → n ≡ min (length rest) most_behind
    → (take n rest ≡ take most_behind rest) × (drop n rest ≡ drop most_behind rest)
front_of rest n is =
    elim (cases_lt (length rest) most_behind) [
      | inl lt ↦
          let all : n ≡ length rest = omega arith in (
            take_all n rest (omega arith) ∙ sym (take_all most_behind rest (omega arith)),
            drop_all n rest (omega arith) ∙ sym (drop_all most_behind rest (omega arith)),
          )
      | inr le ↦ let most : n ≡ most_behind =
          omega arith in (ap (λ (k : ℕ). take k rest) most, ap (λ (k : ℕ). drop k rest) most)
    ]

pub one_piece : (out rest whole new front back : List ℕ) (n : ℕ) → 0 < length rest → n ≡ min (length rest) most_behind
    → front ≡ take n rest → back ≡ drop n rest
    → new ≡ out ++ frame_text piece_kind front → out ++ pieces_text (length rest) rest ≡ whole
    → new ++ pieces_text (length back) back ≡ whole
one_piece out rest whole new front back n lt is front_is back_is written so_far =
    let same = front_of rest n is in
    let f : front ≡ take most_behind rest = front_is ∙ same.0 in
    let b : back ≡ drop most_behind rest = back_is ∙ same.1 in
    ap (λ (t : List ℕ). t ++ pieces_text (length back) back) written
    ∙ ap (λ (t : List ℕ). (out ++ frame_text piece_kind t) ++ pieces_text (length back) back) f
    ∙ ap (λ (t : List ℕ). (out ++ frame_text piece_kind (take most_behind rest)) ++ pieces_text (length t) t) b
    ∙ one_more out rest lt ∙ so_far

-- nothing is left
pub no_more : (out rest whole : List ℕ) → rest ≡ [] → out ++ pieces_text (length rest) rest ≡ whole → out ≡ whole
no_more out rest whole is so_far =
    sym (append-nil out) ∙ ap (λ (t : List ℕ). out ++ t) (sym (no_pieces 0))
    ∙ ap (λ (t : List ℕ). out ++ pieces_text (length t) t) (sym is) ∙ so_far

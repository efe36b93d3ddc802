-- Reading a keytab piece by piece, whatever each piece tells and whichever may stand there.
use Rattle.std.proofs.Common.{◌≡◌, ℕ, ◌+◌, ◌-◌, ◌^◌, ◌<◌, ◌≤◌, Bool, List, [], ◌∷◌, ◌++◌}
use Rattle.std.proofs.Common.{length, refl, sym, ap, ◌∙◌, append_assoc, arith, inr}
use Rattle.std.specs.List.{All, flat_map}
use Rattle.std.proofs.lemmas.List.{length-append, flat_map_more}
use Rattle.std.proofs.lemmas.List.Elements.{All-append, All-from_recursion}
use Rattle.kdb_format.specs.Numbers.{length-big}
use Rattle.kdb_format.specs.Spellings.{big}
use Rattle.stash_file.specs.Answers.{IsNextBy}
use Rattle.stash_file.specs.Keytabs.{with_version, IsBadText, IsEnd, IsText, NoPiece, Stands}
use Rattle.stash_file.specs.Pieces.{Piece, Told, piece_text, entry_text}
use Rattle.stash_file.specs.Pieces.Piece.{Hole, Held}

-- pieces that tell these items were read of the text, and the rest is left
pub record IsReadBy {A : Type 0} (test : Told → Bool) (tell : Piece → List A) (text : List ℕ) (items : List A)
    (rest : List ℕ) : Type 0 where
  pub pieces : List Piece
  pub each : All (Stands test) pieces
  pub spelled : text ≡ with_version (flat_map piece_text pieces ++ rest)
  pub told : items ≡ flat_map tell pieces

pub nothing_by : {A : Type 0} (test : Told → Bool) (tell : Piece → List A) (text rest : List ℕ)
    → text ≡ with_version rest → IsReadBy test tell text [] rest
nothing_by test tell text rest e =
    record { pieces = []; each = All-from_recursion (Stands test) [] tt; spelled = e; told = refl }

-- one more piece
pub more_by : {A : Type 0} (test : Told → Bool) (tell : Piece → List A) (text : List ℕ) (items : List A) (rest : List ℕ)
    (more : List A) (after : List ℕ)
    → IsReadBy test tell text items rest → IsNextBy test tell rest more after
    → IsReadBy test tell text (items ++ more) after
more_by {A} test tell text items rest more after read next = record {
  pieces = read.pieces ++ next.piece ∷ [];
  each = All-append (Stands test) read.pieces (next.piece ∷ []) read.each
      (All-from_recursion (Stands test) (next.piece ∷ []) (next.fits, tt));
  spelled =
      let before = flat_map piece_text read.pieces in
      read.spelled
      ∙ ap (λ (r : List ℕ). with_version (before ++ r)) next.spelled
      ∙ ap with_version (sym (append_assoc before (piece_text next.piece) after))
      ∙ ap (λ (b : List ℕ). with_version (b ++ after)) (flat_map_more piece_text [] read.pieces next.piece);
  told =
      ap (λ (xs : List A). xs ++ more) read.told
      ∙ ap (λ (xs : List A). flat_map tell read.pieces ++ xs) next.told
      ∙ flat_map_more tell [] read.pieces next.piece;
}

pub piece_takes_bytes : (p : Piece) → 4 ≤ length (piece_text p)
unfolding piece_text
piece_takes_bytes (Hole bytes) =
    omega (arith, length-append (big 4 (2 ^ 32 - length bytes)) bytes, length-big 4 (2 ^ 32 - length bytes))
piece_takes_bytes (Held e more) =
    let body = entry_text e ++ more in
    omega (arith, length-append (big 4 (length body)) body, length-big 4 (length body))

pub less_by : {A : Type 0} (test : Told → Bool) (tell : Piece → List A) (old : List ℕ) (items : List A) (new : List ℕ)
    → IsNextBy test tell old items new → length new < length old
less_by test tell old items new next =
    let at_least = piece_takes_bytes next.piece in
    omega (arith, ap (length {A = ℕ}) next.spelled, length-append (piece_text next.piece) new)

-- what is left is a part of the text
pub length_by : {A : Type 0} (test : Told → Bool) (tell : Piece → List A) (text : List ℕ) (items : List A)
    (rest : List ℕ) → (read : IsReadBy test tell text items rest)
    → length text ≡ length (with_version (flat_map piece_text read.pieces)) + length rest
length_by test tell text items rest read =
    omega (arith, ap (length {A = ℕ}) read.spelled, length-append (flat_map piece_text read.pieces) rest)

pub ends_by : {A : Type 0} (test : Told → Bool) (tell : Piece → List A) (text : List ℕ) (items : List A) (rest : List ℕ)
    → (read : IsReadBy test tell text items rest) → IsEnd rest → IsText test text read.pieces
ends_by test tell text items rest read end =
    record { end = rest; each = read.each; ended = end; spelled = read.spelled }

pub breaks_by : {A : Type 0} (test : Told → Bool) (tell : Piece → List A) (text : List ℕ) (items : List A)
    (rest : List ℕ) → IsReadBy test tell text items rest
    → (IsEnd rest → ⊥) → NoPiece test rest → IsBadText test text (length text - length rest)
breaks_by test tell text items rest read going_on none = inr (record {
  pieces = read.pieces;
  rest = rest;
  each = read.each;
  no_end = going_on;
  no_piece = none;
  spelled = read.spelled;
  place_is = let len = length_by test tell text items rest read in omega arith;
})

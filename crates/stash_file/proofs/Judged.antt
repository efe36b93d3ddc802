-- Each text of bytes is a stash, or it is bad somewhere.
use Rattle.std.proofs.Common.{◌≡◌, ℕ, zero, suc, ◌<◌, ◌≤◌, Bool, true, false, List, [], ◌∷◌, ◌++◌, length, take, drop}
use Rattle.std.proofs.Common.{Option, Some, None, refl, sym, ap, subst, ◌∙◌, append_assoc, arith, ◌⊎◌, inl, inr}
use Rattle.std.specs.List.{All, flat_map, list_all}
use Rattle.std.specs.Str.{bytes_eq}
use Rattle.std.proofs.lemmas.List.{flat_map_more, length-append, take-append-drop, take_at}
use Rattle.std.proofs.lemmas.Bool.Decides.{not_from_Decides}
use Rattle.std.proofs.lemmas.Slice.Eq.{bytes_eq-Decides}
use Rattle.std.proofs.lemmas.List.Elements.{All-append, All-from_recursion}
use Rattle.kdb_format.specs.Fields.{IsBytes, IsBytes-back}
use Rattle.kdb_format.specs.Spellings.{zeros}
use Rattle.stash_file.specs.Keytabs.{with_version, has_key, IsBadText, IsEnd, IsJudgedKeytab, IsText, NoPiece, Stands}
use Rattle.stash_file.specs.Keytabs.IsJudgedKeytab.{Keytab, NoKeytab}
use Rattle.stash_file.specs.Parsing.{piece_at}
use Rattle.stash_file.specs.Pieces.{Piece, Told, piece_text, told_by}
use Rattle.stash_file.specs.Stashes.{has_master_key, keys_by, IsJudged}
use Rattle.stash_file.specs.Stashes.IsJudged.{Good, Bad}
use Rattle.stash_file.proofs.Fields.{piece_field}
use Rattle.stash_file.proofs.Loops.{piece_takes_bytes}
use Rattle.stash_file.proofs.Uniques.{none_beside, none_there, nothing_stands}

data Judged (test : Told → Bool) (text : List ℕ) : Type 0 where
  Whole : (pieces : List Piece) → IsText test text pieces → Judged test text
  Broken : (place : ℕ) → IsBadText test text place → Judged test text

-- what was read so far
record IsSoFar (test : Told → Bool) (text : List ℕ) (pieces : List Piece) (rest : List ℕ) : Type 0 where
  each : All (Stands test) pieces
  spelled : text ≡ with_version (flat_map piece_text pieces ++ rest)

cases : {A : Type 0} (o : Option A) → (o ≡ None) ⊎ ((x : A) × (o ≡ Some x))
cases None = inl refl
cases (Some x) = inr (x, refl)

truth : (b : Bool) → (b ≡ true) ⊎ (b ≡ false)
truth true = inl refl
truth false = inr refl

cases_lists : (xs ys : List ℕ) → (xs ≡ ys) ⊎ (xs ≡ ys → ⊥)
cases_lists xs ys =
    elim (truth (bytes_eq xs ys)) [
      | inl same ↦ inl ((bytes_eq-Decides xs ys).0 same)
      | inr other ↦ inr (not_from_Decides (bytes_eq xs ys) (bytes_eq-Decides xs ys) other)
    ]

ends : (rest : List ℕ) → IsEnd rest ⊎ (IsEnd rest → ⊥)
unfolding zeros
ends [] = inl (inl refl)
ends (b ∷ rest) =
    elim (cases_lists (take 4 (b ∷ rest)) (zeros 4)) [
      | inl same ↦ inl (inr (record {
        ignored = drop 4 (b ∷ rest);
        is = sym (take-append-drop 4 (b ∷ rest)) ∙ ap (λ (front : List ℕ). front ++ drop 4 (b ∷ rest)) same;
      }))
      | inr other ↦ inr (λ end. elim end [
        | inl none ↦ absurd cc
        | inr mark ↦ other (ap (take 4) mark.is ∙ take_at (zeros 4) mark.ignored 4 refl)
      ])
    ]

one_more : (test : Told → Bool) (text : List ℕ) (pieces : List Piece) (rest : List ℕ) (p : Piece) (after : List ℕ)
    → IsSoFar test text pieces rest
    → Stands test p → rest ≡ piece_text p ++ after → IsSoFar test text (pieces ++ p ∷ []) after
one_more test text pieces rest p after so stands e = record {
  each = All-append (Stands test) pieces (p ∷ []) so.each (All-from_recursion (Stands test) (p ∷ []) (stands, tt));
  spelled =
      let before = flat_map piece_text pieces in
      so.spelled
      ∙ ap (λ (r : List ℕ). with_version (before ++ r)) e
      ∙ ap with_version (sym (append_assoc before (piece_text p) after))
      ∙ ap (λ (b : List ℕ). with_version (b ++ after)) (flat_map_more piece_text [] pieces p);
}

broken_here : (test : Told → Bool) (text : List ℕ) (pieces : List Piece) (rest : List ℕ) → IsSoFar test text pieces rest
    → (IsEnd rest → ⊥) → NoPiece test rest → Judged test text
broken_here test text pieces rest so going none =
    Broken (length (with_version (flat_map piece_text pieces)))
    (inr (record {
      pieces = pieces;
      rest = rest;
      each = so.each;
      no_end = going;
      no_piece = none;
      spelled = so.spelled;
      place_is = refl;
    }))

-- a text whose rest is the end, a piece and more, or broken
by_rest : (test : Told → Bool) (text : List ℕ) (pieces : List Piece) (rest : List ℕ) → IsBytes rest
    → IsSoFar test text pieces rest
    → ((p : Piece) (after : List ℕ) → rest ≡ piece_text p ++ after → IsSoFar test text (pieces ++ p ∷ []) after
    → Judged test text) → Judged test text
by_rest test text pieces rest fits so further =
    elim (ends rest) [
      | inl end ↦ Whole pieces (record { end = rest; each = so.each; ended = end; spelled = so.spelled })
      | inr going ↦
          elim (cases (piece_at rest)) [
            | inl none ↦ broken_here test text pieces rest so going (nothing_stands test rest (none_there rest none))
            | inr found ↦
                let p = found.0.0 in
                let after = found.0.1 in
                let e = piece_field.spelled rest p after fits found.1 in
                let is = piece_field.fits rest p after fits found.1 in
                elim (truth (list_all test (told_by p))) [
                  | inl passes ↦ further p after e
                      (one_more test text pieces rest p after so (record { piece = is; passes = passes }) e)
                  | inr fails ↦ broken_here test text pieces rest so going (none_beside test rest p after is e fails)
                ]
          ]
    ]

shorter : (p : Piece) (rest after : List ℕ) → rest ≡ piece_text p ++ after → length after < length rest
shorter p rest after e = let least =
    piece_takes_bytes p in omega (arith, ap (length {A = ℕ}) e, length-append (piece_text p) after)

-- the rest has at most n bytes
judged_on : (test : Told → Bool) (text : List ℕ) (n : ℕ) (pieces : List Piece) (rest : List ℕ) → length rest ≤ n
    → IsBytes rest → IsSoFar test text pieces rest → Judged test text
judged_on test text zero pieces rest le fits so =
    by_rest test text pieces rest fits so (λ p after e more. let less = shorter p rest after e in absurd (omega arith))
judged_on test text (suc n) pieces rest le fits so =
    by_rest test text pieces rest fits so
    (λ p after e more. let less = shorter p rest after e in judged_on test text n (pieces ++ p ∷ []) after (omega arith)
    (IsBytes-back (piece_text p) after (subst IsBytes e fits)) more)

versioned : (text : List ℕ)
    → ((rest : List ℕ) × (text ≡ with_version rest)) ⊎ ((rest : List ℕ) → text ≡ with_version rest → ⊥)
versioned text =
    elim (cases_lists (take 2 text) (5 ∷ 2 ∷ [])) [
      | inl same ↦ inl (drop 2 text, sym (take-append-drop 2 text) ∙ ap (λ (front : List ℕ). front ++ drop 2 text) same)
      | inr other ↦ inr (λ rest e. other (ap (take 2) e))
    ]

judged : (test : Told → Bool) (text : List ℕ) → IsBytes text → Judged test text
judged test text fits =
    elim (versioned text) [
      | inl is ↦
          judged_on test text (length is.0) [] is.0 (omega arith)
          (IsBytes-back (5 ∷ 2 ∷ []) is.0 (subst IsBytes is.1 fits))
          (record { each = All-from_recursion (Stands test) [] tt; spelled = is.1 })
      | inr other ↦ Broken 0 (inl (record { version = other; place_is = refl }))
    ]

pub each_judged : (text : List ℕ) → IsBytes text → IsJudged text
each_judged text fits =
    elim (judged has_master_key text fits) [
      | Whole pieces is ↦ Good (flat_map keys_by pieces) (record { pieces = pieces; is = is; told = refl })
      | Broken place bad ↦ Bad place bad
    ]

pub each_keytab_judged : (text : List ℕ) → IsBytes text → IsJudgedKeytab text
each_keytab_judged text fits =
    elim (judged has_key text fits) [
      | Whole pieces is ↦ Keytab (flat_map told_by pieces) (record { pieces = pieces; is = is; told = refl })
      | Broken place bad ↦ NoKeytab place bad
    ]

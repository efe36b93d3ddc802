-- Keytabs as files: what is written of listed entries holds them, and an entry takes bytes.
use Rattle.std.proofs.Common.{◌≡◌, ℕ, ◌≤◌, Bool, true, List, [], ◌∷◌, ◌++◌}
use Rattle.std.proofs.Common.{length, refl, sym, ap, subst, ◌∙◌, arith, inl, inr}
use Rattle.std.specs.Prelude.{◌&&◌}
use Rattle.std.specs.List.{All, AllByRecursion, flat_map, list_all}
use Rattle.std.proofs.lemmas.List.{append-nil, length-append}
use Rattle.std.proofs.lemmas.List.Elements.{All-from_recursion, recursion_from_All}
use Rattle.kdb_format.specs.Spellings.{big}
use Rattle.stash_file.specs.Keytabs.{IsBadKeytab, IsKeytab, Stands, has_key, with_version}
use Rattle.stash_file.specs.Pieces.{Piece, Told, entry_text, piece_text, told_by}
use Rattle.stash_file.specs.Pieces.Piece.{Hole, Held}
use Rattle.stash_file.proofs.Loops.{piece_takes_bytes}
use Rattle.stash_file.proofs.Uniques.{no_bad_keytab, one_keytab, one_place}
use Rattle.keytab_out.specs.Entries.{IsListed, keytab_text, sized}
use Rattle.keytab_out.specs.Keytabs.{Holds, IsBad}

-- ---- written

-- pieces that hold the entries, and nothing else
record AreHeld (entries : List Told) : Type 0 where
  pieces : List Piece
  each : AllByRecursion (Stands has_key) pieces
  text : flat_map piece_text pieces ≡ flat_map sized entries
  told : entries ≡ flat_map told_by pieces

are_held : (entries : List Told) → AllByRecursion IsListed entries → AreHeld entries
unfolding piece_text
are_held [] h = record { pieces = []; each = tt; text = refl; told = refl }
are_held (t ∷ entries) h =
    let rest = are_held entries h.1 in
    let p : Piece = Held h.0.front h.0.more in
    let bytes : entry_text h.0.front ++ h.0.more ≡ t.bytes = sym (ap (λ (x : Told). x.bytes) h.0.told) in
    record {
      pieces = p ∷ rest.pieces;
      each = (
        record {
          piece = h.0.held;
          passes = ap (λ (x : Told). list_all has_key (x ∷ [])) (sym h.0.told) ∙ ap (λ (b : Bool). b && true) h.0.key;
        },
        rest.each,
      );
      text =
          ap (λ (b : List ℕ). (big 4 (length b) ++ b) ++ flat_map piece_text rest.pieces) bytes
          ∙ ap (λ (b : List ℕ). sized t ++ b) rest.text;
      told = ap (λ (x : Told). x ∷ entries) h.0.told ∙ ap (λ (ts : List Told). told_by p ++ ts) rest.told;
    }

pub holds_written : (entries : List Told) → All IsListed entries → IsKeytab (keytab_text entries) entries
unfolding keytab_text
holds_written entries h =
    let held = are_held entries (recursion_from_All IsListed entries h) in
    record {
      pieces = held.pieces;
      is = record {
        end = [];
        each = All-from_recursion (Stands has_key) held.pieces held.each;
        ended = inl refl;
        spelled = ap with_version (sym held.text ∙ sym (append-nil (flat_map piece_text held.pieces)));
      };
      told = held.told;
    }

-- ---- read

told_few : (pieces : List Piece) → length (flat_map told_by pieces) ≤ length (flat_map piece_text pieces)
told_few [] = omega arith
told_few (Hole bytes ∷ pieces) = let more =
    told_few pieces in omega (arith, length-append (piece_text (Hole bytes)) (flat_map piece_text pieces))
told_few (Held e more ∷ pieces) =
    let others = told_few pieces in
    omega (
      arith,
      length-append (piece_text (Held e more)) (flat_map piece_text pieces),
      piece_takes_bytes (Held e more),
    )

pub few_held : (text : List ℕ) (entries : List Told) → IsKeytab text entries → length entries ≤ length text
few_held text entries f =
    let few = told_few f.pieces in
    omega (
      arith,
      ap (length {A = Told}) f.told,
      ap (length {A = ℕ}) f.is.spelled,
      length-append (flat_map piece_text f.pieces) f.is.end,
    )

none_other : (entries : List Told) → IsKeytab [] entries → ⊥
none_other entries f = let e = ap (length {A = ℕ}) f.is.spelled in omega arith

pub new_holds : (text : List ℕ) → text ≡ [] → (entries : List Told) → Holds text entries → entries ≡ []
new_holds text e entries (inl new) = new.none
new_holds text e entries (inr f) = absurd (none_other entries (subst (λ (t : List ℕ). IsKeytab t entries) e f))

pub one_held : (text : List ℕ) (entries : List Told) → (text ≡ [] → ⊥) → IsKeytab text entries → (others : List Told)
    → Holds text others → entries ≡ others
one_held text entries some f others (inl new) = absurd (some new.text_is)
one_held text entries some f others (inr g) = one_keytab text entries others f g

pub not_bad : (text : List ℕ) (entries : List Told) → IsKeytab text entries → (place : ℕ) → IsBad text place → ⊥
not_bad text entries f place bad = no_bad_keytab text entries place f bad.broken

pub not_held : (text : List ℕ) (place : ℕ) → (text ≡ [] → ⊥) → IsBadKeytab text place → (entries : List Told)
    → Holds text entries → ⊥
not_held text place some bad entries (inl new) = some new.text_is
not_held text place some bad entries (inr f) = no_bad_keytab text entries place f bad

pub same_place : (text : List ℕ) (place : ℕ) → IsBadKeytab text place → (other : ℕ) → IsBad text other → place ≡ other
same_place text place bad other f = one_place has_key text place other bad f.broken

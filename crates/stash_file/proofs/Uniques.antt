-- A text is a keytab in one way at most, and where it is bad, it is bad at one place and no keytab.
use Rattle.std.proofs.Common.{◌≡◌, ℕ, Bool, cond, ltb, false, List, [], ◌∷◌, ◌++◌, length, drop}
use Rattle.std.proofs.Common.{Some, None, refl, sym, ap, subst, ◌∙◌, append_assoc, arith, inl, inr}
use Rattle.std.specs.Prelude.{option_and_then}
use Rattle.std.specs.List.{All, AllByRecursion, flat_map, list_all}
use Rattle.std.proofs.lemmas.Bool.{false≢true, le-ltb}
use Rattle.std.proofs.lemmas.Option.{same_Some, none-some}
use Rattle.std.proofs.lemmas.List.Elements.{recursion_from_All}
use Rattle.kdb_format.specs.Readings.{big_at, bytes_at, known}
use Rattle.kdb_format.specs.Spellings.{big, zeros}
use Rattle.kdb_format.specs.Laws.{big_field}
use Rattle.stash_file.specs.Pieces.{Piece, Told, piece_text, told_by, IsPiece}
use Rattle.stash_file.specs.Keytabs.{with_version, has_key, IsBadKeytab, IsBadText, IsEnd}
use Rattle.stash_file.specs.Keytabs.{IsKeytab, IsText, NoPiece, NothingThere, Stands}
use Rattle.stash_file.specs.Stashes.{has_master_key, keys_by, IsStash, IsBadAt}
use Rattle.stash_file.specs.Parsing.{entry_at, entry_in, held_at, hole_at, piece_at}
use Rattle.stash_file.specs.declared.keys.StashKey.{StashKey}
use Rattle.stash_file.proofs.Fields.{piece_field}

-- where no piece is read, none stands
pub none_there : (rest : List ℕ) → piece_at rest ≡ None → NothingThere rest
none_there rest none p after fits e = none-some (p, after) (sym none ∙ ap piece_at e ∙ piece_field.again p after fits)

pub nothing_stands : (test : Told → Bool) (rest : List ℕ) → NothingThere rest → NoPiece test rest
nothing_stands test rest nothing p after stands e = nothing p after stands.piece e

-- a piece that may not stand there leaves no other one
pub none_beside : (test : Told → Bool) (rest : List ℕ) (p : Piece) (after : List ℕ) → IsPiece p
    → rest ≡ piece_text p ++ after → list_all test (told_by p) ≡ false → NoPiece test rest
none_beside test rest p after fits e fails q behind stands f =
    let both = sym (piece_field.again p after fits) ∙ ap piece_at (sym e ∙ f)
    ∙ piece_field.again q behind stands.piece in
    let same : p ≡ q = ap (λ (z : Piece × List ℕ). z.0) (same_Some (p, after) (q, behind) both) in
    let passes = stands.passes in
    false≢true (sym fails ∙ ap (λ (x : Piece). list_all test (told_by x)) same ∙ passes)

none_of_nothing : piece_at [] ≡ None
unfolding piece_at big_at bytes_at
none_of_nothing = refl

no_entry : (rest : List ℕ) → held_at 0 rest ≡ None
unfolding bytes_at entry_in entry_at big_at
no_entry rest =
    let longer : ltb (length rest) 0 ≡ false = le-ltb _ _ (omega arith) in
    ap (λ (b : Bool).
    option_and_then (λ (y : List ℕ × List ℕ). known (entry_in y.0) y.1) (cond b None (Some ([], rest)))) longer

none_of_mark : (ignored : List ℕ) → piece_at (zeros 4 ++ ignored) ≡ None
unfolding piece_at big zeros
none_of_mark ignored =
    ap (option_and_then (λ (x : ℕ × List ℕ). cond (ltb x.0 2147483648) (held_at x.0) (hole_at x.0) x.1))
    ((big_field 4).again 0 ignored (omega arith)) ∙ no_entry ignored

-- no piece stands at the end
pub end_no_piece : (rest : List ℕ) → IsEnd rest → NothingThere rest
end_no_piece rest (inl e) = none_there rest (ap piece_at e ∙ none_of_nothing)
end_no_piece rest (inr mark) = none_there rest (ap piece_at mark.is ∙ none_of_mark mark.ignored)

-- pieces, and what stands behind them
same_pieces : (test : Told → Bool) (ps qs : List Piece) (r s : List ℕ) → AllByRecursion (Stands test) ps
    → AllByRecursion (Stands test) qs → NoPiece test r → NoPiece test s
    → flat_map piece_text ps ++ r ≡ flat_map piece_text qs ++ s → (ps ≡ qs) × (r ≡ s)
same_pieces test [] [] r s fp fq nr ns e = (refl, e)
same_pieces test [] (q ∷ qs) r s fp fq nr ns e =
    absurd (nr q (flat_map piece_text qs ++ s) fq.0 (e ∙ append_assoc (piece_text q) (flat_map piece_text qs) s))
same_pieces test (p ∷ ps) [] r s fp fq nr ns e =
    absurd (ns p (flat_map piece_text ps ++ r) fp.0 (sym e ∙ append_assoc (piece_text p) (flat_map piece_text ps) r))
same_pieces test (p ∷ ps) (q ∷ qs) r s fp fq nr ns e =
    let after_p = flat_map piece_text ps ++ r in
    let after_q = flat_map piece_text qs ++ s in
    let texts : piece_text p ++ after_p ≡ piece_text q ++ after_q =
    sym (append_assoc (piece_text p) (flat_map piece_text ps) r) ∙ e
    ∙ append_assoc (piece_text q) (flat_map piece_text qs) s in
    let both = sym (piece_field.again p after_p fp.0.piece) ∙ ap piece_at texts
    ∙ piece_field.again q after_q fq.0.piece in
    let pair = same_Some (p, after_p) (q, after_q) both in
    let others = same_pieces test ps qs r s fp.1 fq.1 nr ns (ap (λ (z : Piece × List ℕ). z.1) pair) in
    let heads : p ≡ q = ap (λ (z : Piece × List ℕ). z.0) pair in
    (rw (heads, others.0) refl, others.1)

behind_version : (a b : List ℕ) → with_version a ≡ with_version b → a ≡ b
behind_version a b e = ap (drop 2) e

-- two texts that are one
same_parts : (test : Told → Bool) (text : List ℕ) (ps qs : List Piece) (r s : List ℕ) → All (Stands test) ps
    → All (Stands test) qs → NoPiece test r → NoPiece test s
    → text ≡ with_version (flat_map piece_text ps ++ r) → text ≡ with_version (flat_map piece_text qs ++ s)
    → (ps ≡ qs) × (r ≡ s)
same_parts test text ps qs r s fp fq nr ns a b =
    same_pieces test ps qs r s (recursion_from_All (Stands test) ps fp) (recursion_from_All (Stands test) qs fq) nr ns
    (behind_version _ _ (sym a ∙ b))

end_stands : (test : Told → Bool) (rest : List ℕ) → IsEnd rest → NoPiece test rest
end_stands test rest end = nothing_stands test rest (end_no_piece rest end)

pub one_text : (test : Told → Bool) (text : List ℕ) (ps qs : List Piece) → IsText test text ps
    → IsText test text qs → ps ≡ qs
one_text test text ps qs f g =
    (same_parts test text ps qs f.end g.end f.each g.each (end_stands test f.end f.ended)
    (end_stands test g.end g.ended) f.spelled g.spelled).0

pub no_bad_text : (test : Told → Bool) (text : List ℕ) (ps : List Piece) (place : ℕ) → IsText test text ps
    → IsBadText test text place → ⊥
no_bad_text test text ps place f (inl other) = other.version (flat_map piece_text ps ++ f.end) f.spelled
no_bad_text test text ps place f (inr broken) =
    let same = same_parts test text ps broken.pieces f.end broken.rest f.each broken.each
    (end_stands test f.end f.ended) broken.no_piece f.spelled broken.spelled in
    broken.no_end (subst IsEnd same.1 f.ended)

pub one_place : (test : Told → Bool) (text : List ℕ) (a b : ℕ) → IsBadText test text a → IsBadText test text b → a ≡ b
one_place test text a b (inl f) (inl g) = f.place_is ∙ sym g.place_is
one_place test text a b (inl f) (inr g) = absurd (f.version (flat_map piece_text g.pieces ++ g.rest) g.spelled)
one_place test text a b (inr f) (inl g) = absurd (g.version (flat_map piece_text f.pieces ++ f.rest) f.spelled)
one_place test text a b (inr f) (inr g) =
    let same =
    same_parts test text f.pieces g.pieces f.rest g.rest f.each g.each f.no_piece g.no_piece f.spelled g.spelled in
    f.place_is ∙ ap (λ (ps : List Piece). length (with_version (flat_map piece_text ps))) same.0 ∙ sym g.place_is

-- ---- stashes

pub one_list : (text : List ℕ) (a b : List StashKey) → IsStash text a → IsStash text b → a ≡ b
one_list text a b f g =
    let same = one_text has_master_key text f.pieces g.pieces f.is g.is in
    f.told ∙ ap (flat_map keys_by) same ∙ sym g.told

pub not_bad : (text : List ℕ) (keys : List StashKey) (place : ℕ) → IsStash text keys → IsBadAt text place → ⊥
not_bad text keys place f bad = no_bad_text has_master_key text f.pieces place f.is bad

-- ---- keytabs

pub one_keytab : (text : List ℕ) (a b : List Told) → IsKeytab text a → IsKeytab text b → a ≡ b
one_keytab text a b f g =
    let same = one_text has_key text f.pieces g.pieces f.is g.is in
    f.told ∙ ap (flat_map told_by) same ∙ sym g.told

pub no_bad_keytab : (text : List ℕ) (entries : List Told) (place : ℕ) → IsKeytab text entries
    → IsBadKeytab text place → ⊥
no_bad_keytab text entries place f bad = no_bad_text has_key text f.pieces place f.is bad

-- How the lines of an input follow from those of its end.
use Rattle.std.proofs.Common.{◌≡◌, ℕ, ◌<◌, ◌≤◌, ◌==◌, Bool, true, false, if◌then◌else◌, List, [], ◌∷◌}
use Rattle.std.proofs.Common.{◌++◌, length, map, Some, None, refl, ap, ◌∙◌, length-append, arith}
use Rattle.std.proofs.lemmas.Bool.{lt-ltb, le-ltb}
use Rattle.kdb_base.specs.Limits.{longest_line}
use Rattle.kadm_lines.specs.Windows.{lacks_feed}
use Rattle.kadm_lines.specs.Steps.{line_seen}
use Rattle.kadm_lines.specs.Lines.{Line, onto_first, lines_of, seen, seen_lines, long_first, lines_from}

-- bytes without a line feed at the front of the first line
joined : List ℕ → List Line → List Line
joined xs [] = record { bytes = xs; ended = false } ∷ []
joined xs (line ∷ lines) = record { bytes = xs ++ line.bytes; ended = line.ended } ∷ lines

onto-joined : (b : ℕ) (xs : List ℕ) (lines : List Line) → onto_first b (joined xs lines) ≡ joined (b ∷ xs) lines
unfolding onto_first joined
onto-joined b xs [] = refl
onto-joined b xs (line ∷ lines) = refl

onto-one : (b : ℕ) (lines : List Line) → onto_first b lines ≡ joined (b ∷ []) lines
unfolding onto_first joined
onto-one b [] = refl
onto-one b (line ∷ lines) = refl

lines-clear : (b : ℕ) (xs rest : List ℕ) → lacks_feed (b ∷ xs) ≡ true
    → lines_of ((b ∷ xs) ++ rest) ≡ joined (b ∷ xs) (lines_of rest)
unfolding lacks_feed lines_of
lines-clear b [] rest clear =
    elim (b == 10) as (λ v. (if v then false else true) ≡ true → (if v then record {
      bytes = [];
      ended = true;
    } ∷ lines_of rest else onto_first b (lines_of rest)) ≡ joined (b ∷ []) (lines_of rest)) [
      | true ↦ λ h. (cc)
      | false ↦ λ h. onto-one b (lines_of rest)
    ] clear
lines-clear b (c ∷ xs) rest clear =
    elim (b == 10) as (λ v. (if v then false else lacks_feed (c ∷ xs)) ≡ true
    → (if v then record { bytes = []; ended = true } ∷ lines_of ((c ∷ xs) ++ rest)
    else onto_first b (lines_of ((c ∷ xs) ++ rest))) ≡ joined (b ∷ c ∷ xs) (lines_of rest)) [
      | true ↦ λ h. (cc)
      | false ↦ λ h. ap (λ t. onto_first b t) (lines-clear c xs rest h) ∙ onto-joined b (c ∷ xs) (lines_of rest)
    ] clear

-- a line feed ends a line
lines-fed : (xs rest : List ℕ) → lacks_feed xs ≡ true
    → lines_of (xs ++ (10 ∷ rest)) ≡ record { bytes = xs; ended = true } ∷ lines_of rest
unfolding lacks_feed lines_of onto_first
lines-fed [] rest clear = refl
lines-fed (b ∷ xs) rest clear =
    elim (b == 10) as (λ v. (if v then false else lacks_feed xs) ≡ true
    → (if v then record { bytes = []; ended = true } ∷ lines_of (xs ++ (10 ∷ rest))
    else onto_first b (lines_of (xs ++ (10 ∷ rest)))) ≡ record { bytes = b ∷ xs; ended = true } ∷ lines_of rest) [
      | true ↦ λ h. (cc)
      | false ↦ λ h. ap (λ t. onto_first b t) (lines-fed xs rest h)
    ] clear

-- a line feed ends a line, or the rest of one that is too long
pub from-fed : (skipping : Bool) (xs rest : List ℕ) → lacks_feed xs ≡ true
    → lines_from skipping (xs ++ (10 ∷ rest)) ≡ line_seen skipping (record { bytes = xs; ended = true })
    ∷ lines_from false rest
unfolding lines_from seen_lines long_first seen
from-fed false xs rest clear = ap (λ t. map seen t) (lines-fed xs rest clear)
from-fed true xs rest clear = ap (λ t. long_first (map seen t)) (lines-fed xs rest clear)

skipped-joined : (xs : List ℕ) (lines : List Line)
    → long_first (map seen (joined xs lines)) ≡ long_first (map seen lines)
unfolding long_first seen joined
skipped-joined xs [] = refl
skipped-joined xs (line ∷ lines) = refl

-- inside a line that is too long, bytes without a line feed say nothing
pub from-skipped : (xs rest : List ℕ) → lacks_feed xs ≡ true → lines_from true (xs ++ rest) ≡ lines_from true rest
unfolding lines_from seen_lines
from-skipped [] rest clear = refl
from-skipped (b ∷ xs) rest clear =
    ap (λ t. long_first (map seen t)) (lines-clear b xs rest clear) ∙ skipped-joined (b ∷ xs) (lines_of rest)

pub seen-long : (xs : List ℕ) (ended : Bool) → longest_line < length xs
    → seen (record { bytes = xs; ended = ended }) ≡ record { text = None; ended = ended }
unfolding seen
seen-long xs ended long = rw (lt-ltb longest_line (length xs) long)

pub seen-short : (xs : List ℕ) (ended : Bool) → length xs ≤ longest_line
    → seen (record { bytes = xs; ended = ended }) ≡ record { text = Some xs; ended = ended }
unfolding seen
seen-short xs ended short = rw (le-ltb longest_line (length xs) short)

long-joined : (xs : List ℕ) (lines : List Line) → longest_line < length xs
    → map seen (joined xs lines) ≡ long_first (map seen lines)
unfolding long_first seen joined
long-joined xs [] long = ap (λ s. s ∷ []) (seen-long xs false long)
long-joined xs (line ∷ lines) long =
    ap (λ s. s ∷ map seen lines) (seen-long (xs ++ line.bytes) line.ended (omega (arith, length-append xs line.bytes)))

-- so many bytes without a line feed are the front of a line that is too long
pub from-long : (xs rest : List ℕ) → lacks_feed xs ≡ true → longest_line < length xs
    → lines_from false (xs ++ rest) ≡ lines_from true rest
unfolding lines_from seen_lines
from-long [] rest clear long = absurd (omega arith)
from-long (b ∷ xs) rest clear long =
    ap (λ t. map seen t) (lines-clear b xs rest clear) ∙ long-joined (b ∷ xs) (lines_of rest) long

last-joined : (xs : List ℕ) → length xs ≤ longest_line
    → map seen (joined xs (lines_of [])) ≡ record { text = Some xs; ended = false } ∷ map seen (lines_of [])
unfolding joined lines_of
last-joined xs short = ap (λ s. s ∷ []) (seen-short xs false short)

-- a last line that no line feed ends
pub from-last : (xs : List ℕ) → lacks_feed xs ≡ true → 0 < length xs → length xs ≤ longest_line
    → lines_from false (xs ++ []) ≡ record { text = Some xs; ended = false } ∷ lines_from false []
unfolding lines_from seen_lines
from-last [] clear least short = absurd (omega arith)
from-last (b ∷ xs) clear least short = ap (λ t. map seen t) (lines-clear b xs [] clear) ∙ last-joined (b ∷ xs) short

pub from-nothing : lines_from false [] ≡ []
unfolding lines_from seen_lines lines_of
from-nothing = refl

pub from-nothing-long : lines_from true [] ≡ record { text = None; ended = false } ∷ []
unfolding lines_from seen_lines lines_of long_first
from-nothing-long = refl

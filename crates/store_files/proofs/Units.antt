-- Cells of which one is changed, or passed over.
use Rattle.std.proofs.Common.{◌≡◌, ◌≢◌, ℕ, zero, suc, ◌+◌, ◌-◌, ◌<◌, ◌≤◌, ⊎_elim, Bool, true, false, not, ◌&&◌}
use Rattle.std.proofs.Common.{◌||◌, List, [], ◌∷◌, length, Option, Some, None, refl, sym, ap, subst, ◌∙◌, arith}
use Rattle.std.specs.Prelude.{nat_eq, nat_lt}
use Rattle.std.proofs.lemmas.Bool.{cases_eq, cases_lt, and_from, lt-ltb, eq-eqb, ne_eqb}
use Rattle.std.proofs.lemmas.Bool.{cond-true, cond-false, false_from_ne_true, true≢false}
use Rattle.kdb_base.specs.Limits.{most_rows}
use Rattle.princ_rows.specs.EntryLaws.{same_bytes, bytes_same}
use Rattle.kdb_cells.specs.declared.units.StoredRow.{StoredRow}
use Rattle.kdb_cells.specs.declared.units.StoredRow.TheVariants.{Princ, Policy}
use Rattle.kdb_cells.specs.Cells.{Cell}
use Rattle.kdb_cells.specs.Sheets.{clash, clashes, taken, taken_by, set_cell}
use Rattle.kdb_cells.specs.Changes.{cell_no}
use Rattle.kdb_cells.specs.FileCells.{MayStand}
use Rattle.kdb_cells.proofs.Sheeting.{set_here, set_other, length-set, taken_set}
use Rattle.store_files.specs.Found.{unit_numbered, with_unit, is_placed}
use Rattle.store_files.specs.Standing.{HasCell, MayChange}

-- ---- one cell is set

pub set_again : (i : ℕ) (x y : Cell) (cells : List Cell) → i ≤ length cells
    → set_cell i x (set_cell i y cells) ≡ set_cell i x cells
unfolding set_cell
set_again zero x y [] le = refl
set_again (suc i) x y [] le = absurd (omega (arith, le))
set_again zero x y (c ∷ cells) le = refl
set_again (suc i) x y (c ∷ cells) le = ap (λ (l : List Cell). c ∷ l) (set_again i x y cells (omega (arith, le)))

pub set_same : (i : ℕ) (x : Cell) (cells : List Cell) → i < length cells → cell_no i cells ≡ x
    → set_cell i x cells ≡ cells
unfolding set_cell cell_no
set_same i x [] lt is = absurd (omega (arith, lt))
set_same zero x (c ∷ cells) lt is = ap (λ (d : Cell). d ∷ cells) (sym is)
set_same (suc i) x (c ∷ cells) lt is = ap (λ (l : List Cell). c ∷ l) (set_same i x cells (omega (arith, lt)) is)

-- ---- keys

or_none : (a b : Bool) → a ≡ false → b ≡ false → a || b ≡ false
or_none true b x y = x
or_none false b x y = y

pub no_clashes : (c : Cell) (cells : List Cell) → ((j : ℕ) → clash c (cell_no j cells) ≡ false)
    → clashes c cells ≡ false
unfolding clashes cell_no
no_clashes c [] apart = refl
no_clashes c (d ∷ cells) apart =
    or_none (clash c d) (clashes c cells) (apart 0) (no_clashes c cells (λ j. apart (suc j)))

turned : (a b : List ℕ) (x : Bool) → x ≡ false → (a ≡ b → x ≡ true) → b ≢ a
turned a b x no_ yes_ e = true≢false (sym (yes_ (sym e)) ∙ no_)

pub clash_turned : (c d : Cell) → clash c d ≡ false → clash d c ≡ false
clash_turned None None apart = refl
clash_turned None (Some s) apart = refl
clash_turned (Some r) None apart = refl
clash_turned (Some (Princ p)) (Some (Princ q)) apart = false_from_ne_true _
    (λ same. turned p.name q.name _ apart (bytes_same p.name q.name) (same_bytes q.name p.name same))
clash_turned (Some (Princ p)) (Some (Policy q)) apart = refl
clash_turned (Some (Policy p)) (Some (Princ q)) apart = refl
clash_turned (Some (Policy p)) (Some (Policy q)) apart = false_from_ne_true _
    (λ same. turned p.name q.name _ apart (bytes_same p.name q.name) (same_bytes q.name p.name same))

-- no other cell has the key of this one
abbrev pub IsApart : ℕ → Cell → List Cell → Type 0
IsApart i c cells = (j : ℕ) → j ≢ i → clash c (cell_no j cells) ≡ false

free_apart : (c : Cell) → clash c None ≡ false
free_apart None = refl
free_apart (Some r) = refl

-- ---- a row is placed where its unit is free

pub placed_row : (i : ℕ) (c : Cell) (cells : List Cell) → i ≤ length cells → IsApart i c cells
    → taken cells + taken_by c ≤ most_rows + taken_by (cell_no i cells)
    → is_placed (Some i) c (set_cell i None cells) ≡ true
placed_row i None cells within apart few = refl
placed_row i (Some r) cells within apart few =
    let others : (j : ℕ) → clash (Some r) (cell_no j (set_cell i None cells)) ≡ false = λ j. ⊎_elim
    (λ same. ap (λ (k : ℕ). clash (Some r) (cell_no k (set_cell i None cells))) same
    ∙ ap (clash (Some r)) (set_here i None cells within))
    (λ other. ap (clash (Some r)) (set_other i j None cells within other) ∙ apart j other)
    (cases_eq j i) in
    and_from (not (clashes (Some r) (set_cell i None cells))) (nat_lt (taken (set_cell i None cells)) most_rows)
    (ap not (no_clashes (Some r) (set_cell i None cells) others))
    (lt-ltb _ _ (omega (arith, taken_set i None cells within, few)))

pub may_be_placed : (format : ℕ) (unit : Option ℕ) (c : Cell) (cells : List Cell) → MayChange format unit c cells
    → is_placed unit c (with_unit unit None cells) ≡ true
may_be_placed format None c cells may = ap (λ (d : Cell). is_placed None d cells) may
may_be_placed format (Some i) c cells may = placed_row i c cells may.within may.alone may.few

pub unit_again : (format : ℕ) (unit : Option ℕ) (c : Cell) (cells : List Cell) → MayChange format unit c cells
    → with_unit unit c (with_unit unit None cells) ≡ with_unit unit c cells
unit_again format None c cells may = refl
unit_again format (Some i) c cells may = set_again i c None cells may.within

-- ---- a cell that stands

pub done_placed : (unit : Option ℕ) (c : Cell) (cells : List Cell) → HasCell unit c cells
    → ((i j : ℕ) → i < j → clash (cell_no j cells) (cell_no i cells) ≡ false) → taken cells ≤ most_rows
    → is_placed unit c (with_unit unit None cells) ≡ true
done_placed None c cells has once few = ap (λ (d : Cell). is_placed None d cells) has
done_placed (Some i) c cells has once few =
    let lt = has.0 in
    let apart : IsApart i c cells = λ j other. ap (λ (d : Cell). clash d (cell_no j cells)) (sym has.1) ∙ ⊎_elim
    (λ less. once j i less)
    (λ more. clash_turned (cell_no j cells) (cell_no i cells) (once i j (omega (arith, more, other))))
    (cases_lt j i) in
    placed_row i c cells (omega (arith, lt)) apart (omega (arith, few, ap taken_by has.1))

pub done_again : (unit : Option ℕ) (c : Cell) (cells : List Cell) → HasCell unit c cells
    → with_unit unit c (with_unit unit None cells) ≡ cells
done_again None c cells has = refl
done_again (Some i) c cells has = let lt =
    has.0 in set_again i c None cells (omega (arith, lt)) ∙ set_same i c cells has.0 has.1

pub unit_holds : (format : ℕ) (unit : Option ℕ) (c : Cell) (cells : List Cell) → MayChange format unit c cells
    → HasCell unit c (with_unit unit c cells)
unit_holds format None c cells may = may
unit_holds format (Some i) c cells may = (omega (arith, length-set i c cells may.within), set_here i c cells may.within)

-- ---- numbers of units

pub numbered_none : (cell : ℕ) → cell ≡ 0 → unit_numbered cell ≡ None
numbered_none cell is = cond-true (nat_eq cell 0) None (Some cell) (eq-eqb cell 0 is)

pub numbered_some : (cell : ℕ) → cell ≢ 0 → unit_numbered cell ≡ Some cell
numbered_some cell some = cond-false (nat_eq cell 0) None (Some cell) (ne_eqb cell 0 some)

-- What a file of cells holds, unit by unit, and what another cell in one of its units makes of it.
use Rattle.std.proofs.Common.{◌≡◌, ◌≢◌, ℕ, zero, suc, ◌+◌, ◌-◌, ◌*◌, ◌<◌, ◌≤◌, ⊎_elim, max, Bool, true, false, ◌||◌}
use Rattle.std.proofs.Common.{cond, ltb, List, [], ◌∷◌, length, Option, Some, None, refl, sym, ◌∙◌, ap, subst, arith}
use Rattle.std.specs.Prelude.{Result, Ok, Err}
use Rattle.std.proofs.lemmas.Bool.{cases_eq, cases_lt, cond-true, cond-false}
use Rattle.std.proofs.lemmas.Bool.{false_from_ne_true, true≢false, le-ltb, ltb-false}
use Rattle.kdb_base.specs.Limits.{most_rows}
use Rattle.princ_rows.specs.EntryLaws.{same_bytes, bytes_same}
use Rattle.kdb_cells.specs.declared.units.StoredRow.TheVariants.{Princ, Policy}
use Rattle.kdb_cells.specs.Cells.{Cell, unit_size, unit_text}
use Rattle.kdb_cells.specs.Sheets.{realm_in, cell_in, cell_or_free, cells_from, cells_of, count_of}
use Rattle.kdb_cells.specs.Sheets.{clash, clashes, taken_by, taken, is_too_far, is_fault}
use Rattle.kdb_cells.specs.Sheets.{fault_from, Sheet, sheet_with, sheet_in, set_cell, put_cell}
use Rattle.kdb_cells.specs.Changes.{cell_no}
use Rattle.kdb_cells.specs.FileCells.{MayStand}
use Rattle.kdb_cells.proofs.UnitTexts.{length-unit}
use Rattle.kdb_cells.proofs.UnitPuts.{count_put, place_within, realm_put, cell_other, cell_here}

-- ---- the cells before a unit, the newest first

unfoldable pub before : ℕ → List ℕ → ℕ → List Cell
before format file zero = []
before format file (suc i) = cell_or_free (cell_in format file i) ∷ before format file i

abbrev pub IsFine : ℕ → List ℕ → ℕ → Type 0
IsFine format file i = is_fault i (cell_in format file i) (before format file i) ≡ false

next_cells : (format : ℕ) (file : List ℕ) (i : ℕ)
    → cell_or_free (cell_in format file i) ∷ before format file i ≡ before format file (i + 1)
unfolding before
next_cells format file i = let on : suc i ≡ i + 1 = omega arith in ap (before format file) on

fault_none_from : (format : ℕ) (file : List ℕ) (i n : ℕ) → ((j : ℕ) → i ≤ j → j < i + n → IsFine format file j)
    → fault_from format file i n (before format file i) ≡ None
unfolding fault_from
fault_none_from format file i zero fine = refl
fault_none_from format file i (suc n) fine =
    cond-false (is_fault i (cell_in format file i) (before format file i))
    (Some i) (fault_from format file (i + 1) n (cell_or_free (cell_in format file i) ∷ before format file i))
    (fine i (omega arith) (omega arith))
    ∙ ap (fault_from format file (i + 1) n) (next_cells format file i)
    ∙ fault_none_from format file (i + 1) n (λ j ge lt. fine j (omega (arith, ge)) (omega (arith, lt)))

none_step : (b : Bool) (i : ℕ) (rest : Option ℕ) → cond b (Some i) rest ≡ None → (b ≡ false) × (rest ≡ None)
none_step true i rest is = absurd cc
none_step false i rest is = (refl, is)

none_fault_from : (format : ℕ) (file : List ℕ) (i n : ℕ) → fault_from format file i n (before format file i) ≡ None
    → (j : ℕ) → i ≤ j → j < i + n → IsFine format file j
unfolding fault_from
none_fault_from format file i zero none j ge lt = absurd (omega (arith, ge, lt))
none_fault_from format file i (suc n) none j ge lt =
    let step = none_step (is_fault i (cell_in format file i) (before format file i)) i _ none in
    ⊎_elim
    (λ same. subst (IsFine format file) (sym same) step.0)
    (λ other. none_fault_from format file (i + 1) n
    (sym (ap (fault_from format file (i + 1) n) (next_cells format file i)) ∙ step.1) j (omega (arith, ge, other))
    (omega (arith, lt)))
    (cases_eq j i)

fault_found_from : (format : ℕ) (file : List ℕ) (i n k : ℕ) → i ≤ k → k < i + n
    → ((j : ℕ) → i ≤ j → j < k → IsFine format file j) → is_fault k (cell_in format file k) (before format file k)
    ≡ true → fault_from format file i n (before format file i) ≡ Some k
unfolding fault_from
fault_found_from format file i zero k ge lt fine fault = absurd (omega (arith, ge, lt))
fault_found_from format file i (suc n) k ge lt fine fault =
    ⊎_elim
    (λ same.
    cond-true (is_fault i (cell_in format file i) (before format file i)) (Some i)
    (fault_from format file (i + 1) n (cell_or_free (cell_in format file i) ∷ before format file i))
    (subst (λ (j : ℕ). is_fault j (cell_in format file j) (before format file j) ≡ true) same fault)
    ∙ ap Some (sym same))
    (λ other.
    cond-false (is_fault i (cell_in format file i) (before format file i))
    (Some i) (fault_from format file (i + 1) n (cell_or_free (cell_in format file i) ∷ before format file i))
    (fine i (omega arith) (omega (arith, ge, other)))
    ∙ ap (fault_from format file (i + 1) n) (next_cells format file i)
    ∙ fault_found_from format file (i + 1) n k (omega (arith, ge, other)) (omega (arith, lt))
    (λ j ge' lt'. fine j (omega (arith, ge')) lt') fault)
    (cases_eq k i)

nothing_before : (format : ℕ) (file : List ℕ) → before format file 0 ≡ []
unfolding before
nothing_before format file = refl

pub fault_none : (format : ℕ) (file : List ℕ) (n : ℕ) → ((j : ℕ) → j < n → IsFine format file j)
    → fault_from format file 0 n [] ≡ None
fault_none format file n fine = ap (fault_from format file 0 n) (sym (nothing_before format file))
    ∙ fault_none_from format file 0 n (λ j ge lt. fine j (omega (arith, lt)))

pub none_fault : (format : ℕ) (file : List ℕ) (n : ℕ) → fault_from format file 0 n [] ≡ None → (j : ℕ) → j < n
    → IsFine format file j
none_fault format file n none j lt = none_fault_from format file 0 n
    (ap (fault_from format file 0 n) (nothing_before format file) ∙ none) j (omega arith) (omega (arith, lt))

pub fault_found : (format : ℕ) (file : List ℕ) (n k : ℕ) → k < n → ((j : ℕ) → j < k → IsFine format file j)
    → is_fault k (cell_in format file k) (before format file k) ≡ true → fault_from format file 0 n [] ≡ Some k
fault_found format file n k lt fine fault = ap (fault_from format file 0 n) (sym (nothing_before format file))
    ∙ fault_found_from format file 0 n k (omega arith) (omega (arith, lt)) (λ j ge lt'. fine j lt') fault

-- ---- cells by their numbers

pub no_cell_past : (cells : List Cell) (i : ℕ) → length cells ≤ i → cell_no i cells ≡ None
unfolding cell_no
no_cell_past [] i past = refl
no_cell_past (c ∷ cells) zero past = absurd (omega (arith, past))
no_cell_past (c ∷ cells) (suc i) past = no_cell_past cells i (omega (arith, past))

pub cell_from : (format : ℕ) (file : List ℕ) (k n i : ℕ) → i < n
    → cell_no i (cells_from format file k n) ≡ cell_or_free (cell_in format file (k + i))
unfolding cells_from cell_no
cell_from format file k zero i lt = absurd (omega (arith, lt))
cell_from format file k (suc n) zero lt = let here : k ≡ k + 0 =
    omega arith in ap (λ (j : ℕ). cell_or_free (cell_in format file j)) here
cell_from format file k (suc n) (suc i) lt =
    let next : k + 1 + i ≡ k + suc i = omega arith in
    cell_from format file (k + 1) n i (omega (arith, lt)) ∙ ap (λ (j : ℕ). cell_or_free (cell_in format file j)) next

pub length-cells : (format : ℕ) (file : List ℕ) (k n : ℕ) → length (cells_from format file k n) ≡ n
unfolding cells_from
length-cells format file k zero = refl
length-cells format file k (suc n) = omega (arith, length-cells format file (k + 1) n)

-- cells that are those of the units
pub same_cells : (format : ℕ) (file : List ℕ) (k n : ℕ) (cells : List Cell)
    → length cells ≡ n → ((i : ℕ) → i < n → cell_or_free (cell_in format file (k + i)) ≡ cell_no i cells)
    → cells_from format file k n ≡ cells
unfolding cells_from cell_no
same_cells format file k zero [] long same = refl
same_cells format file k zero (c ∷ cells) long same = absurd (omega (arith, long))
same_cells format file k (suc n) [] long same = absurd (omega (arith, long))
same_cells format file k (suc n) (c ∷ cells) long same =
    let here : k ≡ k + 0 = omega arith in
    ap (λ (d : Cell). d ∷ cells_from format file (k + 1) n)
    (ap (λ (j : ℕ). cell_or_free (cell_in format file j)) here ∙ same 0 (omega arith))
    ∙ ap (λ (rest : List Cell). c ∷ rest) (same_cells format file (k + 1) n cells (omega (arith, long)) (λ i lt.
    let next : k + 1 + i ≡ k + suc i = omega arith in
    ap (λ (j : ℕ). cell_or_free (cell_in format file j)) next ∙ same (suc i) (omega (arith, lt))))

-- ---- one cell is set

pub set_here : (i : ℕ) (x : Cell) (cells : List Cell) → i ≤ length cells → cell_no i (set_cell i x cells) ≡ x
unfolding set_cell cell_no
set_here zero x [] le = refl
set_here (suc i) x [] le = absurd (omega (arith, le))
set_here zero x (c ∷ cells) le = refl
set_here (suc i) x (c ∷ cells) le = set_here i x cells (omega (arith, le))

pub set_other : (i j : ℕ) (x : Cell) (cells : List Cell) → i ≤ length cells → j ≢ i
    → cell_no j (set_cell i x cells) ≡ cell_no j cells
unfolding set_cell cell_no
set_other zero zero x [] le other = absurd (other refl)
set_other zero (suc j) x [] le other = refl
set_other (suc i) j x [] le other = absurd (omega (arith, le))
set_other zero zero x (c ∷ cells) le other = absurd (other refl)
set_other zero (suc j) x (c ∷ cells) le other = refl
set_other (suc i) zero x (c ∷ cells) le other = refl
set_other (suc i) (suc j) x (c ∷ cells) le other =
    set_other i j x cells (omega (arith, le)) (λ same. other (ap suc same))

pub length-set : (i : ℕ) (x : Cell) (cells : List Cell) → i ≤ length cells
    → length (set_cell i x cells) ≡ max (length cells) (i + 1)
unfolding set_cell
length-set zero x [] le = refl
length-set (suc i) x [] le = absurd (omega (arith, le))
length-set zero x (c ∷ cells) le = omega arith
length-set (suc i) x (c ∷ cells) le = omega (arith, length-set i x cells (omega (arith, le)))

-- one row more, and one less where there was one
pub taken_set : (i : ℕ) (x : Cell) (cells : List Cell) → i ≤ length cells
    → taken (set_cell i x cells) + taken_by (cell_no i cells) ≡ taken cells + taken_by x
unfolding set_cell cell_no taken
taken_set zero x [] le = omega arith
taken_set (suc i) x [] le = absurd (omega (arith, le))
taken_set zero x (c ∷ cells) le = omega arith
taken_set (suc i) x (c ∷ cells) le = omega (arith, taken_set i x cells (omega (arith, le)))

-- ---- tests of a unit

or_none : (a b : Bool) → a ≡ false → b ≡ false → a || b ≡ false
or_none true b x y = x
or_none false b x y = y

none_or : (a b : Bool) → a || b ≡ false → (a ≡ false) × (b ≡ false)
none_or true b x = absurd (true≢false x)
none_or false b x = (refl, x)

-- What is known of a unit that is not at fault.
pub record IsFineCell (i : ℕ) (c : Cell) (earlier : List Cell) : Type 0 where
  pub near : is_too_far i c ≡ false
  pub new : clashes c earlier ≡ false
  pub few : taken_by c + taken earlier ≤ most_rows

pub fine_from : (i : ℕ) (o : Option Cell) (c : Cell) (earlier : List Cell) → o ≡ Some c → IsFineCell i c earlier
    → is_fault i o earlier ≡ false
fine_from i o c earlier is fine =
    ap (λ (x : Option Cell). is_fault i x earlier) is
    ∙ or_none (is_too_far i c) (clashes c earlier || ltb most_rows (taken_by c + taken earlier)) fine.near
    (or_none (clashes c earlier) (ltb most_rows (taken_by c + taken earlier)) fine.new (le-ltb _ _ fine.few))

pub fine_some : (i : ℕ) (o : Option Cell) (earlier : List Cell) → is_fault i o earlier ≡ false
    → (o ≡ Some (cell_or_free o)) × IsFineCell i (cell_or_free o) earlier
fine_some i None earlier fine = absurd (true≢false fine)
fine_some i (Some c) earlier fine =
    let a = none_or (is_too_far i c) (clashes c earlier || ltb most_rows (taken_by c + taken earlier)) fine in
    let b = none_or (clashes c earlier) (ltb most_rows (taken_by c + taken earlier)) a.1 in
    (refl, record { near = a.0; new = b.0; few = ltb-false _ _ b.1 })

-- a key that no unit before has
pub no_clash : (format : ℕ) (file : List ℕ) (c : Cell) (n : ℕ)
    → ((i : ℕ) → i < n → clash c (cell_or_free (cell_in format file i)) ≡ false)
    → clashes c (before format file n) ≡ false
unfolding before clashes
no_clash format file c zero new = refl
no_clash format file c (suc n) new =
    or_none (clash c (cell_or_free (cell_in format file n))) (clashes c (before format file n)) (new n (omega arith))
    (no_clash format file c n (λ i lt. new i (omega (arith, lt))))

pub clash_none : (format : ℕ) (file : List ℕ) (c : Cell) (n : ℕ) → clashes c (before format file n) ≡ false → (i : ℕ)
    → i < n → clash c (cell_or_free (cell_in format file i)) ≡ false
unfolding before clashes
clash_none format file c zero none i lt = absurd (omega (arith, lt))
clash_none format file c (suc n) none i lt =
    let both = none_or (clash c (cell_or_free (cell_in format file n))) (clashes c (before format file n)) none in
    ⊎_elim
    (λ same. ap (λ (j : ℕ). clash c (cell_or_free (cell_in format file j))) same ∙ both.0)
    (λ other. clash_none format file c n both.1 i (omega (arith, lt, other)))
    (cases_eq i n)

-- how many rows there are before a unit
taken_more : (format : ℕ) (file : List ℕ) (n : ℕ) → taken (before format file (n + 1))
    ≡ taken_by (cell_or_free (cell_in format file n)) + taken (before format file n)
unfolding taken
taken_more format file n = ap taken (sym (next_cells format file n))

taken_from : (format : ℕ) (file : List ℕ) (k n : ℕ)
    → taken (before format file k) + taken (cells_from format file k n) ≡ taken (before format file (k + n))
unfolding cells_from taken
taken_from format file k zero = let here : k ≡ k + 0 =
    omega arith in omega (arith, ap (λ (j : ℕ). taken (before format file j)) here)
taken_from format file k (suc n) =
    let next : k + 1 + n ≡ k + suc n = omega arith in
    omega (
      arith,
      taken_from format file (k + 1) n,
      taken_more format file k,
      ap (λ (j : ℕ). taken (before format file j)) next,
    )

taken_none : (format : ℕ) (file : List ℕ) → taken (before format file 0) ≡ 0
unfolding taken before
taken_none format file = refl

taken_all : (format : ℕ) (file : List ℕ) (n : ℕ) → taken (cells_from format file 0 n) ≡ taken (before format file n)
taken_all format file n =
    let same : 0 + n ≡ n = omega arith in
    omega (arith, taken_from format file 0 n, taken_none format file, ap (λ (j : ℕ). taken (before format file j)) same)

taken_rises : (format : ℕ) (file : List ℕ) (k n : ℕ) → k ≤ n
    → taken (before format file k) ≤ taken (before format file n)
taken_rises format file k n le =
    let same : k + (n - k) ≡ n = omega (arith, le) in
    omega (arith, taken_from format file k (n - k), ap (λ (j : ℕ). taken (before format file j)) same)

-- ---- a file of which no unit is at fault

-- So many units hold these cells: each is spelled, no row stands too far, no two rows have one key, and there are few
-- enough.
pub record IsSheet (format : ℕ) (file : List ℕ) (n : ℕ) (cells : List Cell) : Type 0 where
  pub long : length cells ≡ n
  pub reads : (i : ℕ) → i < length cells → cell_in format file i ≡ Some (cell_no i cells)
  pub near : (i : ℕ) → is_too_far i (cell_no i cells) ≡ false
  pub once : (i j : ℕ) → i < j → clash (cell_no j cells) (cell_no i cells) ≡ false
  pub few : taken cells ≤ most_rows

read_or_free : (o : Option Cell) (c : Cell) → o ≡ Some c → cell_or_free o ≡ c
read_or_free o c is = ap cell_or_free is

-- how many rows they have
pub taken_to : (format : ℕ) (file : List ℕ) (n : ℕ) (cells : List Cell) → IsSheet format file n cells
    → taken cells ≡ taken (before format file n)
taken_to format file n cells is =
    let same : cells_from format file 0 n ≡ cells = same_cells format file 0 n cells is.long (λ i lt.
    let here : 0 + i ≡ i = omega arith in ap (λ (j : ℕ). cell_or_free (cell_in format file j)) here
    ∙ read_or_free _ _ (is.reads i (omega (arith, lt, is.long)))) in
    ap taken (sym same) ∙ taken_all format file n

-- none of them is at fault
pub fine_to : (format : ℕ) (file : List ℕ) (n : ℕ) (cells : List Cell) → IsSheet format file n cells → (j : ℕ) → j < n
    → IsFine format file j
fine_to format file n cells is j lt =
    let read : (i : ℕ) → i < n → cell_or_free (cell_in format file i) ≡ cell_no i cells =
    λ i below. read_or_free _ _ (is.reads i (omega (arith, below, is.long))) in
    fine_from j (cell_in format file j) (cell_no j cells) (before format file j)
    (is.reads j (omega (arith, lt, is.long))) (record {
      near = is.near j;
      new = no_clash format file (cell_no j cells) j
          (λ i before_j. ap (clash (cell_no j cells)) (read i (omega (arith, before_j, lt))) ∙ is.once i j before_j);
      few = omega (
        arith,
        taken_more format file j,
        ap taken_by (read j lt),
        taken_rises format file (j + 1) n (omega (arith, lt)),
        taken_to format file n cells is,
        is.few,
      );
    })

-- those are what is read of the file
pub sheet_read : (format : ℕ) (file : List ℕ) (sheet : Sheet) → IsSheet format file (count_of format file) sheet.cells
    → realm_in format file ≡ Some sheet.realm → sheet_in format file ≡ Ok sheet
unfolding sheet_in
sheet_read format file sheet is realm =
    let count = count_of format file in
    let cells = sheet.cells in
    let same : cells_of format file ≡ cells = same_cells format file 0 count cells is.long (λ i lt.
    let here : 0 + i ≡ i = omega arith in ap (λ (j : ℕ). cell_or_free (cell_in format file j)) here
    ∙ read_or_free _ _ (is.reads i (omega (arith, lt, is.long)))) in
    ap (λ (o : Option ℕ). sheet_with format file o (realm_in format file))
    (fault_none format file count (fine_to format file count cells is))
    ∙ ap (sheet_with format file None) realm
    ∙ ap (λ (l : List Cell). let found : Result Sheet ℕ = Ok (record { realm = sheet.realm; cells = l }) in found) same

-- the unit behind them is at fault
pub sheet_fault : (format : ℕ) (file : List ℕ) (n : ℕ) (cells : List Cell) (realm : List ℕ)
    → IsSheet format file n cells → n < count_of format file → realm_in format file ≡ Some realm
    → is_fault n (cell_in format file n) (before format file n) ≡ true
    → sheet_in format file ≡ Err (n * unit_size format)
unfolding sheet_in
sheet_fault format file n cells realm is lt named fault =
    ap (λ (o : Option ℕ). sheet_with format file o (realm_in format file))
    (fault_found format file (count_of format file) n lt (fine_to format file n cells is) fault)
    ∙ ap (sheet_with format file (Some n)) named

-- the first unit names no realm
pub sheet_unnamed : (format : ℕ) (file : List ℕ) → realm_in format file ≡ None → sheet_in format file ≡ Err 0
unfolding sheet_in
sheet_unnamed format file none = ap (sheet_with format file (fault_from format file 0 (count_of format file) [])) none

-- What is known of a file that was read.
pub record IsRead (format : ℕ) (file : List ℕ) (sheet : Sheet) : Type 0 where
  pub realm : realm_in format file ≡ Some sheet.realm
  pub none : fault_from format file 0 (count_of format file) [] ≡ None
  pub cells : cells_of format file ≡ sheet.cells

with_read : (format : ℕ) (file : List ℕ) (fault : Option ℕ) (realm : Option (List ℕ)) (sheet : Sheet)
    → sheet_with format file fault realm ≡ Ok sheet
    → (fault ≡ None) × ((realm ≡ Some sheet.realm) × (cells_of format file ≡ sheet.cells))
with_read format file fault None sheet is = absurd cc
with_read format file (Some i) (Some realm) sheet is = absurd cc
with_read format file None (Some realm) sheet is =
    let same : ◌≡◌ {A = Sheet} (record { realm = realm; cells = cells_of format file }) sheet = cc in
    (refl, (ap (λ (s : Sheet). Some s.realm) same, ap (λ (s : Sheet). s.cells) same))

pub file_read : (format : ℕ) (file : List ℕ) (sheet : Sheet) → sheet_in format file ≡ Ok sheet
    → IsRead format file sheet
unfolding sheet_in
file_read format file sheet is =
    let split =
    with_read format file (fault_from format file 0 (count_of format file) []) (realm_in format file) sheet is in
    record { realm = split.1.0; none = split.0; cells = split.1.1 }

free_past : (c : Cell) (i : ℕ) → c ≡ None → is_too_far i c ≡ false
free_past c i is = ap (is_too_far i) is

-- the cells of a file that was read
pub read_sheet : (format : ℕ) (file : List ℕ) (sheet : Sheet) → sheet_in format file ≡ Ok sheet
    → IsSheet format file (count_of format file) sheet.cells
read_sheet format file sheet is =
    let read = file_read format file sheet is in
    let count = count_of format file in
    let cells = cells_of format file in
    let long = length-cells format file 0 count in
    let fine = λ (j : ℕ) (lt : j < count).
    fine_some j (cell_in format file j) (before format file j) (none_fault format file count read.none j lt) in
    let here : (i : ℕ) → i < count → cell_no i cells ≡ cell_or_free (cell_in format file i) = λ i lt.
    let same : 0 + i ≡ i = omega arith in
    cell_from format file 0 count i lt ∙ ap (λ (j : ℕ). cell_or_free (cell_in format file j)) same in
    subst (IsSheet format file (count_of format file)) read.cells (record {
      long = long;
      reads =
          λ i lt. let below : i < count = omega (arith, lt, long) in (fine i below).0 ∙ ap Some (sym (here i below));
      near = λ i. ⊎_elim
          (λ lt. ap (is_too_far i) (here i lt) ∙ (fine i lt).1.near)
          (λ past. free_past (cell_no i cells) i (no_cell_past cells i (omega (arith, past, long))))
          (cases_lt i count);
      once = λ i j lt. ⊎_elim
          (λ below.
          ap (λ (c : Cell). clash c (cell_no i cells)) (here j below)
          ∙ ap (clash (cell_or_free (cell_in format file j))) (here i (omega (arith, lt, below)))
          ∙ clash_none format file (cell_or_free (cell_in format file j)) j (fine j below).1.new i lt)
          (λ past. ap (λ (c : Cell). clash c (cell_no i cells)) (no_cell_past cells j (omega (arith, past, long))))
          (cases_lt j count);
      few = omega (arith, taken_all format file count, all_few count (omega arith) fine);
    })
  where
    all_few : (n : ℕ) → n ≤ count_of format file
        → ((j : ℕ) → j < count_of format file → (cell_in format file j ≡ Some (cell_or_free (cell_in format file j)))
        × IsFineCell j (cell_or_free (cell_in format file j)) (before format file j))
        → taken (before format file n) ≤ most_rows
    all_few zero le fine = omega (arith, taken_none format file)
    all_few (suc n) le fine =
        let few = (fine n (omega (arith, le))).1.few in
        let on : n + 1 ≡ suc n = omega arith in
        omega (arith, taken_more format file n, few, ap (λ (j : ℕ). taken (before format file j)) on)

-- ---- one unit is written

-- two rows clash in either order
clash_turned : (c d : Cell) → clash c d ≡ false → clash d c ≡ false
clash_turned None None apart = refl
clash_turned None (Some s) apart = refl
clash_turned (Some r) None apart = refl
clash_turned (Some (Princ p)) (Some (Princ q)) apart = false_from_ne_true _
    (λ same. true≢false (sym (bytes_same p.name q.name (sym (same_bytes q.name p.name same))) ∙ apart))
clash_turned (Some (Princ p)) (Some (Policy q)) apart = refl
clash_turned (Some (Policy p)) (Some (Princ q)) apart = refl
clash_turned (Some (Policy p)) (Some (Policy q)) apart = false_from_ne_true _
    (λ same. true≢false (sym (bytes_same p.name q.name (sym (same_bytes q.name p.name same))) ∙ apart))

sheet_put : (format i : ℕ) (c : Cell) (file : List ℕ) (cells : List Cell)
    → IsSheet format file (count_of format file) cells → MayStand format i c cells
    → IsSheet format (put_cell format i c file) (count_of format (put_cell format i c file)) (set_cell i c cells)
unfolding put_cell
sheet_put format i c file cells is may =
    let text = unit_text format c in
    let long = length-unit format c may.fits in
    let within = place_within format i file (omega (arith, may.within, is.long)) in
    let after = set_cell i c cells in
    let size = length-set i c cells may.within in
    let here = set_here i c cells may.within in
    let others = λ (j : ℕ) (other : j ≢ i). set_other i j c cells may.within other in
    record {
      long = omega (arith, size, is.long, count_put format i text file long within);
      reads = λ j lt. ⊎_elim
          (λ same. ap (cell_in format (put_cell format i c file)) same ∙ cell_here format i c file may.fits within
          may.from ∙ ap Some (sym (ap (λ (k : ℕ). cell_no k after) same ∙ here)))
          (λ other. cell_other format i j text file long within other
          ∙ is.reads j (omega (arith, lt, size, may.within, other)) ∙ ap Some (sym (others j other)))
          (cases_eq j i);
      near = λ j. ⊎_elim
          (λ same. ap (λ (k : ℕ). is_too_far k (cell_no k after)) same ∙ ap (is_too_far i) here ∙ may.near)
          (λ other. ap (is_too_far j) (others j other) ∙ is.near j)
          (cases_eq j i);
      once = λ a b lt. ⊎_elim
          (λ same.
          ap (λ (d : Cell). clash d (cell_no a after)) (ap (λ (k : ℕ). cell_no k after) same ∙ here)
          ∙ ap (clash c) (others a (λ e. absurd (omega (arith, e, same, lt))))
          ∙ may.alone a (λ e. absurd (omega (arith, e, same, lt))))
          (λ other. ap (λ (d : Cell). clash d (cell_no a after)) (others b other) ∙ ⊎_elim
          (λ same.
          ap (clash (cell_no b cells)) (ap (λ (k : ℕ). cell_no k after) same ∙ here)
          ∙ clash_turned c (cell_no b cells) (may.alone b other))
          (λ apart. ap (clash (cell_no b cells)) (others a apart) ∙ is.once a b lt)
          (cases_eq a i))
          (cases_eq b i);
      few = omega (arith, taken_set i c cells may.within, may.few);
    }

-- what is read of the file with another cell in this unit
pub put_sheet : (format i : ℕ) (c : Cell) (file : List ℕ) (sheet : Sheet)
    → sheet_in format file ≡ Ok sheet → MayStand format i c sheet.cells
    → sheet_in format (put_cell format i c file) ≡ Ok (record { realm = sheet.realm; cells = set_cell i c sheet.cells })
unfolding put_cell
put_sheet format i c file sheet is may =
    let cells = read_sheet format file sheet is in
    let long = length-unit format c may.fits in
    let within = place_within format i file (omega (arith, may.within, cells.long)) in
    sheet_read format (put_cell format i c file) (record { realm = sheet.realm; cells = set_cell i c sheet.cells })
    (sheet_put format i c file sheet.cells cells may)
    (realm_put format i (unit_text format c) file long within may.from ∙ (file_read format file sheet is).realm)

-- the file without what one unit says
pub skip_count : (format i : ℕ) (file : List ℕ) → i * unit_size format ≤ length file
    → count_of format (put_cell format i None file) ≡ max (count_of format file) (i + 1)
unfolding put_cell
skip_count format i file within = count_put format i (unit_text format None) file (length-unit format None tt) within

pub skip_here : (format i : ℕ) (file : List ℕ) → i * unit_size format ≤ length file → 1 ≤ i
    → cell_in format (put_cell format i None file) i ≡ Some None
skip_here format i file within from = cell_here format i None file tt within from

pub skip_other : (format i j : ℕ) (file : List ℕ) → i * unit_size format ≤ length file → j ≢ i
    → cell_in format (put_cell format i None file) j ≡ cell_in format file j
unfolding put_cell
skip_other format i j file within other =
    cell_other format i j (unit_text format None) file (length-unit format None tt) within other

pub skip_realm : (format i : ℕ) (file : List ℕ) → i * unit_size format ≤ length file → 1 ≤ i
    → realm_in format (put_cell format i None file) ≡ realm_in format file
unfolding put_cell
skip_realm format i file within from =
    realm_put format i (unit_text format None) file (length-unit format None tt) within from

-- The unit that is given for a change: what stands there, what may stand there, and which rows the cells then have.
use Rattle.std.proofs.Common.{◌≡◌, ◌≢◌, ℕ, zero, suc, ◌+◌, ◌<◌, ◌≤◌, ◌⊎◌, inl, inr, ⊎_elim, Bool, true, false}
use Rattle.std.proofs.Common.{List, [], ◌∷◌, ◌++◌, length, Option, Some, None, refl, sym, ap, subst, ◌∙◌, arith}
use Rattle.std.specs.Prelude.{filter}
use Rattle.std.specs.Str.{bytes_eq}
use Rattle.std.specs.List.{All, AllByRecursion}
use Rattle.std.proofs.lemmas.Bool.{cases_eq, cases_lt, cases_Bool, false_from_ne_true, true≢false}
use Rattle.std.proofs.lemmas.List.Elements.{recursion_from_All}
use Rattle.kdb_base.specs.Limits.{most_rows}
use Rattle.policy_rules.specs.Rules.{Rules}
use Rattle.policy_rules.specs.Names.{is_policy_name}
use Rattle.princ_name.specs.Printed.{IsPrinted}
use Rattle.princ_record.specs.RowLimits.{IsRow}
use Rattle.princ_record.specs.Policies.{IsPolicy}
use Rattle.princ_record.specs.declared.princs.Princ.{Princ as Principal}
use Rattle.princ_rows.specs.EntryLaws.{same_bytes, bytes_same}
use Rattle.princ_rows.specs.Entries.{IsOp, key_of}
use Rattle.princ_rows.specs.declared.entries.Op.{Op}
use Rattle.princ_rows.specs.declared.entries.Op.TheVariants.{PutPrinc, DropPrinc, Rename, PutPolicy, DropPolicy}
use Rattle.princ_rows.specs.Rows.{RowLists, AreRows}
use Rattle.princ_rows.specs.Effects.{is_lower, is_higher, put_by, drop_by, put_princ}
use Rattle.princ_rows.specs.Effects.{drop_princ, put_policy, drop_policy, effect, IsRoom}
use Rattle.princ_rows.specs.Undoing.{IsNewName}
use Rattle.kdb_cells.specs.declared.units.StoredRow.{StoredRow}
use Rattle.kdb_cells.specs.declared.units.StoredRow.TheVariants.{Princ, Policy}
use Rattle.kdb_cells.specs.Cells.{Cell, name_of, IsCell, IsStored}
use Rattle.kdb_cells.specs.Sheets.{clash, same_key, taken, taken_by, last_unit, is_too_far, set_cell}
use Rattle.kdb_cells.specs.Changes.{rows_of, cell_after, cell_no}
use Rattle.kdb_cells.specs.Keys.{printed_is_no_policy}
use Rattle.kdb_cells.specs.Leads.{Units, IsFree}
use Rattle.kdb_cells.specs.FileCells.{HasKey, AreCellsOf, MayStand}
use Rattle.kdb_cells.proofs.Cellwise.{same_key_name}
use Rattle.store_files.specs.Standing.{has_princ, has_policy, has_old, AreRowCells}
use Rattle.store_files.proofs.KeyEdits.{drop_edit, edit}
use Rattle.store_files.proofs.CellRows.{with_row, rows_by, Lacks, Differ, IsEdit, edited}
use Rattle.store_files.proofs.CellRows.{untouched, put_dropped, drop_absent, princ_of, policy_of}
use Rattle.store_files.proofs.CellRows.{princ_key, policy_key, rows_are, princs_are, policies_are}

-- ---- each row of the cells is one of the rows

module _ {X : Type 0} where
  all_parted : (P : X → Type 0) (xs : List X) (x : X) (ys : List X) → AllByRecursion P (xs ++ x ∷ ys)
      → P x × AllByRecursion P (xs ++ ys)
  all_parted P [] x ys all = all
  all_parted P (z ∷ xs) x ys all = let rest = all_parted P xs x ys all.1 in (rest.0, (all.0, rest.1))

  all_put : (P : X → Type 0) (key : X → List ℕ) (x : X) (xs : List X) → drop_by key (key x) xs ≡ xs
      → AllByRecursion P (put_by key x xs)
      → P x × AllByRecursion P xs
  unfolding put_by drop_by
  all_put P key x xs absent all =
      let split = all_parted P (filter (is_lower key (key x)) xs) x (filter (is_higher key (key x)) xs) all in
      (split.0, subst (AllByRecursion P) absent split.1)

  abbrev pub IfRow : (X → Type 0) → Option X → Type 0
  IfRow P None = Unit {0}
  IfRow P (Some x) = P x

  abbrev pub AreApart : (X → List ℕ) → (Cell → Option X) → List Cell → Type 0
  AreApart key row cells = (i j : ℕ) → i < j → Differ key (row (cell_no i cells)) (row (cell_no j cells))

  next_apart : (key : X → List ℕ) (row : Cell → Option X) (c : Cell) (cells : List Cell) → AreApart key row (c ∷ cells)
      → AreApart key row cells
  unfolding cell_no
  next_apart key row c cells apart i j lt = apart (suc i) (suc j) (omega (arith, lt))

  first_apart : (key : X → List ℕ) (row : Cell → Option X) (c : Cell) (cells : List Cell) → AreApart key row (c ∷ cells)
      → (x : X) → row c ≡ Some x
      → (j : ℕ) → Lacks key (key x) (row (cell_no j cells))
  unfolding cell_no
  first_apart key row c cells apart x is j =
      subst (λ (o : Option X). Differ key o (row (cell_no j cells))) is (apart 0 (suc j) (omega arith))

  -- what holds of all rows holds of the first cell's, and of all rows of the others
  all_first : (P : X → Type 0) (key : X → List ℕ) (o : Option X) (xs : List X)
      → ((x : X) → o ≡ Some x → drop_by key (key x) xs ≡ xs)
      → AllByRecursion P (with_row key o xs) → IfRow P o × AllByRecursion P xs
  all_first P key None xs absent all = (tt, all)
  all_first P key (Some x) xs absent all = all_put P key x xs (absent x refl) all

  pub each_row : (P : X → Type 0) (key : X → List ℕ) (row : Cell → Option X) (cells : List Cell) → row None ≡ None
      → AreApart key row cells
      → AllByRecursion P (rows_by key row cells) → (j : ℕ) → IfRow P (row (cell_no j cells))
  unfolding rows_by cell_no
  each_row P key row [] none apart all j = subst (IfRow P) (sym none) tt
  each_row P key row (c ∷ cells) none apart all zero =
      (all_first P key (row c) (rows_by key row cells)
      (λ x is. drop_absent key row (key x) cells (first_apart key row c cells apart x is)) all).0
  each_row P key row (c ∷ cells) none apart all (suc j) =
      each_row P key row cells none (next_apart key row c cells apart)
      (all_first P key (row c) (rows_by key row cells)
      (λ x is. drop_absent key row (key x) cells (first_apart key row c cells apart x is)) all).1 j

-- ---- cells to which an index leads

-- two rows of one name stand in one unit
one_place : (u : Units) (cells : List Cell) (i j : ℕ) (r s : StoredRow) → AreCellsOf u cells → cell_no i cells ≡ Some r
    → cell_no j cells ≡ Some s
    → name_of r ≡ name_of s → i ≡ j
one_place u cells i j r s are here there same =
    let both : Some i ≡ Some j = sym (are.found i r here) ∙ ap u.of same ∙ are.found j s there in
    let eq : i ≡ j = cc in eq

princ_there : (c : Cell) (p : Principal) → princ_of c ≡ Some p → c ≡ Some (Princ p)
princ_there None p is = absurd cc
princ_there (Some (Princ q)) p is = let same : q ≡ p = cc in ap (λ (x : Principal). Some (Princ x)) same
princ_there (Some (Policy q)) p is = absurd cc

policy_there : (c : Cell) (p : Rules) → policy_of c ≡ Some p → c ≡ Some (Policy p)
policy_there None p is = absurd cc
policy_there (Some (Princ q)) p is = absurd cc
policy_there (Some (Policy q)) p is = let same : q ≡ p = cc in ap (λ (x : Rules). Some (Policy x)) same

differ_by : {X : Type 0} (key : X → List ℕ) (a b : Option X) → ((x y : X) → a ≡ Some x → b ≡ Some y → key y ≢ key x)
    → Differ key a b
differ_by key None b apart = tt
differ_by key (Some x) None apart = tt
differ_by key (Some x) (Some y) apart = apart x y refl refl

pub princs_apart : (u : Units) (cells : List Cell) → AreCellsOf u cells → AreApart princ_key princ_of cells
princs_apart u cells are i j lt = differ_by princ_key _ _ (λ p q here there same.
    let eq = one_place u cells i j (Princ p) (Princ q) are (princ_there _ p here) (princ_there _ q there) (sym same) in
    absurd (omega (arith, lt, eq)))

pub policies_apart : (u : Units) (cells : List Cell) → AreCellsOf u cells → AreApart policy_key policy_of cells
policies_apart u cells are i j lt = differ_by policy_key _ _ (λ p q here there same.
    let eq = one_place u cells i j (Policy p) (Policy q) are (policy_there _ p here) (policy_there _ q there)
    (sym same) in absurd (omega (arith, lt, eq)))

-- what holds of all principals of the rows holds of each in the cells
pub each_princ : (P : Principal → Type 0) (u : Units) (cells : List Cell) (rows : RowLists) → AreCellsOf u cells
    → rows_of cells ≡ rows
    → All P rows.princs → (j : ℕ) (p : Principal) → cell_no j cells ≡ Some (Princ p) → P p
each_princ P u cells rows are same all j p is =
    let held = subst (AllByRecursion P) (ap (λ (r : RowLists). r.princs) (sym same) ∙ princs_are cells)
    (recursion_from_All P rows.princs all) in
    subst (IfRow P) (ap princ_of is) (each_row P princ_key princ_of cells refl (princs_apart u cells are) held j)

pub each_policy : (P : Rules → Type 0) (u : Units) (cells : List Cell) (rows : RowLists) → AreCellsOf u cells
    → rows_of cells ≡ rows
    → All P rows.policies → (j : ℕ) (p : Rules) → cell_no j cells ≡ Some (Policy p) → P p
each_policy P u cells rows are same all j p is =
    let held = subst (AllByRecursion P) (ap (λ (r : RowLists). r.policies) (sym same) ∙ policies_are cells)
    (recursion_from_All P rows.policies all) in
    subst (IfRow P) (ap policy_of is) (each_row P policy_key policy_of cells refl (policies_apart u cells are) held j)

-- ---- keys and kinds

has_princ_key : (name : List ℕ) (r : StoredRow) → has_princ name (Some r) ≡ true → name_of r ≡ name
has_princ_key name (Princ p) e = same_bytes p.name name e
has_princ_key name (Policy p) e = absurd cc

has_policy_key : (name : List ℕ) (r : StoredRow) → has_policy name (Some r) ≡ true → name_of r ≡ name
has_policy_key name (Princ p) e = absurd cc
has_policy_key name (Policy p) e = same_bytes p.name name e

-- the cell that has the row that a change is about has its key
pub old_key : (op : Op) (r : StoredRow) → has_old op (Some r) ≡ true → name_of r ≡ key_of (Some op)
unfolding key_of
old_key (PutPrinc p) r e = has_princ_key p.name r e
old_key (DropPrinc name) r e = has_princ_key name r e
old_key (Rename old p) r e = has_princ_key old r e
old_key (PutPolicy p) r e = has_policy_key p.name r e
old_key (DropPolicy name) r e = has_policy_key name r e

has_printed : (u : Units) (cells : List Cell) (rows : RowLists) (name : List ℕ) (j : ℕ) (r : StoredRow)
    → AreRowCells u cells rows → IsPrinted name
    → cell_no j cells ≡ Some r → name_of r ≡ name → has_princ name (Some r) ≡ true
has_printed u cells rows name j (Princ p) is printed here same = bytes_same p.name name same
has_printed u cells rows name j (Policy p) is printed here same =
    let policy = each_policy IsPolicy u cells rows is.are is.rows_is is.sound.policies j p here in
    absurd (printed_is_no_policy name printed (ap is_policy_name (sym same) ∙ policy.named))

has_named : (u : Units) (cells : List Cell) (rows : RowLists) (name : List ℕ) (j : ℕ) (r : StoredRow)
    → AreRowCells u cells rows
    → is_policy_name name ≡ true → cell_no j cells ≡ Some r → name_of r ≡ name → has_policy name (Some r) ≡ true
has_named u cells rows name j (Princ p) is named here same =
    let row = each_princ IsRow u cells rows is.are is.rows_is is.sound.princs j p here in
    absurd (printed_is_no_policy p.name row.fits.name (ap is_policy_name same ∙ named))
has_named u cells rows name j (Policy p) is named here same = bytes_same p.name name same

-- and one that has its key has the row
pub key_old : (u : Units) (cells : List Cell) (rows : RowLists) (op : Op) (j : ℕ) (r : StoredRow)
    → AreRowCells u cells rows → IsOp (Some op)
    → cell_no j cells ≡ Some r → name_of r ≡ key_of (Some op) → has_old op (Some r) ≡ true
unfolding key_of
key_old u cells rows (PutPrinc p) j r is fits here same =
    has_printed u cells rows p.name j r is fits.fits.name here same
key_old u cells rows (DropPrinc name) j r is fits here same = has_printed u cells rows name j r is fits here same
key_old u cells rows (Rename old p) j r is fits here same = has_printed u cells rows old j r is fits.0 here same
key_old u cells rows (PutPolicy p) j r is fits here same = has_named u cells rows p.name j r is fits.named here same
key_old u cells rows (DropPolicy name) j r is fits here same = has_named u cells rows name j r is fits here same

-- What a planned change makes of cells and rows.
use Rattle.std.proofs.Common.{◌≡◌, ◌≢◌, ℕ, ◌≤◌, ⊎_elim, List, length, Option}
use Rattle.std.proofs.Common.{Some, None, refl, sym, ap, subst, ◌∙◌, arith}
use Rattle.std.proofs.lemmas.Bool.{cases_eq}
use Rattle.princ_rows.specs.Entries.{IsOp}
use Rattle.princ_rows.specs.declared.entries.Op.{Op}
use Rattle.princ_rows.specs.declared.entries.Op.TheVariants.{PutPrinc, DropPrinc, Rename, PutPolicy, DropPolicy}
use Rattle.princ_rows.specs.Rows.{RowLists}
use Rattle.princ_rows.specs.Effects.{effect, IsRoom}
use Rattle.princ_rows.specs.Undoing.{IsNewName}
use Rattle.kdb_cells.specs.declared.units.StoredRow.{StoredRow}
use Rattle.kdb_cells.specs.Cells.{Cell, name_of, IsCell, IsRowText}
use Rattle.kdb_cells.specs.CellFiles.{CellFile, units, count}
use Rattle.kdb_cells.specs.Changes.{rows_of, cell_after, cell_no}
use Rattle.kdb_cells.specs.FileCells.{AreCellsOf, MayStand}
use Rattle.kdb_cells.specs.Leads.{Units, IsFree}
use Rattle.kdb_cells.specs.Sheets.{taken, taken_by}
use Rattle.store_files.specs.Found.{unit_numbered, with_unit}
use Rattle.store_files.specs.Standing.{MayChange, AreRowCells}
use Rattle.store_files.proofs.Units.{numbered_none, numbered_some, IsApart}
use Rattle.store_files.proofs.Changing.{may_stand, rows_given, drop_princ_absent, drop_policy_absent}
use Rattle.store_files.proofs.Changing.{princ_absent, policy_absent, cell_fits, leads_alone}
use Rattle.kdb_store.specs.Writes.{number_of, IsGivenTo, MayWrite, MayPut, HasNoRow, IsPlan}
use Rattle.store_opening.specs.declared.unit_writes.UnitWrite.{UnitWrite}
use Rattle.store_opening.specs.declared.unit_writes.UnitWrite.TheVariants.{Nothing, Put, Free}

-- What is known of the cells that a planned change makes.
pub record MakesRows (n : ℕ) (op : Op) (cells : List Cell) (rows : RowLists) : Type 0 where
  pub may : MayChange 2 (unit_numbered n) (cell_after op) cells
  pub rows_are : rows_of (with_unit (unit_numbered n) (cell_after op) cells) ≡ effect (Some op) rows
  pub within : n ≤ length cells

none_left : (op : Op) (rows : RowLists) → HasNoRow op rows → cell_after op ≡ None
none_left (PutPrinc p) rows none = absurd none
none_left (DropPrinc name) rows none = refl
none_left (Rename old p) rows none = absurd none
none_left (PutPolicy p) rows none = absurd none
none_left (DropPolicy name) rows none = refl

none_changed : (u : Units) (cells : List Cell) (rows : RowLists) (op : Op) → AreRowCells u cells rows → HasNoRow op rows
    → rows_of cells ≡ effect (Some op) rows
none_changed u cells rows (PutPrinc p) is none = absurd none
none_changed u cells rows (DropPrinc name) is none =
    drop_princ_absent name cells (princ_absent u cells rows name is none)
    ∙ ap (effect (Some (DropPrinc name))) is.rows_is
none_changed u cells rows (Rename old p) is none = absurd none
none_changed u cells rows (PutPolicy p) is none = absurd none
none_changed u cells rows (DropPolicy name) is none =
    drop_policy_absent name cells (policy_absent u cells rows name is none)
    ∙ ap (effect (Some (DropPolicy name))) is.rows_is

pub plan_makes : (w : UnitWrite) (op : Op) (u : Units) (cells : List Cell) (rows : RowLists) → IsPlan w op u rows
    → AreRowCells u cells rows
    → IsOp (Some op) → IsNewName op rows → IsRoom (effect (Some op) rows) → MakesRows (number_of w) op cells rows
plan_makes w op u cells rows plan is fits new room = ⊎_elim
    (λ zero_.
    let none = plan.none zero_ in
    let unit = numbered_none (number_of w) zero_ in
    record {
      may = subst (λ (x : Option ℕ). MayChange 2 x (cell_after op) cells) (sym unit) (none_left op rows none);
      rows_are = ap (λ (x : Option ℕ). rows_of (with_unit x (cell_after op) cells)) unit
          ∙ none_changed u cells rows op is none;
      within = omega (arith, zero_);
    })
    (λ some.
    let given = plan.given some in
    let unit = numbered_some (number_of w) some in
    let within = given.within in
    record {
      may = subst (λ (x : Option ℕ). MayChange 2 x (cell_after op) cells) (sym unit)
          (may_stand u cells rows op (number_of w) is fits new room plan.near given);
      rows_are = ap (λ (x : Option ℕ). rows_of (with_unit x (cell_after op) cells)) unit
          ∙ rows_given u cells rows op (number_of w) is fits new given;
      within = omega (arith, within, is.are.next);
    })
    (cases_eq (number_of w) 0)

-- ---- what a put asks of the index

free_there : (u : Units) (cells : List Cell) (i : ℕ) (c : Cell) → AreCellsOf u cells → cell_no i cells ≡ c → IsFree i u
    → taken_by (cell_no i cells) ≡ 0
free_there u cells i None are here free = ap taken_by here
free_there u cells i (Some s) are here free = absurd (free (name_of s) (are.found i s here))

put_may : (c : CellFile) (cells : List Cell) (rows : RowLists) (op : Op) (cell kind : ℕ) (key row : List ℕ)
    (r : StoredRow)
    → AreRowCells (units c) cells rows → count c ≡ taken cells → IsOp (Some op) → cell_after op ≡ Some r
    → IsRowText 2 kind key row r
    → MayStand 2 cell (cell_after op) cells → MayPut cell key c
put_may c cells rows op cell kind key row r is many fits left text may =
    let apart : IsApart cell (Some r) cells = subst (λ (d : Cell). IsApart cell d cells) left may.alone in
    let few = may.few in
    record {
      alone = λ i leads. leads_alone (units c) cells rows cell r is (subst (IsCell 2) left (cell_fits op fits)) apart i
          (ap (units c).of (sym text.named) ∙ leads);
      few = λ free. omega (
        arith,
        few,
        ap taken_by left,
        many,
        free_there (units c) cells cell (cell_no cell cells) is.are refl free,
      );
    }

pub plan_may : (w : UnitWrite) (c : CellFile) (op : Op) (cells : List Cell) (rows : RowLists)
    → IsPlan w op (units c) rows
    → AreRowCells (units c) cells rows → count c ≡ taken cells → IsOp (Some op) → IsNewName op rows
    → IsRoom (effect (Some op) rows) → IsGivenTo w c
    → MayWrite w c
plan_may Nothing c op cells rows plan is many fits new room given = tt
plan_may (Put cell key row kind) c op cells rows plan is many fits new room given =
    let low = given.0 in
    let some : cell ≢ 0 = λ e. absurd (omega (arith, low, e)) in
    put_may c cells rows op cell kind key row plan.writes.0 is many fits plan.writes.1.0 plan.writes.1.1
    (may_stand (units c) cells rows op cell is fits new room plan.near (plan.given some))
plan_may (Free cell) c op cells rows plan is many fits new room given = tt

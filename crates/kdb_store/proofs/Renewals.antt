-- A database whose rows and log were written anew.
use Rattle.std.proofs.Common.{◌≡◌, ℕ, ◌≤◌, List, [], ◌∷◌, true, ◌&&◌, sym, ap, subst, ◌∙◌, arith}
use Rattle.std.specs.Prelude.{nat_lt}
use Rattle.std.proofs.lemmas.Bool.{and_parts, ltb-true}
use Rattle.kdb_base.specs.declared.moments.Point.{Point}
use Rattle.kdb_disk.specs.View.{View}
use Rattle.kdb_disk.specs.Moments.{LeavesOnly}
use Rattle.kdb_control.specs.Choice.{Choice, is_format, in_ranges}
use Rattle.princ_rows.specs.Rows.{RowLists}
use Rattle.update_log.specs.Logs.{Journal, begun}
use Rattle.kdb_cells.specs.CellFiles.{CellFile}
use Rattle.kdb_places.specs.Places.{Place}
use Rattle.cell_files.specs.NewFiles.{NewCells, sheet_for}
use Rattle.cell_files.proofs.KeptRows.{rows_kept}
use Rattle.store_files.specs.Kept.{Kept, IsOnDisk, AreIndexed, place_kept}
use Rattle.store_files.specs.Recovery.{LeavesPart}
use Rattle.store_switches.specs.Renewed.{renewed_choice, renewed, place_renewed, HasRows}
use Rattle.store_switches.proofs.Ranges.{ranged}
use Rattle.kdb_store.specs.declared.replacing.Renewal.{Renewal}
use Rattle.kdb_store.specs.Renewals.{IsPlanned, AreRenewed}

-- ---- what was written is kept

pub indexed_rows : (realm : List ℕ) (rows : RowLists) (image : NewCells) → HasRows realm rows image
    → AreIndexed image.cells rows
indexed_rows realm rows image has = record {
  cells = (sheet_for realm rows).cells;
  leads = has.cells.cells;
  many = has.cells.count;
  rows_is = rows_kept realm rows has.sound;
}

pub are_renewed : (base : Point) (size block : ℕ) (realm : List ℕ) (rows : RowLists) (old next : Choice) (log : Journal)
    (cells : CellFile) (plan : Renewal)
    → next ≡ renewed_choice next.image next.log base size block old → IsPlanned next realm rows plan → log ≡ plan.log
    → cells ≡ plan.image.cells
    → AreRenewed base size block rows old next log cells
are_renewed base size block realm rows old next log cells plan chosen planned same_log same_cells = record {
  control_is = chosen;
  log_is = same_log ∙ planned.log_is ∙ ap (λ (c : Choice). begun next.log c.base c.size c.block) chosen;
  file_is = ap (λ (c : CellFile). c.file) same_cells ∙ planned.file_is;
  format_is = ap (λ (c : CellFile). c.format) same_cells ∙ planned.has_rows.format_is;
  indexed = subst (λ (c : CellFile). AreIndexed c rows) (sym same_cells)
      (indexed_rows realm rows plan.image planned.has_rows);
}

-- ---- its place

pub place_is_renewed : (k : Kept) (base : Point) (size block : ℕ) (control : Choice) (log : Journal) (cells : CellFile)
    (realm : List ℕ) (rows : RowLists)
    → AreRenewed base size block rows k.control control log cells
    → place_kept (renewed control log cells realm rows k) ≡ place_renewed base size block realm rows (place_kept k)
place_is_renewed k base size block control log cells realm rows are =
    let made : Choice → Journal → Place = λ (c : Choice) (l : Journal). place_kept (renewed c l cells realm rows k) in
    ap (λ (c : Choice). made c log) are.control_is
    ∙ ap (made (renewed_choice control.image control.log base size block k.control)) are.log_is

-- the place that the choice of files leads to
pub own_renewal : {v new : View} (k : Kept) (next now : Choice) (base : Point) (size block : ℕ) (realm : List ℕ)
    (rows : RowLists)
    → next ≡ renewed_choice next.image next.log base size block now
    → LeavesOnly v new
    (LeavesPart (place_kept k) (place_renewed next.base next.size next.block realm rows (place_kept k) ∷ []))
    → LeavesOnly v new (LeavesPart (place_kept k) (place_renewed base size block realm rows (place_kept k) ∷ []))
own_renewal {v} {new} k next now base size block realm rows is run =
    subst (λ (c : Choice). LeavesOnly v new
    (LeavesPart (place_kept k) (place_renewed c.base c.size c.block realm rows (place_kept k) ∷ []))) is run

-- where the choice of files is told in other words
pub at_choice : {v new : View} (k : Kept) (old now : Choice) (base : Point) (realm : List ℕ) (rows : RowLists)
    → old ≡ now
    → LeavesOnly v new
    (LeavesPart (place_kept k) (place_renewed base old.size old.block realm rows (place_kept k) ∷ []))
    → LeavesOnly v new
    (LeavesPart (place_kept k) (place_renewed base now.size now.block realm rows (place_kept k) ∷ []))
at_choice {v} {new} k old now base realm rows is run =
    subst (λ (c : Choice). LeavesOnly v new
    (LeavesPart (place_kept k) (place_renewed base c.size c.block realm rows (place_kept k) ∷ []))) is run

-- what a crash leaves, told of the same database
pub told_at : {v new : View} (after : Kept → Place) (k old : Kept) → k ≡ old
    → LeavesOnly v new (LeavesPart (place_kept k) (after k ∷ []))
    → LeavesOnly v new (LeavesPart (place_kept old) (after old ∷ []))
told_at {v} {new} after k old is run =
    subst (λ (x : Kept). LeavesOnly v new (LeavesPart (place_kept x) (after x ∷ []))) is run

-- ---- nothing was written

pub same_parts : (k : Kept) (control : Choice) (log : Journal) (cells : CellFile) (rows : RowLists)
    → control ≡ k.control → log ≡ k.log → cells ≡ k.cells
    → rows ≡ k.rows → renewed control log cells k.realm rows k ≡ k
same_parts k control log cells rows a b c d =
    ap (λ (x : Choice). renewed x log cells k.realm rows k) a
    ∙ ap (λ (x : Journal). renewed k.control x cells k.realm rows k) b
    ∙ ap (λ (x : CellFile). renewed k.control k.log x k.realm rows k) c
    ∙ ap (λ (x : RowLists). renewed k.control k.log k.cells k.realm x k) d

pub same_renewal : (k : Kept) (control : Choice) (log : Journal) (cells : CellFile) (realm : List ℕ) (rows : RowLists)
    → control ≡ k.control → log ≡ k.log → cells ≡ k.cells
    → realm ≡ k.realm → rows ≡ k.rows → renewed control log cells realm rows k ≡ k
same_renewal k control log cells realm rows a b c d e =
    ap (λ (x : List ℕ). renewed control log cells x rows k) d ∙ same_parts k control log cells rows a b c e

pub still_on : {D : Type 0} (view : D → View) (k old next : Kept) (before after : D) → next ≡ k → k ≡ old
    → after ≡ before → IsOnDisk old (view before) → IsOnDisk next (view after)
still_on view k old next before after same is nothing on =
    subst (λ d. IsOnDisk next (view d)) (sym nothing)
    (subst (λ (x : Kept). IsOnDisk x (view before)) (sym (same ∙ is)) on)

-- ---- the size of a log and the length of its blocks

pub size_in : (format turn image log stash size block : ℕ)
    → (is_format format && in_ranges turn image log stash size block) ≡ true → (2 ≤ size) × (size ≤ 10000)
size_in format turn image log stash size block all =
    let p = and_parts (nat_lt 1 size) (nat_lt size 10001) (ranged format turn image log stash size block all).sizes in
    let low = ltb-true 1 size p.0 in
    let high = ltb-true size 10001 p.1 in
    (omega (arith, low), omega (arith, high))

pub block_in : (format turn image log stash size block : ℕ)
    → (is_format format && in_ranges turn image log stash size block) ≡ true → (2048 ≤ block) × (block ≤ 16384)
block_in format turn image log stash size block all =
    let p =
    and_parts (nat_lt 2047 block) (nat_lt block 16385) (ranged format turn image log stash size block all).blocks in
    let low = ltb-true 2047 block p.0 in
    let high = ltb-true block 16385 p.1 in
    (omega (arith, low), omega (arith, high))

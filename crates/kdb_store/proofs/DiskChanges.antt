-- A change on the disk: the unit is written behind the entry.
use Rattle.std.proofs.Common.{◌≡◌, ◌≢◌, ℕ, zero, suc, ◌*◌, refl, inr, ⊎_elim, List, Option, sym, ap, subst, ◌∙◌}
use Rattle.std.specs.Prelude.{Ok}
use Rattle.std.proofs.lemmas.Bool.{cases_eq}
use Rattle.kdb_disk.specs.Files.{Files}
use Rattle.kdb_disk.specs.View.{View}
use Rattle.kdb_disk.specs.Moments.{LeavesOnly, LeavesTorn}
use Rattle.kdb_disk.proofs.Puts.{written-other}
use Rattle.kdb_disk.proofs.Runs.{started, then_on}
use Rattle.princ_rows.specs.declared.entries.Logged.{Logged}
use Rattle.update_log.specs.Logs.{Journal, with_prepared}
use Rattle.update_log.specs.Moments.{IsDurable, ReadsOthers}
use Rattle.kdb_cells.specs.Cells.{Cell, unit_size}
use Rattle.kdb_cells.specs.CellFiles.{CellFile}
use Rattle.kdb_cells.specs.FileCells.{IsFileOf}
use Rattle.kdb_cells.specs.Sheets.{sheet_in}
use Rattle.store_files.specs.Found.{Found}
use Rattle.store_files.specs.Standing.{Holds, Pending, IsLogOf, IsUnderWay, after}
use Rattle.store_files.proofs.Committing.{unit_runs, written_each, unchanged_stands, after_done, other_durable}
use Rattle.store_files.proofs.Units.{numbered_none, numbered_some}
use Rattle.kdb_store.specs.Parts.{ArePending, MayCommit}
use Rattle.store_opening.specs.declared.unit_writes.UnitWrite.{UnitWrite}
use Rattle.store_opening.specs.Writes.{WritesIn}
use Rattle.kdb_store.specs.Writes.{Writes, IsWritten}

module _ {D : Type 0} (view : D → View) where
  -- nothing is written where there is no unit
  pub unit_crash : (mid new : D) (log : Journal) (cells : CellFile) (l : Logged) (o : Found) (v : View)
      → MayCommit log cells l o v
      → ArePending l o (view mid) → (l.cell ≡ 0 → new ≡ mid)
      → LeavesTorn cells.file (l.cell * unit_size cells.format) (unit_size cells.format) (view mid) (view new)
      → LeavesOnly (view mid) (view new) (Pending l o)
  unit_crash mid new log cells l o v may pending nothing run = ⊎_elim
      (λ none. subst (λ (d : D). LeavesOnly (view mid) (view d) (Pending l o)) (sym (nothing none))
      (started (view mid) (Pending l o) pending.each))
      (λ some.
      let at_file =
      subst (λ (f : ℕ). LeavesTorn f (l.cell * unit_size cells.format) (unit_size cells.format) (view mid) (view new))
      may.file_is run in
      let at_format =
      subst (λ (f : ℕ). LeavesTorn o.control.image (l.cell * unit_size f) (unit_size f) (view mid) (view new))
      may.format_is at_file in
      unit_runs o l l.cell may.stands.files (numbered_some l.cell some) pending.each at_format)
      (cases_eq l.cell 0)

  pub change_crash : (old mid new : D) (log : Journal) (cells : CellFile) (l : Logged) (o : Found)
      → MayCommit log cells l o (view old)
      → ArePending l o (view mid) → (l.cell ≡ 0 → new ≡ mid)
      → LeavesTorn cells.file (l.cell * unit_size cells.format) (unit_size cells.format) (view mid) (view new)
      → LeavesOnly (view old) (view mid) (IsUnderWay l o) → LeavesOnly (view old) (view new) (IsUnderWay l o)
  change_crash old mid new log cells l o may pending nothing run first =
      then_on {P = IsUnderWay l o} first (unit_crash mid new log cells l o (view old) may pending nothing run)
      (λ c pending_. inr pending_)

  -- all stands once the unit is written
  pub change_stands : (mid new : D) (log : Journal) (cells later : CellFile) (l : Logged) (o : Found) (v : View)
      → MayCommit log cells l o v
      → ArePending l o (view mid) → (l.cell ≡ 0 → new ≡ mid)
      → LeavesTorn cells.file (l.cell * unit_size cells.format) (unit_size cells.format) (view mid) (view new)
      → (l.cell ≢ 0 → IsWritten cells.file (l.cell * unit_size cells.format) (view mid) (view new))
      → later.format ≡ cells.format → IsFileOf later (after l o).sheet ((view new).seen cells.file)
      → Holds (after l o) (view new)
  change_stands mid new log cells later l o v may pending nothing run wrote same tie = record {
    done = after_done l o may.stands.files.size may.change.fits;
    files = may.stands.files;
    each = λ c now. ⊎_elim
        (λ none.
        let there : (view mid).images c = subst (λ (d : D). (view d).images c) (nothing none) now in
        unchanged_stands l o c (numbered_none l.cell none) (pending.each c there))
        (λ some.
        let at_file =
        subst (λ (f : ℕ). LeavesTorn f (l.cell * unit_size cells.format) (unit_size cells.format) (view mid) (view new))
        may.file_is run in
        let durable : (d : Files) → (view new).images d → d o.control.image ≡ (view new).seen o.control.image =
        λ d here.
        subst (λ (f : ℕ). d f ≡ (view new).seen f) may.file_is ((wrote some).durable d here) in
        let read : sheet_in o.control.format ((view new).seen o.control.image) ≡ Ok (after l o).sheet =
        ap (λ (f : ℕ). sheet_in f ((view new).seen o.control.image)) (sym (same ∙ may.format_is))
        ∙ ap (λ (f : ℕ). sheet_in later.format ((view new).seen f)) (sym may.file_is) ∙ tie.read in
        written_each o l (l.cell * unit_size cells.format) (unit_size cells.format) may.stands.files pending.each
        at_file durable read c now)
        (cases_eq l.cell 0);
  }

  -- the log's file is as it was
  pub change_durable : (mid new : D) (cells : CellFile) (cell g : ℕ) → g ≢ cells.file → (cell ≡ 0 → new ≡ mid)
      → LeavesTorn cells.file (cell * unit_size cells.format) (unit_size cells.format) (view mid) (view new)
      → (cell ≢ 0 → IsWritten cells.file (cell * unit_size cells.format) (view mid) (view new)) → IsDurable g (view mid)
      → IsDurable g (view new)
  change_durable mid new cells cell g apart nothing run wrote durable = ⊎_elim
      (λ none. subst (λ (d : D). IsDurable g (view d)) (sym (nothing none)) durable)
      (λ some. other_durable cells.file g (cell * unit_size cells.format) (unit_size cells.format)
      (wrote some).bytes apart durable run (wrote some).seen)
      (cases_eq cell 0)

-- the file of cells reads as before once the entry is open
pub tie_kept : {old : View} (mid : View) (log : Journal) (cells : CellFile) (l : Logged) (o : Found)
    → log.file ≢ cells.file
    → MayCommit log cells l o old → ReadsOthers log.file old mid → IsFileOf cells o.sheet (mid.seen cells.file)
tie_kept {old} mid log cells l o apart may others =
    subst (λ (b : List ℕ). IsFileOf cells o.sheet b) (sym (others cells.file (λ e. apart (sym e)))) may.tie

-- an entry may be made of what stands, whatever is noted of what is prepared
pub noted_commit : {log : Journal} {cells : CellFile} {l : Logged} {o : Found} {v : View} (noted : Journal)
    (p : Option Logged) → noted ≡ with_prepared p log
    → MayCommit log cells l o v → MayCommit noted cells l o v
noted_commit {log} {cells} {l} {o} {v} noted p is may = record {
  log_is = subst (λ (j : Journal). IsLogOf j o) (sym is) (record {
    file_is = may.log_is.file_is;
    base_is = may.log_is.base_is;
    size_is = may.log_is.size_is;
    block_is = may.log_is.block_is;
    held_is = may.log_is.held_is;
  });
  stands = may.stands;
  change = may.change;
  file_is = may.file_is;
  format_is = may.format_is;
  tie = may.tie;
}

-- what is written in format 2 is written in the format of the file
pub writes_there : (cells : CellFile) (w : UnitWrite) (left : Cell) → cells.format ≡ 2 → Writes w left
    → WritesIn cells.format w left
writes_there cells w left newer writes = subst (λ (f : ℕ). WritesIn f w left) (sym newer) writes

-- no file is written but the log and the file of cells
pub others_stay : {D : Type 0} (view : D → View) (old mid new : D) (log image at n : ℕ)
    → ReadsOthers log (view old) (view mid) → (n ≡ 0 → new ≡ mid) → (n ≢ 0 → IsWritten image at (view mid) (view new))
    → (g : ℕ) → g ≢ log → g ≢ image → (view new).seen g ≡ (view old).seen g
others_stay view old mid new log image at zero entry none unit g apart other =
    ap (λ d. (view d).seen g) (none refl) ∙ entry g apart
others_stay view old mid new log image at (suc n) entry none unit g apart other =
    let written = unit (λ e. cc) in
    ap (λ (f : Files). f g) written.seen ∙ written-other image g at written.bytes (view mid).seen other ∙ entry g apart

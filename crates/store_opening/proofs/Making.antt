-- What is kept of a database that was made.
use Rattle.std.proofs.Common.{◌≡◌, ℕ, List, Option, Result, Ok, Err, false, refl, sym, ap, subst, ◌∙◌}
use Rattle.std.specs.Prelude.{IfOk, OnOk}
use Rattle.kdb_disk.specs.View.{View}
use Rattle.kdb_disk.specs.Moments.{LeavesOnly}
use Rattle.kdb_control.specs.Choice.{Choice}
use Rattle.princ_rows.specs.Rows.{RowLists, AreRows}
use Rattle.update_log.specs.Logs.{Journal, begun}
use Rattle.update_log.specs.Moments.{HasLog, IsDurable}
use Rattle.kdb_cells.specs.CellFiles.{CellFile}
use Rattle.kdb_cells.specs.FileCells.{IsFileOf}
use Rattle.kdb_places.specs.Places.{Place, created}
use Rattle.cell_files.specs.NewFiles.{NewCells, sheet_for}
use Rattle.cell_files.proofs.KeptRows.{rows_kept}
use Rattle.store_files.specs.Found.{place_of}
use Rattle.store_files.specs.Kept.{Kept, IsKept, IsOnDisk}
use Rattle.store_files.specs.Recovery.{Creates}
use Rattle.store_files.specs.Standing.{Holds}
use Rattle.store_opening.specs.Made.{Making, made_choice, made_found}
use Rattle.store_opening.specs.Moments.{HasFile}
use Rattle.store_opening.specs.Parts.{IsToBeMade, kept_made}

pub same_kept : (m : Making) (control : Choice) (log : Journal) (cells other : CellFile) (rows : RowLists)
    (realm : List ℕ) (stash : Option (List ℕ)) → control ≡ made_choice m → log ≡ begun 3 m.base m.size m.block
    → cells ≡ other → rows ≡ m.rows → realm ≡ m.realm → stash ≡ m.stash
    → ◌≡◌ {A = Kept} (record {
      control = control;
      log = log;
      cells = cells;
      rows = rows;
      realm = realm;
      stash = stash;
      broken = false;
    }) (kept_made m other)
same_kept m control log cells other rows realm stash a b c d e f =
    let made : Choice → Journal → CellFile → RowLists → List ℕ → Option (List ℕ) → Kept =
    λ x y z u v w. record { control = x; log = y; cells = z; rows = u; realm = v; stash = w; broken = false } in
    ap (λ (x : Choice). made x log cells rows realm stash) a
    ∙ ap (λ (y : Journal). made (made_choice m) y cells rows realm stash) b
    ∙ ap (λ (z : CellFile). made (made_choice m) (begun 3 m.base m.size m.block) z rows realm stash) c
    ∙ ap (λ (u : RowLists). made (made_choice m) (begun 3 m.base m.size m.block) other u realm stash) d
    ∙ ap (λ (v : List ℕ). made (made_choice m) (begun 3 m.base m.size m.block) other m.rows v stash) e
    ∙ ap (made (made_choice m) (begun 3 m.base m.size m.block) other m.rows m.realm) f

-- what is kept hangs together
pub is_kept : {control : Choice} {log : Journal} {stash : Option (List ℕ)} (m : Making) (image : NewCells)
    → IsToBeMade m control image log stash → AreRows m.rows → IsKept (kept_made m image.cells)
is_kept m image to are = record {
  chosen = record { log = refl; base = refl; size = refl; block = refl; image = to.file; format = to.format_is };
  indexed = record {
    cells = (sheet_for m.realm m.rows).cells;
    leads = to.cells.cells;
    many = to.cells.count;
    rows_is = rows_kept m.realm m.rows are;
  };
}

-- and stands on the disk
pub is_on_disk : {control : Choice} {log : Journal} {stash : Option (List ℕ)} (m : Making) (image : NewCells) (v : View)
    → IsToBeMade m control image log stash → AreRows m.rows → v.images v.seen → HasFile 1 image.content v → HasLog log v
    → IsDurable 3 v → Holds (made_found m) v
    → IsOnDisk (kept_made m image.cells) v
is_on_disk m image v to are seen file stands durable holds =
    let bytes : v.seen image.cells.file ≡ image.content = ap v.seen to.file ∙ file v.seen seen in
    record {
      cells = (sheet_for m.realm m.rows).cells;
      rows = rows_kept m.realm m.rows are;
      file = subst (IsFileOf image.cells (sheet_for m.realm m.rows)) (sym bytes) to.cells;
      stands = holds;
      log = subst (λ (j : Journal). HasLog j v) to.log_is stands;
      durable = durable;
    }

-- its place is the one that was to be made
pub place_made : (m : Making) → AreRows m.rows
    → place_of (made_found m) ≡ created m.realm m.rows m.base m.size m.block m.stash m.format
place_made m are =
    ap (λ (r : RowLists). created m.realm r m.base m.size m.block m.stash m.format) (rows_kept m.realm m.rows are)

pub creates_made : {old new : View} (m : Making)
    → AreRows m.rows → LeavesOnly old new (Creates old (place_of (made_found m)))
    → LeavesOnly old new (Creates old (created m.realm m.rows m.base m.size m.block m.stash m.format))
creates_made {old} {new} m are run = subst (λ (p : Place). LeavesOnly old new (Creates old p)) (place_made m are) run

pub if_ok_at : {T E : Type 0} (P Q : T → Type 0) (r : Result T E) → ((x : T) → P x → Q x) → IfOk r P → IfOk r Q
if_ok_at P Q (Ok x) to p = to x p
if_ok_at P Q (Err e) to p = tt

pub if_ok_both : {T E : Type 0} (P Q : T → Type 0) (S : Type 0) (r : Result T E) → ((x : T) → P x → S → Q x) → IfOk r P
    → OnOk r S → IfOk r Q
if_ok_both P Q S (Ok x) to p s = to x p s
if_ok_both P Q S (Err e) to p s = tt

-- What a written unit leaves of the file of cells and of its index.
use Rattle.std.proofs.Common.{◌≡◌, ℕ, ◌+◌, ◌*◌, ◌≤◌, List, length, Option, Some, None, refl, sym, ap, subst, ◌∙◌, arith}
use Rattle.std.specs.Prelude.{Result, Ok, Err, OnOk}
use Rattle.kdb_cells.specs.declared.units.StoredRow.{StoredRow}
use Rattle.kdb_disk.specs.View.{View}
use Rattle.kdb_disk.specs.Moments.{Stands}
use Rattle.kdb_cells.specs.Cells.{Cell, unit_size, unit_text, name_of, IsRowText}
use Rattle.kdb_cells.specs.CellFiles.{CellFile, units, count}
use Rattle.kdb_cells.specs.Changes.{cell_no}
use Rattle.kdb_cells.specs.FileCells.{AreCellsOf, IsFileOf, with_cell}
use Rattle.kdb_cells.specs.Leads.{Units, IsFree, leading, freed}
use Rattle.kdb_cells.specs.Sheets.{Sheet, taken, taken_by, set_cell}
use Rattle.kdb_cells.proofs.Cellwise.{lead_cells, free_cells, cell_free}
use Rattle.kdb_cells.proofs.Sheeting.{taken_set}
use Rattle.store_files.specs.Found.{unit_numbered, with_unit}
use Rattle.store_files.proofs.Units.{numbered_some}
use Rattle.store_opening.specs.Writes.{number_of, WritesIn, IsGivenTo, MayWrite, HoldsCells, changed_sheet}
use Rattle.store_opening.specs.declared.unit_writes.UnitWrite.{UnitWrite}
use Rattle.store_opening.specs.declared.unit_writes.UnitWrite.TheVariants.{Put, Free}

some_number : (cell : ℕ) → 1 ≤ cell → unit_numbered cell ≡ Some cell
some_number cell low = numbered_some cell (λ e. absurd (omega (arith, low, e)))

same_sheet : (n cell : ℕ) (c d : Cell) (sheet : Sheet) → n ≡ cell → 1 ≤ cell → c ≡ d
    → with_cell cell d sheet ≡ changed_sheet n c sheet
same_sheet n cell c d sheet at low is =
    ap (λ (u : Option ℕ). record { realm = sheet.realm; cells = with_unit u d sheet.cells })
    (sym (some_number cell low))
    ∙ ap (λ (k : ℕ). changed_sheet k d sheet) (sym at) ∙ ap (λ (x : Cell). changed_sheet n x sheet) (sym is)

same_held : (n cell : ℕ) (c d : Cell) (held : List Cell) → n ≡ cell → 1 ≤ cell → c ≡ d
    → set_cell cell d held ≡ with_unit (unit_numbered n) c held
same_held n cell c d held at low is =
    ap (λ (u : Option ℕ). with_unit u d held) (sym (some_number cell low))
    ∙ ap (λ (k : ℕ). with_unit (unit_numbered k) d held) (sym at)
    ∙ ap (λ (x : Cell). with_unit (unit_numbered n) x held) (sym is)

-- ---- a row is put

pub put_nothing : {A : Type 0} {x y : A} (w : UnitWrite) (c : CellFile) (cell kind : ℕ) (key row : List ℕ)
    → w ≡ Put cell key row kind → IsGivenTo w c
    → number_of w ≡ 0 → x ≡ y
put_nothing w c cell kind key row is given none =
    let low = (subst (λ (x : UnitWrite). IsGivenTo x c) is given).0 in
    absurd (omega (arith, low, sym (ap number_of is) ∙ none))

pub put_file : {T E : Type 0} (result : Result T E) (old new : CellFile) (w : UnitWrite) (cell kind : ℕ)
    (key row before late : List ℕ)
    → w ≡ Put cell key row kind → IsGivenTo w old
    → ((r : StoredRow) (sheet : Sheet) → IsRowText old.format kind key row r → 1 ≤ cell → IsFileOf old sheet before
    → OnOk result (IsFileOf new (with_cell cell (Some r) sheet) late))
    → (c : Cell) (sheet : Sheet) → WritesIn old.format w c → IsFileOf old sheet before
    → OnOk result (IsFileOf new (changed_sheet (number_of w) c sheet) late)
put_file result old new w cell kind key row before late is given keeps c sheet writes tie =
    let low = (subst (λ (x : UnitWrite). IsGivenTo x old) is given).0 in
    let row_is = subst (λ (x : UnitWrite). WritesIn old.format x c) is writes in
    subst (λ (s : Sheet). OnOk result (IsFileOf new s late)) (same_sheet (number_of w) cell c (Some row_is.0) sheet
    (ap number_of is) low row_is.1.0) (keeps row_is.0 sheet row_is.1.1 low tie)

put_count : (u : Units) (held : List Cell) (cell old new : ℕ) (r : StoredRow) (c : Cell) → cell_no cell held ≡ c
    → AreCellsOf u held
    → cell ≤ length held → old ≡ taken held → (IsFree cell u → new ≡ old + 1)
    → ((k : List ℕ) → u.of k ≡ Some cell → new ≡ old)
    → new ≡ taken (set_cell cell (Some r) held)
put_count u held cell old new r None is are within many more as_many =
    omega (arith, taken_set cell (Some r) held within, ap taken_by is, many, more (cell_free u held cell are is))
put_count u held cell old new r (Some s) is are within many more as_many =
    omega (arith, taken_set cell (Some r) held within, ap taken_by is, many, as_many (name_of s) (are.found cell s is))

pub put_leads : {T E : Type 0} (result : Result T E) (old new : CellFile) (w : UnitWrite) (cell kind : ℕ)
    (key row : List ℕ)
    → w ≡ Put cell key row kind → IsGivenTo w old → MayWrite w old
    → OnOk result (units new ≡ leading key cell (units old))
    → (IsFree cell (units old) → OnOk result (count new ≡ count old + 1))
    → ((k : List ℕ) → (units old).of k ≡ Some cell → OnOk result (count new ≡ count old))
    → (c : Cell) (held : List Cell) → WritesIn old.format w c → HoldsCells old held → number_of w ≤ length held
    → OnOk result (HoldsCells new (with_unit (unit_numbered (number_of w)) c held))
put_leads (Err e) old new w cell kind key row is given may led more as_many c held writes holds within = tt
put_leads (Ok x) old new w cell kind key row is given may led more as_many c held writes holds within =
    let low = (subst (λ (x : UnitWrite). IsGivenTo x old) is given).0 in
    let alone = (subst (λ (x : UnitWrite). MayWrite x old) is may).alone in
    let row_is = subst (λ (x : UnitWrite). WritesIn old.format x c) is writes in
    let r = row_is.0 in
    let named = row_is.1.1.named in
    let at = ap number_of is in
    let in_file : cell ≤ length held = omega (arith, within, at) in
    let leads =
    lead_cells (units old) held cell r holds.leads in_file (λ i to. alone i (ap (units old).of named ∙ to)) in
    let there : leading (name_of r) cell (units old) ≡ units new =
    ap (λ (k : List ℕ). leading k cell (units old)) (sym named) ∙ sym led in
    let holds_new : HoldsCells new (set_cell cell (Some r) held) = record {
      leads = subst (λ (u : Units). AreCellsOf u (set_cell cell (Some r) held)) there leads;
      many = put_count (units old) held cell (count old) (count new) r
          (cell_no cell held) refl holds.leads in_file holds.many more as_many;
    } in
    subst (HoldsCells new) (same_held (number_of w) cell c (Some r) held at low row_is.1.0) holds_new

pub put_stands : {T E : Type 0} (before late : View) (result : Result T E) (old : CellFile) (w : UnitWrite)
    (cell kind : ℕ) (key row : List ℕ) → w ≡ Put cell key row kind
    → ((r : StoredRow) → IsRowText old.format kind key row r
    → OnOk result (Stands old.file (cell * unit_size old.format) (unit_text old.format (Some r)) before late))
    → (c : Cell) → WritesIn old.format w c
    → OnOk result (Stands old.file (number_of w * unit_size old.format) (unit_text old.format c) before late)
put_stands before late result old w cell kind key row is stands c writes =
    let row_is = subst (λ (x : UnitWrite). WritesIn old.format x c) is writes in
    subst (λ (n : ℕ). OnOk result (Stands old.file (n * unit_size old.format) (unit_text old.format c) before late))
    (sym (ap number_of is))
    (subst (λ (x : Cell).
    OnOk result (Stands old.file (cell * unit_size old.format) (unit_text old.format x) before late)) (sym row_is.1.0)
    (stands row_is.0 row_is.1.1))

-- ---- a unit is freed

pub free_nothing : {A : Type 0} {x y : A} (w : UnitWrite) (c : CellFile) (cell : ℕ) → w ≡ Free cell → IsGivenTo w c
    → number_of w ≡ 0 → x ≡ y
free_nothing w c cell is given none =
    let low = (subst (λ (x : UnitWrite). IsGivenTo x c) is given).0 in
    absurd (omega (arith, low, sym (ap number_of is) ∙ none))

pub free_file : {T E : Type 0} (result : Result T E) (old new : CellFile) (w : UnitWrite) (cell : ℕ)
    (before late : List ℕ) → w ≡ Free cell
    → IsGivenTo w old
    → ((sheet : Sheet) → 1 ≤ cell → IsFileOf old sheet before
    → OnOk result (IsFileOf new (with_cell cell None sheet) late))
    → (c : Cell) (sheet : Sheet) → WritesIn old.format w c → IsFileOf old sheet before
    → OnOk result (IsFileOf new (changed_sheet (number_of w) c sheet) late)
free_file result old new w cell before late is given keeps c sheet writes tie =
    let low = (subst (λ (x : UnitWrite). IsGivenTo x old) is given).0 in
    let free = subst (λ (x : UnitWrite). WritesIn old.format x c) is writes in
    subst (λ (s : Sheet). OnOk result (IsFileOf new s late))
    (same_sheet (number_of w) cell c None sheet (ap number_of is) low free) (keeps sheet low tie)

free_count : (u : Units) (held : List Cell) (cell old new : ℕ) (c : Cell) → cell_no cell held ≡ c → AreCellsOf u held
    → cell ≤ length held
    → old ≡ taken held → (IsFree cell u → new ≡ old) → ((k : List ℕ) → u.of k ≡ Some cell → new + 1 ≡ old)
    → new ≡ taken (set_cell cell None held)
free_count u held cell old new None is are within many as_many fewer =
    omega (arith, taken_set cell None held within, ap taken_by is, many, as_many (cell_free u held cell are is))
free_count u held cell old new (Some s) is are within many as_many fewer =
    omega (arith, taken_set cell None held within, ap taken_by is, many, fewer (name_of s) (are.found cell s is))

pub free_leads : {T E : Type 0} (result : Result T E) (old new : CellFile) (w : UnitWrite) (cell : ℕ) → w ≡ Free cell
    → IsGivenTo w old
    → OnOk result (units new ≡ freed cell (units old)) → (IsFree cell (units old) → OnOk result (count new ≡ count old))
    → ((k : List ℕ) → (units old).of k ≡ Some cell → OnOk result (count new + 1 ≡ count old))
    → (c : Cell) (held : List Cell) → WritesIn old.format w c → HoldsCells old held → number_of w ≤ length held
    → OnOk result (HoldsCells new (with_unit (unit_numbered (number_of w)) c held))
free_leads (Err e) old new w cell is given led as_many fewer c held writes holds within = tt
free_leads (Ok x) old new w cell is given led as_many fewer c held writes holds within =
    let low = (subst (λ (x : UnitWrite). IsGivenTo x old) is given).0 in
    let free = subst (λ (x : UnitWrite). WritesIn old.format x c) is writes in
    let at = ap number_of is in
    let in_file : cell ≤ length held = omega (arith, within, at) in
    let holds_new : HoldsCells new (set_cell cell None held) = record {
      leads = subst (λ (u : Units). AreCellsOf u (set_cell cell None held)) (sym led)
          (free_cells (units old) held cell holds.leads in_file);
      many = free_count (units old) held cell (count old) (count new)
          (cell_no cell held) refl holds.leads in_file holds.many as_many fewer;
    } in
    subst (HoldsCells new) (same_held (number_of w) cell c None held at low free) holds_new

pub free_stands : {T E : Type 0} (before late : View) (result : Result T E) (old : CellFile) (w : UnitWrite) (cell : ℕ)
    → w ≡ Free cell
    → OnOk result (Stands old.file (cell * unit_size old.format) (unit_text old.format None) before late)
    → (c : Cell) → WritesIn old.format w c
    → OnOk result (Stands old.file (number_of w * unit_size old.format) (unit_text old.format c) before late)
free_stands before late result old w cell is stands c writes =
    let free = subst (λ (x : UnitWrite). WritesIn old.format x c) is writes in
    subst (λ (n : ℕ). OnOk result (Stands old.file (n * unit_size old.format) (unit_text old.format c) before late))
    (sym (ap number_of is))
    (subst (λ (x : Cell).
    OnOk result (Stands old.file (cell * unit_size old.format) (unit_text old.format x) before late)) (sym free) stands)

use Rattle.std.proofs.Common.{◌≡◌, ℕ, ◌++◌, List, length, ap, sym, subst, ◌∙◌, arith}
use Rattle.std.specs.List.{All}
use Rattle.std.proofs.lemmas.List.{length-map}
use Rattle.kdb_cells.specs.Cells.{unit_size}
use Rattle.kdb_cells.specs.CellFiles.{CellFile, is_image}
use Rattle.kdb_cells.specs.FileCells.{IsFileOf}
use Rattle.cell_files.specs.declared.texts.RowText.{RowText}
use Rattle.cell_files.specs.Building.{text_of, text_units, HasUnit}
use Rattle.cell_files.specs.NewFiles.{stored_rows, sheet_for, first_unit, file_text}
use Rattle.cell_files.proofs.Following.{all_stored, many_rows}
use Rattle.cell_files.proofs.Units.{have_units, text_rows}
use Rattle.cell_files.proofs.NewSheets.{new_file}
use Rattle.cell_files.proofs.new_file.NewFile.new.Goals as goal

pub invariant_of-result : goal.invariant_of-result
invariant_of-result c =
    let r = c.args.rows.now in
    let texts = c.in_ok-building.ensures.texts in
    let unit : unit_size c.in_ok-cells.cells.format ≡ unit_size c.args.format =
    ap (λ (x : CellFile). unit_size x.format) c.in_ok-cells.ensures in (
      ap (λ (x : CellFile). is_image x.file) c.in_ok-cells.ensures ∙ c.requires.image,
      record {
        first_long = c.in_ok-first.ensures.long ∙ sym unit;
        page_long = omega (arith, c.in_ok-page.ensures, c.unit_size.ensures.value, unit);
        few = omega (
          arith,
          ap (λ (l : List RowText). length l) texts,
          length-map (stored_rows r) text_of,
          many_rows r c.build.ensures.rows,
        );
        fits = subst (λ (n : ℕ). All (HasUnit n) c.in_ok-building.building.texts.items) (sym unit)
            (subst (All (HasUnit (unit_size c.args.format))) (sym texts) (have_units c.args.format (stored_rows r)
            (all_stored c.args.format r c.build.ensures.rows c.requires.rows)));
      },
    )

pub returns-clause-cells : goal.returns-clause-cells
returns-clause-cells c =
    let r = c.args.rows.now in
    let format = c.args.format in
    let realm = c.args.realm.now in
    let made = c.args.made.now in
    let stored = all_stored format r c.build.ensures.rows c.requires.rows in
    let texts = c.in_ok-building.building.texts.items in
    let cells : CellFile = record { file = c.args.file; format = format; index = c.in_ok-building.building.index } in
    let units : text_units (unit_size format) texts ≡ _ =
    ap (text_units (unit_size format)) c.in_ok-building.ensures.texts ∙ text_rows format (stored_rows r) stored in
    let same = ap (λ (l : List ℕ). l ++ text_units (unit_size format) texts) c.in_ok-first.ensures.bytes
    ∙ ap (λ (l : List ℕ). first_unit format realm made ++ l) units in
    subst (λ (x : CellFile). IsFileOf x (sheet_for realm r)
    (c.in_ok-first.first.items ++ text_units (unit_size x.format) texts)) (sym c.in_ok-cells.ensures)
    (new_file cells realm made (stored_rows r) (c.in_ok-first.first.items ++ text_units (unit_size format) texts)
    c.holds_heading.ensures.realm c.holds_heading.ensures.point stored c.in_ok-building.ensures.built same)

pub returns-clause-content : goal.returns-clause-content
unfolding file_text
returns-clause-content c =
    let r = c.args.rows.now in
    let format = c.args.format in
    let stored = all_stored format r c.build.ensures.rows c.requires.rows in
    let texts = c.in_ok-building.building.texts.items in
    let units = ap (text_units (unit_size format)) c.in_ok-building.ensures.texts
    ∙ text_rows format (stored_rows r) stored in
    ap (λ (x : CellFile). c.in_ok-first.first.items ++ text_units (unit_size x.format) texts) c.in_ok-cells.ensures
    ∙ ap (λ (l : List ℕ). l ++ text_units (unit_size format) texts) c.in_ok-first.ensures.bytes
    ∙ ap (λ (l : List ℕ). first_unit format c.args.realm.now c.args.made.now ++ l) units

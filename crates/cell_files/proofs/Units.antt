-- The bytes of a new file's units.
use Rattle.std.proofs.Common.{◌≡◌, ℕ, ◌+◌, ◌*◌, ◌≤◌, List, [], ◌∷◌, ◌++◌, length, map, take, drop}
use Rattle.std.proofs.Common.{refl, sym, ap, ◌∙◌, arith, append_assoc, length-append, length-take}
use Rattle.std.specs.List.{All, AllByRecursion, flat_map}
use Rattle.std.proofs.lemmas.List.{append-nil, take_all, take_at}
use Rattle.std.proofs.lemmas.List.Concat.{flat_map-append}
use Rattle.std.proofs.lemmas.List.Elements.{All-from_recursion, recursion_from_All, All-take}
use Rattle.std.proofs.Math.Seq.{take-add}
use Rattle.kdb_disk.specs.Files.{Files, put, written}
use Rattle.kdb_disk.proofs.Puts.{put_split, length-put, written_join}
use Rattle.kdb_disk.proofs.Runs.{long_after}
use Rattle.kdb_cells.specs.declared.units.StoredRow.{StoredRow}
use Rattle.kdb_cells.specs.Cells.{unit_size, kind_of, row_text, name_of, IsStored, IsRowText}
use Rattle.kdb_cells.proofs.UnitTexts as texts
use Rattle.kdb_cells.proofs.UnitTexts.{row_fits, length-unit_with}
use Rattle.cell_files.specs.declared.texts.RowText.{RowText}
use Rattle.cell_files.specs.Building.{text_of, text_unit, text_units, HasUnit}
use Rattle.cell_files.specs.NewFiles.{row_unit}

-- ---- one row behind the others

length-text : (unit : ℕ) (t : RowText) → HasUnit unit t → length (text_unit unit t) ≡ unit
length-text unit t has = length-unit_with unit t.kind t.row has.room

pub units_both : (unit : ℕ) (xs ys : List RowText)
    → text_units unit (xs ++ ys) ≡ text_units unit xs ++ text_units unit ys
unfolding text_units
units_both unit xs ys = flat_map-append (text_unit unit) xs ys

pub units_one : (unit : ℕ) (t : RowText) → text_units unit (t ∷ []) ≡ text_unit unit t
unfolding text_units
units_one unit t = append-nil (text_unit unit t)

length-each : (unit : ℕ) (texts : List RowText) → AllByRecursion (HasUnit unit) texts
    → length (text_units unit texts) ≡ length texts * unit
unfolding text_units
length-each unit [] each = omega arith
length-each unit (t ∷ texts) each =
    let behind = length-each unit texts each.1 in
    let here = length-text unit t each.0 in
    omega (arith, length-append (text_unit unit t) (text_units unit texts), here, behind)

pub length-units : (unit : ℕ) (texts : List RowText) → All (HasUnit unit) texts
    → length (text_units unit texts) ≡ length texts * unit
length-units unit texts all = length-each unit texts (recursion_from_All (HasUnit unit) texts all)

-- a unit more at the page's front
pub page_more : (unit at : ℕ) (t : RowText) (before : List RowText) (old new : List ℕ) → HasUnit unit t
    → at + unit ≤ length old → take at old ≡ text_units unit before → new ≡ put at (text_unit unit t) old
    → take (at + unit) new ≡ text_units unit (before ++ t ∷ [])
page_more unit at t before old new has within front is =
    let u = text_unit unit t in
    let long = length-text unit t has in
    let start : length (take at old) ≡ at = omega (arith, length-take at old, within) in
    let rest = drop (at + length u) old in
    let parts : new ≡ (take at old ++ u) ++ rest = is ∙ put_split at u old ∙ sym (append_assoc (take at old) u rest) in
    ap (take (at + unit)) parts
    ∙ take_at (take at old ++ u) rest (at + unit) (omega (arith, length-append (take at old) u, start, long))
    ∙ ap (λ (l : List ℕ). l ++ u) front
    ∙ ap (λ (l : List ℕ). text_units unit before ++ l) (sym (units_one unit t))
    ∙ sym (units_both unit before (t ∷ []))

pub page_long : (unit at : ℕ) (t : RowText) (old new : List ℕ) → HasUnit unit t → at + unit ≤ length old
    → new ≡ put at (text_unit unit t) old → length new ≡ length old
page_long unit at t old new has within is = ap length is
    ∙ omega (arith, length-put at (text_unit unit t) old (omega (arith, within)), length-text unit t has, within)

-- ---- the texts of rows

row_is : (format : ℕ) (r : StoredRow) → IsStored format r → IsRowText format (kind_of r) (name_of r) (row_text r) r
row_is format r stored = record { stored = stored; of_kind = refl; named = refl; spelled = refl }

pub has_unit : (format : ℕ) (r : StoredRow) → IsStored format r → HasUnit (unit_size format) (text_of r)
has_unit format r stored = let fits = row_fits (row_is format r stored) in record { counted = fits.0; room = fits.1 }

each_unit : (format : ℕ) (rows : List StoredRow) → AllByRecursion (IsStored format) rows
    → AllByRecursion (HasUnit (unit_size format)) (map text_of rows)
each_unit format [] stored = tt
each_unit format (r ∷ rows) stored = (has_unit format r stored.0, each_unit format rows stored.1)

pub have_units : (format : ℕ) (rows : List StoredRow) → AllByRecursion (IsStored format) rows
    → All (HasUnit (unit_size format)) (map text_of rows)
have_units format rows stored =
    All-from_recursion (HasUnit (unit_size format)) (map text_of rows) (each_unit format rows stored)

pub text_rows : (format : ℕ) (rows : List StoredRow) → AllByRecursion (IsStored format) rows
    → text_units (unit_size format) (map text_of rows) ≡ flat_map (row_unit format) rows
unfolding text_units
text_rows format [] stored = refl
text_rows format (r ∷ rows) stored =
    ap (λ (l : List ℕ). l ++ text_units (unit_size format) (map text_of rows))
    (texts.row_unit (row_is format r stored.0))
    ∙ ap (λ (l : List ℕ). row_unit format r ++ l) (text_rows format rows stored.1)

-- ---- pieces of a file

-- no row yet
pub no_units : (unit : ℕ) → text_units unit [] ≡ []
unfolding text_units
no_units unit = refl

-- a piece more
pub piece_more : (file from unit at count : ℕ) (texts piece : List RowText) (bytes : List ℕ) (before now after : Files)
    → length (before file) ≡ from → at ≤ length texts → All (HasUnit unit) texts → piece ≡ take count (drop at texts)
    → bytes ≡ text_units unit piece → now ≡ written file from (text_units unit (take at texts)) before
    → after ≡ written file (from + at * unit) bytes now
    → after ≡ written file from (text_units unit (take (at + count) texts)) before
piece_more file from unit at count texts piece bytes before now after begun within fit is filled was wrote =
    let front = text_units unit (take at texts) in
    let long : length front ≡ at * unit = length-units unit (take at texts) (All-take (HasUnit unit) at texts fit)
    ∙ ap (λ (n : ℕ). n * unit) (omega (arith, length-take at texts, within)) in
    wrote
    ∙ ap (λ (b : List ℕ). written file (from + at * unit) b now) (filled ∙ ap (text_units unit) is)
    ∙ ap (written file (from + at * unit) (text_units unit (take count (drop at texts)))) was
    ∙ written_join file from (from + at * unit) front (text_units unit (take count (drop at texts))) before
    (omega (arith, begun)) (omega (arith, long))
    ∙ ap (λ (b : List ℕ). written file from b before)
    (sym (units_both unit (take at texts) (take count (drop at texts)))
    ∙ ap (text_units unit) (sym (take-add at count texts)))

-- where the next piece goes
pub piece_place : (file from unit at : ℕ) (texts : List RowText) (before now : Files) → length (before file) ≡ from
    → at ≤ length texts → All (HasUnit unit) texts → now ≡ written file from (text_units unit (take at texts)) before
    → from + at * unit ≤ length (now file)
piece_place file from unit at texts before now begun within fit was =
    let front = text_units unit (take at texts) in
    let long : length front ≡ at * unit = length-units unit (take at texts) (All-take (HasUnit unit) at texts fit)
    ∙ ap (λ (n : ℕ). n * unit) (omega (arith, length-take at texts, within)) in
    omega (arith, long_after before now file from front was (omega (arith, begun)), long)

-- all of them
pub all_pieces : (file from unit at : ℕ) (texts : List RowText) (before now : Files)
    → length texts ≤ at → now ≡ written file from (text_units unit (take at texts)) before
    → now ≡ written file from (text_units unit texts) before
all_pieces file from unit at texts before now past was =
    was ∙ ap (λ (l : List RowText). written file from (text_units unit l) before) (take_all at texts past)

-- the first unit, and then the others
pub begun_long : (file : ℕ) (first : List ℕ) (before now : Files) → before file ≡ [] → now ≡ written file 0 first before
    → length (now file) ≡ length first
begun_long file first before now empty wrote =
    omega (arith, long_after before now file 0 first wrote (omega arith), ap (λ (l : List ℕ). length l) empty)

pub begun_more : (file : ℕ) (first rest : List ℕ) (before now after : Files) → now ≡ written file 0 first before
    → after ≡ written file (length first) rest now → after ≡ written file 0 (first ++ rest) before
begun_more file first rest before now after was wrote = wrote ∙ ap (written file (length first) rest) was
    ∙ written_join file 0 (length first) first rest before (omega arith) (omega arith)

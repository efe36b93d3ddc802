-- What a file of cells that was written anew is read as.
use Rattle.std.proofs.Common.{◌≡◌, ℕ, zero, suc, ◌+◌, ◌-◌, ◌*◌, ◌/◌, ◌<◌, ◌≤◌, Bool, true, false}
use Rattle.std.proofs.Common.{cond, eqb, List, [], ◌∷◌, ◌++◌, length, map, take, drop, Option, Some}
use Rattle.std.proofs.Common.{None, refl, sym, ap, subst, ◌∙◌, arith, append_assoc, length-append}
use Rattle.std.specs.List.{AllByRecursion, flat_map, list_all}
use Rattle.std.proofs.lemmas.Nat.{div-mul-add}
use Rattle.std.proofs.lemmas.Bool.{cond-false, ne_eqb}
use Rattle.std.proofs.lemmas.List.{length-map, take_at, drop_at, drop-drop}
use Rattle.kdb_base.specs.declared.moments.Point.{Point}
use Rattle.kdb_format.specs.Laws.{literal_field, checked_field, counted_field}
use Rattle.kdb_format.specs.Lengths.{length-zeros, length-counted}
use Rattle.kdb_format.specs.Moments.{IsPoint, point, point_field, time}
use Rattle.kdb_format.specs.Numbers.{length-big}
use Rattle.kdb_format.specs.Spellings.{big, counted, zeros}
use Rattle.princ_name.specs.Realms.{is_realm, realm_length}
use Rattle.kdb_cells.specs.declared.units.StoredRow.{StoredRow}
use Rattle.kdb_cells.specs.Cells.{Cell, IsCell, IsStored, unit_size, unit_text, cell_of}
use Rattle.kdb_cells.specs.CellFiles.{CellFile, units, count}
use Rattle.kdb_cells.specs.Changes.{cell_no}
use Rattle.kdb_cells.specs.FileCells.{IsFileOf}
use Rattle.kdb_cells.specs.Scanning.{heading_of}
use Rattle.kdb_cells.specs.Sheets.{Sheet, magic, heading, heading_at, realm_in, cell_in, count_of, unit_bytes, sheet_in}
use Rattle.kdb_cells.proofs.Gathered.{gathered_sheet}
use Rattle.kdb_cells.proofs.Headed.{heading_found}
use Rattle.kdb_cells.proofs.Sheeting.{sheet_read, IsSheet}
use Rattle.kdb_cells.proofs.UnitPuts.{some_unit}
use Rattle.kdb_cells.proofs.UnitTexts.{length-unit, unit_again}
use Rattle.kdb_cells.proofs.Wholly.{realm_first}
use Rattle.cell_files.specs.Building.{IsBuilt}
use Rattle.cell_files.specs.NewFiles.{with_row, row_unit, first_unit}

-- ---- the first unit

-- the heading is read as it is spelled
pub heading_again : (format : ℕ) (realm rest : List ℕ) (made : Point) → is_realm realm ≡ true → IsPoint made
    → heading_at format (heading format realm made ++ rest) ≡ Some (realm, rest)
unfolding heading_at heading
heading_again format realm rest made is at =
    let m = magic format in
    let behind = counted realm ++ point made in
    let one = (literal_field m).again tt (behind ++ rest) tt in
    let two = (checked_field is_realm counted_field).again realm (point made ++ rest) (
      (omega (arith, realm_length realm is)),
      is,
    ) in
    let three = point_field.again made rest at in
    rw (append_assoc m behind rest, one, append_assoc (counted realm) (point made) rest, two, three) refl

length-magic : (format : ℕ) → length (magic format) ≡ 6
unfolding magic
length-magic format = omega (arith, length-big 2 format)

length-point : (made : Point) → length (point made) ≡ 12
unfolding point time
length-point made =
    omega (
      arith,
      length-append (big 4 made.sno) (big 4 made.time.secs ++ big 4 made.time.usecs),
      length-append (big 4 made.time.secs) (big 4 made.time.usecs),
      length-big 4 made.sno,
      length-big 4 made.time.secs,
      length-big 4 made.time.usecs,
    )

pub length-heading : (format : ℕ) (realm : List ℕ) (made : Point) → is_realm realm ≡ true
    → length (heading format realm made) ≤ 84
unfolding heading
length-heading format realm made is =
    omega (
      arith,
      length-append (magic format) (counted realm ++ point made),
      length-append (counted realm) (point made),
      length-magic format,
      length-counted realm,
      length-point made,
      realm_length realm is,
    )

pub unit_most : (format : ℕ) → unit_size format ≤ 16384
unfolding unit_size
unit_most format = by (eqb format 1)
  where
    by : (b : Bool) → cond b 8192 16384 ≤ 16384
    by true = omega arith
    by false = omega arith

pub unit_long : (format : ℕ) → 84 ≤ unit_size format
unfolding unit_size
unit_long format = by (eqb format 1)
  where
    by : (b : Bool) → 84 ≤ cond b 8192 16384
    by true = omega arith
    by false = omega arith

pub length-first : (format : ℕ) (realm : List ℕ) (made : Point) → is_realm realm ≡ true
    → length (first_unit format realm made) ≡ unit_size format
unfolding first_unit
length-first format realm made is =
    let h = heading format realm made in
    omega (
      arith,
      length-append h (zeros (unit_size format - length h)),
      length-zeros (unit_size format - length h),
      length-heading format realm made is,
      unit_long format,
    )

all_zeros : (n : ℕ) → list_all (λ b. eqb b 0) (zeros n) ≡ true
unfolding zeros
all_zeros zero = refl
all_zeros (suc n) = all_zeros n

first_read : (format : ℕ) (realm : List ℕ) (made : Point) → is_realm realm ≡ true → IsPoint made → heading_at format
    (first_unit format realm made) ≡ Some (realm, zeros (unit_size format - length (heading format realm made)))
unfolding first_unit
first_read format realm made is at =
    heading_again format realm (zeros (unit_size format - length (heading format realm made))) made is at

-- and it names the realm
pub first_names : (format : ℕ) (realm : List ℕ) (made : Point) → is_realm realm ≡ true → IsPoint made
    → heading_of format (first_unit format realm made) ≡ Some realm
first_names format realm made is at =
    let n = unit_size format - length (heading format realm made) in
    heading_found format (first_unit format realm made) (zeros n) (zeros n) realm true
    (length-first format realm made is) (first_read format realm made is at) refl (all_zeros n)

-- ---- the others

length-row : (format : ℕ) (r : StoredRow) → IsStored format r → length (row_unit format r) ≡ unit_size format
length-row format r stored = length-unit format (Some r) stored

pub length-rows : (format : ℕ) (rows : List StoredRow) → AllByRecursion (IsStored format) rows
    → length (flat_map (row_unit format) rows) ≡ length rows * unit_size format
length-rows format [] stored = omega arith
length-rows format (r ∷ rows) stored =
    omega (
      arith,
      length-append (row_unit format r) (flat_map (row_unit format) rows),
      length-row format r stored.0,
      length-rows format rows stored.1,
    )

-- the bytes behind a unit that stands in front
behind_front : (format n : ℕ) (front rest : List ℕ) → length front ≡ unit_size format
    → drop (suc n * unit_size format) (front ++ rest) ≡ drop (n * unit_size format) rest
behind_front format n front rest long =
    let sum : unit_size format + n * unit_size format ≡ suc n * unit_size format = omega arith in
    ap (λ (k : ℕ). drop k (front ++ rest)) (sym sum)
    ∙ sym (drop-drop (n * unit_size format) (unit_size format) (front ++ rest))
    ∙ ap (drop (n * unit_size format))
    (ap (λ (k : ℕ). drop k (front ++ rest)) (sym long) ∙ drop_at front rest (length front) refl)

-- each row stands in its unit
row_there : (format i : ℕ) (rows : List StoredRow) → AllByRecursion (IsStored format) rows → i < length rows
    → unit_bytes format i (flat_map (row_unit format) rows) ≡ unit_text format (cell_no i (map with_row rows))
unfolding cell_no
row_there format i [] stored lt = absurd (omega (arith, lt))
row_there format zero (r ∷ rows) stored lt =
    let none : 0 * unit_size format ≡ 0 = omega arith in
    ap (λ (n : ℕ). take (unit_size format) (drop n (row_unit format r ++ flat_map (row_unit format) rows))) none
    ∙ take_at (row_unit format r) (flat_map (row_unit format) rows) (unit_size format) (length-row format r stored.0)
row_there format (suc i) (r ∷ rows) stored lt =
    ap (take (unit_size format))
    (behind_front format i (row_unit format r) (flat_map (row_unit format) rows) (length-row format r stored.0))
    ∙ row_there format i rows stored.1 (omega (arith, lt))

stored_at : (format i : ℕ) (rows : List StoredRow) → AllByRecursion (IsStored format) rows
    → IsCell format (cell_no i (map with_row rows))
unfolding cell_no
stored_at format i [] stored = tt
stored_at format zero (r ∷ rows) stored = stored.0
stored_at format (suc i) (r ∷ rows) stored = stored_at format i rows stored.1

-- ---- the whole file

module _ (format : ℕ) (first : List ℕ) (rows : List StoredRow) (long : length first ≡ unit_size format)
    (stored : AllByRecursion (IsStored format) rows) where
  abbrev whole : List ℕ
  whole = first ++ flat_map (row_unit format) rows

  abbrev cells : List Cell
  cells = None ∷ map with_row rows

  pub reads_cells : (i : ℕ) → i < length cells → cell_in format whole i ≡ Some (cell_no i cells)
  unfolding cell_in cell_no
  reads_cells zero lt = refl
  reads_cells (suc i) lt =
      let free : Option Cell = Some None in
      cond-false (eqb (suc i) 0) free (cell_of format (unit_bytes format (suc i) whole))
      (ne_eqb (suc i) 0 (λ e. absurd (omega (arith, e))))
      ∙ ap (λ (b : List ℕ). cell_of format (take (unit_size format) b))
      (behind_front format i first (flat_map (row_unit format) rows) long)
      ∙ ap (cell_of format) (row_there format i rows stored (omega (arith, lt, length-map rows with_row)))
      ∙ unit_again format (cell_no i (map with_row rows)) (stored_at format i rows stored)

  whole_long : length whole ≡ length cells * unit_size format
  whole_long =
      let n = length-rows format rows stored in
      let m : length cells ≡ length rows + 1 = omega (arith, length-map rows with_row) in
      let product : (length rows + 1) * unit_size format ≡ length rows * unit_size format + unit_size format =
      omega arith in
      omega (
        arith,
        length-append first (flat_map (row_unit format) rows),
        n,
        long,
        product,
        ap (λ (k : ℕ). k * unit_size format) m,
      )

  pub counts_cells : count_of format whole ≡ length cells
  unfolding count_of
  counts_cells =
      let unit = unit_size format in
      let even : length whole ≡ length cells * unit + 0 = omega (arith, whole_long) in
      ap (λ (n : ℕ). n / unit) even ∙ div-mul-add (length cells) unit 0 (some_unit format)

-- Its units are read as the cells that the index was built of.
pub new_file : (c : CellFile) (realm : List ℕ) (made : Point) (rows : List StoredRow) (content : List ℕ)
    → is_realm realm ≡ true → IsPoint made → AllByRecursion (IsStored c.format) rows
    → IsBuilt c.format c.index (None ∷ map with_row rows)
    → content ≡ first_unit c.format realm made ++ flat_map (row_unit c.format) rows
    → IsFileOf c (record { realm = realm; cells = None ∷ map with_row rows }) content
new_file c realm made rows content is at stored built same =
    let format = c.format in
    let first = first_unit format realm made in
    let long = length-first format realm made is in
    let bytes = first ++ flat_map (row_unit format) rows in
    let all : List Cell = None ∷ map with_row rows in
    let sheet : Sheet = record { realm = realm; cells = all } in
    let holds =
    gathered_sheet format bytes (units c) (count c) _ _ all built (reads_cells format first rows long stored) in
    let counted : IsSheet format bytes (count_of format bytes) all =
    subst (λ (n : ℕ). IsSheet format bytes n all) (sym (counts_cells format first rows long stored)) holds in
    let front : take (unit_size format) bytes ≡ first =
    take_at first (flat_map (row_unit format) rows) (unit_size format) long in
    let named : realm_in format bytes ≡ Some realm =
    realm_first format bytes ∙ ap (heading_of format) front ∙ first_names format realm made is at in
    record {
      read = ap (sheet_in format) same ∙ sheet_read format bytes sheet counted named;
      cells = built.cells_are;
      count = built.count_is;
    }

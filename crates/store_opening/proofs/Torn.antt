-- The last entry's unit, torn and written, is done again.
use Rattle.std.proofs.Common.{◌≡◌, ◌≢◌, ℕ, ◌*◌, ◌≤◌, List, length, Option, Some, None, Ok, sym, ap, subst, ◌∙◌, arith}
use Rattle.kdb_disk.specs.Files.{Files, put, written}
use Rattle.kdb_disk.specs.View.{Torn}
use Rattle.kdb_disk.proofs.Puts.{put-put, length-put, written-same, written-other}
use Rattle.kdb_control.specs.Choice.{Choice}
use Rattle.kdb_control.specs.Force.{in_force}
use Rattle.princ_rows.specs.declared.entries.Logged.{Logged}
use Rattle.update_log.specs.Runs.{log_in}
use Rattle.kdb_cells.specs.Cells.{Cell, IsCell, unit_size, unit_text}
use Rattle.kdb_cells.specs.FileCells.{MayStand}
use Rattle.kdb_cells.specs.Scanning.{skipping}
use Rattle.kdb_cells.specs.Sheets.{Sheet, count_of, put_cell, set_cell, sheet_in}
use Rattle.kdb_cells.proofs.Sheeting.{put_sheet}
use Rattle.kdb_cells.proofs.UnitPuts.{place_within, div_most, some_unit}
use Rattle.kdb_cells.proofs.UnitTexts.{length-unit}
use Rattle.store_files.specs.Found.{unit_changed, left_by, with_unit, redone, stash_in, found_in}
use Rattle.store_files.specs.Standing.{HasFiles, StandsOnDisk}
use Rattle.store_files.proofs.Finding.{IsRedone, found_redone, numbered}
use Rattle.store_opening.specs.Redoing.{IsLookedAt, found_again}
use Rattle.store_opening.proofs.Quiet.{stash_alike}

-- a file that was written over from some place on has no fewer units
more_units : (format at : ℕ) (bytes file : List ℕ) → at ≤ length file → (n : ℕ) → n ≤ count_of format file
    → n ≤ count_of format (put at bytes file)
unfolding count_of
more_units format at bytes file within n le =
    let reaches = place_within format n file le in
    div_most (length (put at bytes file)) (unit_size format) n (some_unit format)
    (omega (arith, length-put at bytes file within, reaches))

-- bytes of a unit, over which the unit is written
over_torn : (format i : ℕ) (c : Cell) (bytes file : List ℕ)
    → IsCell format c → i * unit_size format ≤ length file → length bytes ≤ unit_size format
    → put_cell format i c (put (i * unit_size format) bytes file) ≡ put_cell format i c file
unfolding put_cell
over_torn format i c bytes file fits within few = put-put (i * unit_size format) bytes (unit_text format c) file within
    (omega (arith, few, length-unit format c fits))

module _ (choice : Choice) (held : List Logged) (last : Logged) (sheet : Sheet) (stash : Option (List ℕ))
    (files : HasFiles choice) (i : ℕ) (unit : unit_changed last ≡ Some i) where
  others : (a : Files) (bytes : List ℕ) (g : ℕ) → g ≢ choice.image
      → written choice.image (i * unit_size choice.format) bytes a g ≡ a g
  others a bytes g other = written-other choice.image g (i * unit_size choice.format) bytes a other

  starts : (a : Files) → IsRedone choice held last sheet stash a → i * unit_size choice.format ≤ length (a choice.image)
  starts a is = place_within choice.format i (a choice.image) (omega (arith, is.within, (numbered last.cell i unit).0))

  log_same : (a : Files) (bytes : List ℕ) → log_in choice.format choice.base choice.size choice.block
      (written choice.image (i * unit_size choice.format) bytes a choice.log)
      ≡ log_in choice.format choice.base choice.size choice.block (a choice.log)
  log_same a bytes =
      ap (log_in choice.format choice.base choice.size choice.block) (others a bytes choice.log files.apart)

  stash_same : (a : Files) (bytes : List ℕ)
      → stash_in choice (written choice.image (i * unit_size choice.format) bytes a) ≡ stash_in choice a
  stash_same a bytes = stash_alike choice _ a (λ some. others a bytes choice.stash (files.stash some).1)

  force_same : (a : Files) (bytes : List ℕ)
      → in_force (written choice.image (i * unit_size choice.format) bytes a 0) ≡ in_force (a 0)
  force_same a bytes = ap in_force (others a bytes 0 (λ (e : 0 ≡ choice.image). files.image (sym e)))

  torn_redone : (a : Files) (bytes : List ℕ)
      → length bytes ≤ unit_size choice.format → IsRedone choice held last sheet stash a
      → IsRedone choice held last sheet stash (written choice.image (i * unit_size choice.format) bytes a)
  torn_redone a bytes few is =
      let at = i * unit_size choice.format in
      let here : written choice.image at bytes a choice.image ≡ put at bytes (a choice.image) =
      written-same choice.image at bytes a in
      let skip : skipping choice.format (unit_changed last) (written choice.image at bytes a choice.image)
      ≡ skipping choice.format (unit_changed last) (a choice.image) =
      ap (λ (o : Option ℕ). skipping choice.format o (written choice.image at bytes a choice.image)) unit
      ∙ ap (put_cell choice.format i None) here
      ∙ over_torn choice.format i None bytes (a choice.image) tt (starts a is) few
      ∙ ap (λ (o : Option ℕ). skipping choice.format o (a choice.image)) (sym unit) in
      record {
        force = force_same a bytes ∙ is.force;
        log = log_same a bytes ∙ is.log;
        last_is = is.last_is;
        within = subst (λ (f : List ℕ). last.cell ≤ count_of choice.format f) (sym here)
            (more_units choice.format at bytes (a choice.image) (starts a is) last.cell is.within);
        sheet_is = ap (sheet_in choice.format) skip ∙ is.sheet_is;
        placed = is.placed;
        stash_is = stash_same a bytes ∙ is.stash_is;
      }

  -- wherever a crash tears the unit, the same is found
  pub torn_found : (a c : Files) → IsRedone choice held last sheet stash a
      → Torn choice.image (i * unit_size choice.format) (unit_size choice.format) a c → found_in c ≡ found_in a
  torn_found a c is torn =
      let here = subst (IsRedone choice held last sheet stash) (sym torn.is) (torn_redone a torn.bytes torn.few is) in
      found_redone choice held last sheet stash c here ∙ sym (found_redone choice held last sheet stash a is)

  -- and once it is written, all stands
  pub redone_stands : (a : Files) → IsRedone choice held last sheet stash a
      → MayStand choice.format i (left_by last.entry.op) sheet.cells
      → StandsOnDisk (record {
        control = choice;
        held = held;
        sheet = record { realm = sheet.realm; cells = redone last sheet.cells };
        stash = stash;
      }) (written choice.image (i * unit_size choice.format) (unit_text choice.format (left_by last.entry.op)) a)
  unfolding put_cell
  redone_stands a is may =
      let left = left_by last.entry.op in
      let format = choice.format in
      let at = i * unit_size format in
      let file = a choice.image in
      let free : sheet_in format (put_cell format i None file) ≡ Ok sheet =
      ap (λ (o : Option ℕ). sheet_in format (skipping format o file)) (sym unit) ∙ is.sheet_is in
      let over : put_cell format i left (put_cell format i None file) ≡ put_cell format i left file = over_torn format i
      left (unit_text format None) file may.fits (starts a is) (omega (arith, length-unit format None tt)) in
      let cells : redone last sheet.cells ≡ set_cell i left sheet.cells =
      ap (λ (o : Option ℕ). with_unit o left sheet.cells) unit in
      record {
        force = force_same a (unit_text format left) ∙ is.force;
        would = record {
          log = log_same a (unit_text format left) ∙ is.log;
          sheet = ap (sheet_in format) (written-same choice.image at (unit_text format left) a ∙ sym over)
              ∙ put_sheet format i left (put_cell format i None file) sheet free may
              ∙ ap (λ (l : List Cell). Ok (record { realm = sheet.realm; cells = l })) (sym cells);
          stash = stash_same a (unit_text format left) ∙ is.stash_is;
        };
      }

redo_of : (choice : Choice) (held : List Logged) (last : Logged) (sheet : Sheet) (stash : Option (List ℕ)) (a : Files)
    → IsLookedAt choice held last sheet stash a → IsRedone choice held last sheet stash a
redo_of choice held last sheet stash a is = record {
  force = is.force;
  log = is.log;
  last_is = is.last_is;
  within = is.within;
  sheet_is = is.sheet_is;
  placed = is.placed;
  stash_is = is.stash_is;
}

pub found_looked : (choice : Choice) (held : List Logged) (last : Logged) (sheet : Sheet) (stash : Option (List ℕ))
    (a : Files) → IsLookedAt choice held last sheet stash a → found_in a ≡ Ok (found_again choice held last sheet stash)
found_looked choice held last sheet stash a is =
    found_redone choice held last sheet stash a (redo_of choice held last sheet stash a is)

pub torn_alike : (choice : Choice) (held : List Logged) (last : Logged) (sheet : Sheet) (stash : Option (List ℕ))
    (i : ℕ) (a c : Files) → HasFiles choice → unit_changed last ≡ Some i → IsLookedAt choice held last sheet stash a
    → Torn choice.image (i * unit_size choice.format) (unit_size choice.format) a c → found_in c ≡ found_in a
torn_alike choice held last sheet stash i a c files unit is torn =
    torn_found choice held last sheet stash files i unit a c (redo_of choice held last sheet stash a is) torn

pub stands_again : (choice : Choice) (held : List Logged) (last : Logged) (sheet : Sheet) (stash : Option (List ℕ))
    (i : ℕ) (a : Files) → HasFiles choice → unit_changed last ≡ Some i → IsLookedAt choice held last sheet stash a
    → MayStand choice.format i (left_by last.entry.op) sheet.cells
    → StandsOnDisk (found_again choice held last sheet stash)
    (written choice.image (i * unit_size choice.format) (unit_text choice.format (left_by last.entry.op)) a)
stands_again choice held last sheet stash i a files unit is may =
    redone_stands choice held last sheet stash files i unit a (redo_of choice held last sheet stash a is) may

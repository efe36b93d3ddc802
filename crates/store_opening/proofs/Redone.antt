-- The last entry done again on the disk.
use Rattle.std.proofs.Common.{◌≡◌, ◌≢◌, ℕ, ◌*◌, ◌≤◌, ⊎_elim, false, List, length}
use Rattle.std.proofs.Common.{Option, Some, None, Ok, refl, sym, ap, subst, ◌∙◌}
use Rattle.std.proofs.lemmas.Bool.{cases_eq}
use Rattle.kdb_disk.specs.Files.{Files}
use Rattle.kdb_disk.specs.View.{View}
use Rattle.kdb_disk.specs.Moments.{LeavesOnly, LeavesTorn, IsSettled, Keeps, Stands}
use Rattle.kdb_disk.proofs.Puts.{written-other}
use Rattle.kdb_disk.proofs.Runs.{started, weaken, torn_seen, settled_after, stands_other, at_end, kept_first}
use Rattle.kdb_cells.specs.Cells.{Cell, unit_size, unit_text}
use Rattle.kdb_cells.specs.CellFiles.{CellFile}
use Rattle.kdb_cells.specs.FileCells.{MayStand}
use Rattle.kdb_cells.specs.Scanning.{skipping}
use Rattle.kdb_cells.specs.Sheets.{sheet_in}
use Rattle.kdb_cells.proofs.UnitPuts.{place_within}
use Rattle.update_log.specs.Logs.{Journal, Holds}
use Rattle.update_log.specs.Moments.{HasLog}
use Rattle.store_files.specs.Found.{Found, unit_numbered, unit_changed, left_by, with_unit, redone, found_in}
use Rattle.store_files.specs.Kept.{Kept, IsKept, IsOnDisk}
use Rattle.store_files.specs.Recovery.{IsLike}
use Rattle.store_files.specs.Standing.{StandsOnDisk, MayChange}
use Rattle.store_files.proofs.Units.{numbered_none, numbered_some, unit_holds}
use Rattle.store_opening.specs.declared.looking.Again.{Again}
use Rattle.store_opening.specs.Looking.{last_again, IsAgain, IsLooked, AreLooked}
use Rattle.store_opening.specs.Reading.{IsFoundOf}
use Rattle.store_opening.specs.Redoing.{found_again}
use Rattle.store_opening.specs.Writes.{number_of, WritesIn, HoldsCells}
use Rattle.store_opening.proofs.Torn.{found_looked, torn_alike, stands_again}

-- what is kept once the unit is written
abbrev pub kept_again : Again → CellFile → Kept
kept_again a cells = record {
  control = a.parts.control;
  log = a.parts.log;
  cells = cells;
  rows = a.parts.rows;
  realm = a.parts.realm;
  stash = a.parts.stash;
  broken = false;
}

abbrev pub found_of : Again → List Cell → Found
found_of a cells = found_again a.parts.control a.parts.log.held (last_again a)
    (record { realm = a.parts.realm; cells = cells }) a.parts.stash

abbrev pub left_again : Again → Cell
left_again a = left_by (last_again a).entry.op

-- the file of cells keeps its number and its format, and the index leads to the cells with the last entry's
pub record IsIndexed (a : Again) (cells : List Cell) (late : CellFile) : Type 0 where
  pub file_is : late.file ≡ a.parts.cells.file
  pub format_is : late.format ≡ a.parts.cells.format
  pub holds : HoldsCells late (with_unit (unit_numbered (number_of a.write)) (left_again a) cells)

-- what is kept hangs together, whatever the disk tells
pub kept_hangs : (a : Again) (cells : List Cell) (late : CellFile) → IsAgain a cells → IsIndexed a cells late
    → IsKept (kept_again a late)
kept_hangs a cells late is leads =
    let holds = subst (λ (n : ℕ). HoldsCells late (with_unit (unit_numbered n) (left_again a) cells)) is.left.number_is
    leads.holds in
    let chosen = is.chosen in
    record {
      chosen = record {
        log = chosen.log;
        base = chosen.base;
        size = chosen.size;
        block = chosen.block;
        image = leads.file_is ∙ chosen.image;
        format = leads.format_is ∙ chosen.format;
      };
      indexed =
          record { cells = redone (last_again a) cells; leads = holds.leads; many = holds.many; rows_is = is.rows_is };
    }

-- it is what is found
pub kept_found : (a : Again) (cells : List Cell) (late : CellFile) (files : Files) → IsAgain a cells
    → IsLooked a cells files → IsFoundOf (kept_again a late) (found_in files)
kept_found a cells late files is looked = (
  redone (last_again a) cells,
  (
    is.rows_is,
    found_looked a.parts.control a.parts.log.held (last_again a)
        (record { realm = a.parts.realm; cells = cells }) a.parts.stash files looked,
  ),
)

-- where there is no unit, all stands as it is
as_it_is : (a : Again) (cells : List Cell) (files : Files) → unit_changed (last_again a) ≡ None → IsLooked a cells files
    → StandsOnDisk (found_of a cells) files
as_it_is a cells files none looked =
    let format = a.parts.control.format in
    let file = files a.parts.control.image in
    let same : cells ≡ redone (last_again a) cells =
    sym (ap (λ (o : Option ℕ). with_unit o (left_again a) cells) none) in
    record {
      force = looked.force;
      would = record {
        log = looked.log;
        sheet = sym (ap (λ (o : Option ℕ). sheet_in format (skipping format o file)) none) ∙ looked.sheet_is
            ∙ ap (λ (l : List Cell). Ok (record { realm = a.parts.realm; cells = l })) same;
        stash = looked.stash_is;
      };
    }

-- ---- the unit is written

-- what is written is what the entry leaves, in the format of the file
pub writes_again : (a : Again) (cells : List Cell) → IsAgain a cells
    → WritesIn a.parts.cells.format a.write (left_again a)
writes_again a cells is = subst (λ (f : ℕ). WritesIn f a.write (left_again a)) (sym is.chosen.format) is.left.writes

-- and it begins within the file
pub within_again : (a : Again) (cells : List Cell) (files : Files) → IsAgain a cells → IsLooked a cells files
    → number_of a.write * unit_size a.parts.cells.format ≤ length (files a.parts.cells.file)
within_again a cells files is looked =
    subst (λ (g : ℕ). number_of a.write * unit_size a.parts.cells.format ≤ length (files g)) (sym is.chosen.image)
    (subst (λ (f : ℕ). number_of a.write * unit_size f ≤ length (files a.parts.control.image)) (sym is.chosen.format)
    (subst (λ (n : ℕ). n * unit_size a.parts.control.format ≤ length (files a.parts.control.image))
    (sym is.left.number_is)
    (place_within a.parts.control.format (last_again a).cell (files a.parts.control.image) looked.within)))

-- the write is one of the last entry's unit in the file of cells
torn_there : {old new : View} (a : Again) (cells : List Cell) → IsAgain a cells
    → LeavesTorn a.parts.cells.file (number_of a.write * unit_size a.parts.cells.format)
    (unit_size a.parts.cells.format) old new
    → LeavesTorn a.parts.control.image ((last_again a).cell * unit_size a.parts.control.format)
    (unit_size a.parts.control.format) old new
torn_there {old} {new} a cells is run =
    subst (λ (n : ℕ). LeavesTorn a.parts.control.image (n * unit_size a.parts.control.format)
    (unit_size a.parts.control.format) old new) is.left.number_is
    (subst (λ (f : ℕ). LeavesTorn a.parts.control.image (number_of a.write * unit_size f) (unit_size f) old new)
    is.chosen.format
    (subst (λ (f : ℕ). LeavesTorn f (number_of a.write * unit_size a.parts.cells.format)
    (unit_size a.parts.cells.format) old new) is.chosen.image run))

stands_there : {old new : View} (a : Again) (cells : List Cell) → IsAgain a cells
    → Stands a.parts.cells.file (number_of a.write * unit_size a.parts.cells.format)
    (unit_text a.parts.cells.format (left_again a)) old new
    → Stands a.parts.control.image ((last_again a).cell * unit_size a.parts.control.format)
    (unit_text a.parts.control.format (left_again a)) old new
stands_there {old} {new} a cells is wrote =
    subst (λ (n : ℕ). Stands a.parts.control.image (n * unit_size a.parts.control.format)
    (unit_text a.parts.control.format (left_again a)) old new) is.left.number_is
    (subst (λ (f : ℕ). Stands a.parts.control.image (number_of a.write * unit_size f)
    (unit_text f (left_again a)) old new) is.chosen.format
    (subst (λ (f : ℕ). Stands f (number_of a.write * unit_size a.parts.cells.format)
    (unit_text a.parts.cells.format (left_again a)) old new) is.chosen.image wrote))

may_there : (a : Again) (cells : List Cell) → IsAgain a cells → unit_changed (last_again a) ≡ Some (last_again a).cell
    → MayStand a.parts.control.format (last_again a).cell (left_again a) cells
may_there a cells is unit =
    subst (λ (o : Option ℕ). MayChange a.parts.control.format o (left_again a) cells) unit is.stands

like_torn : {old new : View} (a : Again) (cells : List Cell)
    → IsAgain a cells → unit_changed (last_again a) ≡ Some (last_again a).cell → IsSettled old → old.images old.seen
    → IsLooked a cells old.seen
    → LeavesTorn a.parts.control.image ((last_again a).cell * unit_size a.parts.control.format)
    (unit_size a.parts.control.format) old new → LeavesOnly old new (IsLike old)
like_torn {old} {new} a cells is unit settled seen looked run = weaken {P = IsLike old} run (λ c from. record {
  before = old.seen;
  was = seen;
  same = torn_alike a.parts.control a.parts.log.held (last_again a) (record { realm = a.parts.realm; cells = cells })
      a.parts.stash (last_again a).cell old.seen c is.files unit looked (torn_seen settled from);
})

stands_torn : {old new : View} (a : Again) (cells : List Cell) → IsAgain a cells
    → unit_changed (last_again a) ≡ Some (last_again a).cell → IsLooked a cells old.seen
    → Stands a.parts.control.image ((last_again a).cell * unit_size a.parts.control.format)
    (unit_text a.parts.control.format (left_again a)) old new → StandsOnDisk (found_of a cells) new.seen
stands_torn {old} {new} a cells is unit looked wrote = subst (StandsOnDisk (found_of a cells)) (sym wrote.seen)
    (stands_again a.parts.control a.parts.log.held (last_again a) (record { realm = a.parts.realm; cells = cells })
    a.parts.stash (last_again a).cell old.seen is.files unit looked (may_there a cells is unit))

-- What the write leaves: all stands in what is read, no crash leaves anything else, and the log's file reads as before.
pub record IsWrittenAgain (a : Again) (cells : List Cell) (old new : View) : Type 0 where
  pub stands : StandsOnDisk (found_of a cells) new.seen
  pub settled : IsSettled new
  pub log : new.seen a.parts.control.log ≡ old.seen a.parts.control.log

module _ {D : Type 0} (view : D → View) (old new : D) (a : Again) (cells : List Cell)
    (is : IsAgain a cells) (settled : IsSettled (view old)) (looked : IsLooked a cells (view old).seen)
    (nothing : number_of a.write ≡ 0 → new ≡ old)
    (run : LeavesTorn a.parts.cells.file (number_of a.write * unit_size a.parts.cells.format)
    (unit_size a.parts.cells.format) (view old) (view new)) where
  -- a crash leaves files that stand for what they stood for
  pub again_runs : (view old).images (view old).seen → LeavesOnly (view old) (view new) (IsLike (view old))
  again_runs seen = ⊎_elim
      (λ none. subst (λ (d : D). LeavesOnly (view old) (view d) (IsLike (view old)))
      (sym (nothing (is.left.number_is ∙ none)))
      (started (view old) (IsLike (view old)) (λ c now. record { before = c; was = now; same = refl })))
      (λ some. like_torn a cells is (numbered_some (last_again a).cell some) settled seen looked
      (torn_there a cells is run))
      (cases_eq (last_again a).cell 0)

  pub again_written : (number_of a.write ≢ 0 → Stands a.parts.cells.file (number_of a.write
      * unit_size a.parts.cells.format) (unit_text a.parts.cells.format (left_again a)) (view old) (view new))
      → IsWrittenAgain a cells (view old) (view new)
  again_written wrote = ⊎_elim
      (λ none. subst (λ (d : D). IsWrittenAgain a cells (view old) (view d)) (sym (nothing (is.left.number_is ∙ none)))
      (record {
        stands = as_it_is a cells (view old).seen (numbered_none (last_again a).cell none) looked;
        settled = settled;
        log = refl;
      }))
      (λ some.
      let here = stands_there a cells is (wrote (λ e. some (sym is.left.number_is ∙ e))) in
      record {
        stands = stands_torn a cells is (numbered_some (last_again a).cell some) looked here;
        settled = settled_after settled (torn_there a cells is run) here;
        log = stands_other a.parts.control.log here is.files.apart;
      })
      (cases_eq (last_again a).cell 0)

-- what is kept stands on the disk
pub on_again : {old new : View} (a : Again) (cells : List Cell) (late : CellFile) → IsAgain a cells
    → IsIndexed a cells late → old.images old.seen → HasLog a.parts.log old → IsWrittenAgain a cells old new
    → IsOnDisk (kept_again a late) new
on_again {old} {new} a cells late is leads seen log wrote =
    let holds = subst (λ (n : ℕ). HoldsCells late (with_unit (unit_numbered n) (left_again a) cells)) is.left.number_is
    leads.holds in
    let image : late.file ≡ a.parts.control.image = leads.file_is ∙ is.chosen.image in
    let format : late.format ≡ a.parts.control.format = leads.format_is ∙ is.chosen.format in
    let at_log : new.seen a.parts.log.file ≡ old.seen a.parts.log.file =
    ap new.seen is.chosen.log ∙ wrote.log ∙ sym (ap old.seen is.chosen.log) in
    record {
      cells = redone (last_again a) cells;
      rows = is.rows_is;
      file = record {
        read = ap (λ (f : ℕ). sheet_in f (new.seen late.file)) format
            ∙ ap (λ (f : ℕ). sheet_in a.parts.control.format (new.seen f)) image ∙ wrote.stands.would.sheet;
        cells = holds.leads;
        count = holds.many;
      };
      stands = record {
        done = unit_holds a.parts.control.format (unit_changed (last_again a)) (left_again a) cells is.stands;
        files = is.files;
        each = λ c now. subst (StandsOnDisk (found_of a cells)) (sym (wrote.settled.only c now)) wrote.stands;
      };
      log = record {
        each = λ c now. subst (Holds a.parts.log)
            (sym (ap (λ (files : Files). files a.parts.log.file) (wrote.settled.only c now) ∙ at_log))
            (log.each old.seen seen);
      };
      durable = record { durable = λ c now. ap (λ (files : Files). files a.parts.log.file) (wrote.settled.only c now) };
    }

-- no other file is written
pub again_others : {old new : View} (a : Again) (cells : List Cell) → IsAgain a cells → IsSettled old
    → new.images new.seen
    → LeavesTorn a.parts.cells.file (number_of a.write * unit_size a.parts.cells.format)
    (unit_size a.parts.cells.format) old new
    → (g : ℕ) → g ≢ a.parts.control.image → new.seen g ≡ old.seen g
again_others {old} {new} a cells is settled seen run g other =
    let torn = torn_seen settled (at_end run new.seen seen) in
    ap (λ (files : Files). files g) torn.is
    ∙ written-other a.parts.cells.file g (number_of a.write * unit_size a.parts.cells.format) torn.bytes old.seen
    (λ e. other (e ∙ is.chosen.image))

-- ---- what was read before

pub like_first : {old mid new : View} → Keeps old mid → LeavesOnly mid new (IsLike mid)
    → LeavesOnly old new (IsLike old)
like_first {old} {mid} keeps run = kept_first {P = IsLike old} keeps
    (weaken {P = IsLike old} run (λ c from. record {
      before = from.before;
      was = at_end keeps.leaves from.before from.was;
      same = from.same;
    }))
    (λ c now. record { before = c; was = now; same = refl })

pub like_kept : {old new : View} → Keeps old new → LeavesOnly old new (IsLike old)
like_kept {old} keeps = weaken {P = IsLike old} keeps.leaves (λ c now. record { before = c; was = now; same = refl })

pub log_kept : {old new : View} (log : Journal) → Keeps old new → HasLog log old → HasLog log new
log_kept log keeps has = record { each = λ c now. has.each c (at_end keeps.leaves c now) }

-- what was read of the files is read of them still
pub looked_kept : (told : Type 0) (a : Again) (before mid : Files) → (told → mid ≡ before) → AreLooked told a before
    → AreLooked told a mid
looked_kept told a before mid kept looked = record {
  cells = looked.cells;
  again = looked.again;
  read = λ tells. subst (IsLooked a looked.cells) (sym (kept tells)) (looked.read tells);
}

-- A change on the disk, at every moment: its entry is opened in the log, and its unit is written.
use Rattle.std.proofs.Common.{◌≡◌, ◌≢◌, ℕ, zero, suc, ◌+◌, ◌*◌, ◌<◌, ◌≤◌, ◌⊎◌, inl, inr, ⊎_elim, List, []}
use Rattle.std.proofs.Common.{◌∷◌, ◌++◌, length, Option, Some, None, refl, sym, ap, subst, ◌∙◌, arith}
use Rattle.std.specs.Prelude.{Ok, nat_eq, true, option_to_list}
use Rattle.std.specs.List.{All, AllByRecursion}
use Rattle.std.proofs.lemmas.Bool.{cases_eq, eq-eqb, ne_eqb}
use Rattle.std.proofs.lemmas.List.Elements.{All-from_recursion}
use Rattle.kdb_base.specs.declared.moments.Point.{Point}
use Rattle.kdb_disk.specs.Files.{Files, put, written}
use Rattle.kdb_disk.specs.View.{View, Torn, IsAfter}
use Rattle.kdb_disk.specs.Moments.{LeavesOnly, LeavesTorn}
use Rattle.kdb_disk.specs.Moments as moments
use Rattle.kdb_disk.proofs.Puts.{put-put, length-put, written-same, written-other}
use Rattle.kdb_disk.proofs.Runs.{weaken, at_end, then_on, started}
use Rattle.kdb_control.specs.Choice.{Choice}
use Rattle.kdb_control.specs.Force.{in_force}
use Rattle.kdb_control.specs.declared.force.Force.TheVariants.{Is}
use Rattle.princ_rows.specs.declared.entries.Logged.{Logged}
use Rattle.update_log.specs.Logs.{Journal, HoldsIn, newest, log_committed, with_prepared}
use Rattle.update_log.specs.Logs as logs
use Rattle.update_log.specs.Moments.{HasLog, Leaves, LeavesLog, LeavesEither, IsDurable, ReadsOthers}
use Rattle.update_log.specs.Runs.{log_in, stands_in}
use Rattle.update_log.proofs.Readings.{reads_logs}
use Rattle.kdb_cells.specs.Cells.{Cell, unit_size, unit_text}
use Rattle.kdb_cells.specs.Sheets.{Sheet, count_of, put_cell, sheet_in}
use Rattle.kdb_cells.specs.FileCells.{MayStand}
use Rattle.kdb_cells.specs.Scanning.{skipping}
use Rattle.kdb_cells.proofs.Sheeting.{read_sheet}
use Rattle.kdb_cells.proofs.UnitPuts.{some_unit, div_most, place_within}
use Rattle.kdb_cells.proofs.UnitTexts.{length-unit}
use Rattle.store_files.specs.Found.{Found, unit_numbered, unit_changed, left_by}
use Rattle.store_files.specs.Found.{with_unit, redone, last_of, stash_in, found_in}
use Rattle.store_files.specs.Standing.{last_in, HasCell, IsDone, HasFiles, Would, StandsOnDisk, Holds}
use Rattle.store_files.specs.Standing.{MayChange, after, Pending, IsUnderWay, IsLogOf, IsChange}
use Rattle.store_files.proofs.Units.{unit_holds, numbered_none, numbered_some}
use Rattle.store_files.proofs.Finding.{last_newest, numbered, passed_over, pending_found, stands_found}

-- ---- the log

every : (P : Logged → Type 0) → ((l : Logged) → P l) → (held : List Logged) → AllByRecursion P held
every P each [] = tt
every P each (l ∷ held) = (each l, every P each held)

-- in format 2 each entry may stand
pub log_reads : (format : ℕ) (base : Point) (size block : ℕ) (held : List Logged) (file : List ℕ) → format ≡ 2
    → HoldsIn base size block held file
    → log_in format base size block file ≡ Ok held
log_reads format base size block held file newer holds =
    let P = λ (l : Logged). stands_in format l ≡ true in
    reads_logs format base size block held file holds (All-from_recursion P (holds.older ++ held)
    (every P (λ l. subst (λ (f : ℕ). stands_in f l ≡ true) (sym newer) refl) (holds.older ++ held)))

pub log_found : (log : Journal) (o : Found) (file : List ℕ) → o.control.format ≡ 2 → IsLogOf log o → logs.Holds log file
    → log_in o.control.format o.control.base o.control.size o.control.block file ≡ Ok o.held
log_found log o file newer is holds =
    let format = o.control.format in
    let at_base = subst (λ (b : Point). HoldsIn b log.size log.block log.held file) is.base_is holds in
    let at_size = subst (λ (n : ℕ). HoldsIn o.control.base n log.block log.held file) is.size_is at_base in
    let at_block = subst (λ (n : ℕ). HoldsIn o.control.base o.control.size n log.held file) is.block_is at_size in
    log_reads format o.control.base o.control.size o.control.block o.held file newer
    (subst (λ (l : List Logged). HoldsIn o.control.base o.control.size o.control.block l file) is.held_is at_block)

pub log_after : (log : Journal) (o : Found) (l : Logged) → log.prepared ≡ Some l → IsLogOf log o
    → IsLogOf (log_committed log) (after l o)
log_after log o l prepared is = record {
  file_is = is.file_is;
  base_is = is.base_is;
  size_is = is.size_is;
  block_is = is.block_is;
  held_is =
      ap (λ (p : Option Logged). newest log.size (log.held ++ option_to_list p)) prepared
      ∙ ap (λ (n : ℕ). newest n (log.held ++ l ∷ [])) is.size_is
      ∙ ap (λ (held : List Logged). newest o.control.size (held ++ l ∷ [])) is.held_is;
}

-- ---- files that differ in one

stash_same : (choice : Choice) (c d : Files) → (choice.stash ≢ 0 → c choice.stash ≡ d choice.stash)
    → stash_in choice c ≡ stash_in choice d
unfolding stash_in
stash_same choice c d same = ⊎_elim
    (λ none. rw (eq-eqb choice.stash 0 none) refl)
    (λ some. rw (ne_eqb choice.stash 0 some) (ap Some (same some)))
    (cases_eq choice.stash 0)

turned : (a b : ℕ) → a ≢ b → b ≢ a
turned a b apart e = apart (sym e)

-- all but the log's file are those of files that stand
log_apart : (choice : Choice) (c d : Files) → HasFiles choice → ((g : ℕ) → g ≢ choice.log → c g ≡ d g)
    → stash_in choice c ≡ stash_in choice d
log_apart choice c d files others = stash_same choice c d (λ some. others choice.stash (files.stash some).0)

image_apart : (choice : Choice) (c d : Files) → HasFiles choice → ((g : ℕ) → g ≢ choice.image → c g ≡ d g)
    → stash_in choice c ≡ stash_in choice d
image_apart choice c d files others = stash_same choice c d (λ some. others choice.stash (files.stash some).1)

pub stands_by_log : (o : Found) (c d : Files) → HasFiles o.control → StandsOnDisk o d
    → ((g : ℕ) → g ≢ o.control.log → c g ≡ d g)
    → log_in o.control.format o.control.base o.control.size o.control.block (c o.control.log) ≡ Ok o.held
    → StandsOnDisk o c
stands_by_log o c d files stands others log = record {
  force = ap in_force (others 0 (turned _ _ files.log)) ∙ stands.force;
  would = record {
    log = log;
    sheet = ap (sheet_in o.control.format) (others o.control.image (turned _ _ files.apart)) ∙ stands.would.sheet;
    stash = log_apart o.control c d files others ∙ stands.would.stash;
  };
}

may_within : (format : ℕ) (unit : Option ℕ) (c : Cell) (cells : List Cell) → MayChange format unit c cells → (i : ℕ)
    → unit ≡ Some i
    → (1 ≤ i) × (i ≤ length cells)
may_within format None c cells may i is = absurd cc
may_within format (Some k) c cells may i is = let same : k ≡ i =
    cc in subst (λ (j : ℕ). (1 ≤ j) × (j ≤ length cells)) same (may.from, may.within)

cell_most : (cell n : ℕ) → ((i : ℕ) → unit_numbered cell ≡ Some i → i ≤ n) → cell ≤ n
cell_most cell n le = ⊎_elim
    (λ none. omega (arith, none))
    (λ some. le cell (numbered_some cell some))
    (cases_eq cell 0)

-- the entry is open, and nothing else is done
pub pending_by_log : (l : Logged) (o : Found) (c d : Files) → HasFiles o.control
    → MayChange o.control.format (unit_changed l) (left_by l.entry.op) o.sheet.cells → StandsOnDisk o d
    → ((g : ℕ) → g ≢ o.control.log → c g ≡ d g)
    → log_in o.control.format o.control.base o.control.size o.control.block (c o.control.log)
    ≡ Ok (newest o.control.size (o.held ++ l ∷ []))
    → Pending l o c
pending_by_log l o c d files may stands others log =
    let image = others o.control.image (turned _ _ files.apart) in
    let sheet : sheet_in o.control.format (c o.control.image) ≡ Ok o.sheet =
    ap (sheet_in o.control.format) image ∙ stands.would.sheet in
    let is = read_sheet o.control.format (c o.control.image) o.sheet sheet in
    let within = may_within o.control.format (unit_changed l) (left_by l.entry.op) o.sheet.cells may in
    let most = cell_most l.cell (length o.sheet.cells) (λ i at. (within i at).1) in
    record {
      force = ap in_force (others 0 (turned _ _ files.log)) ∙ stands.force;
      log = log;
      within = omega (arith, most, is.long);
      sheet = passed_over o.control.format (unit_changed l) o.sheet (c o.control.image) sheet within;
      stash = log_apart o.control c d files others ∙ stands.would.stash;
    }

-- a unit that is passed over may have any bytes
skip_torn : (format i : ℕ) (bytes file : List ℕ) → i * unit_size format ≤ length file → length bytes ≤ unit_size format
    → skipping format (Some i) (put (i * unit_size format) bytes file) ≡ skipping format (Some i) file
unfolding put_cell
skip_torn format i bytes file within few = put-put (i * unit_size format) bytes (unit_text format None) file within
    (omega (arith, length-unit format None tt, few))

skip_within : (format i : ℕ) (file : List ℕ) → i * unit_size format ≤ length file → i ≤ count_of format file
unfolding count_of
skip_within format i file within = div_most (length file) (unit_size format) i (some_unit format) within

pub pending_torn : (l : Logged) (o : Found) (i : ℕ) (c d : Files) → HasFiles o.control → unit_changed l ≡ Some i
    → Pending l o d
    → Torn o.control.image (i * unit_size o.control.format) (unit_size o.control.format) d c → Pending l o c
pending_torn l o i c d files unit is torn =
    let format = o.control.format in
    let at = i * unit_size format in
    let bytes = torn.bytes in
    let others : (g : ℕ) → g ≢ o.control.image → c g ≡ d g =
    λ g apart. ap (λ (f : Files). f g) torn.is ∙ written-other o.control.image g at bytes d apart in
    let here : c o.control.image ≡ put at bytes (d o.control.image) =
    ap (λ (f : Files). f o.control.image) torn.is ∙ written-same o.control.image at bytes d in
    let cell : l.cell ≡ i = (numbered l.cell i unit).0 in
    let old = is.within in
    let within : at ≤ length (d o.control.image) =
    place_within format i (d o.control.image) (omega (arith, old, cell)) in
    let longer : at ≤ length (c o.control.image) =
    omega (arith, ap length here, length-put at bytes (d o.control.image) within, within) in
    let most = skip_within format i (c o.control.image) longer in
    record {
      force = ap in_force (others 0 (turned _ _ files.image)) ∙ is.force;
      log =
          ap (log_in format o.control.base o.control.size o.control.block) (others o.control.log files.apart) ∙ is.log;
      within = omega (arith, most, cell);
      sheet =
          ap (λ (u : Option ℕ). sheet_in format (skipping format u (c o.control.image))) unit
          ∙ ap (λ (f : List ℕ). sheet_in format (skipping format (Some i) f)) here
          ∙ ap (sheet_in format) (skip_torn format i bytes (d o.control.image) within torn.few)
          ∙ ap (λ (u : Option ℕ). sheet_in format (skipping format u (d o.control.image))) (sym unit)
          ∙ is.sheet;
      stash = image_apart o.control c d files others ∙ is.stash;
    }

-- the unit is written
pub written_stands : (l : Logged) (o : Found) (c d : Files) → HasFiles o.control → Pending l o d
    → ((g : ℕ) → g ≢ o.control.image → c g ≡ d g)
    → sheet_in o.control.format (c o.control.image) ≡ Ok (after l o).sheet → StandsOnDisk (after l o) c
written_stands l o c d files is others sheet = record {
  force = ap in_force (others 0 (turned _ _ files.image)) ∙ is.force;
  would = record {
    log = ap (log_in o.control.format o.control.base o.control.size o.control.block) (others o.control.log files.apart)
        ∙ is.log;
    sheet = sheet;
    stash = image_apart o.control c d files others ∙ is.stash;
  };
}

-- where there is no unit, nothing is left to write
pub unchanged_stands : (l : Logged) (o : Found) (c : Files) → unit_changed l ≡ None → Pending l o c
    → StandsOnDisk (after l o) c
unchanged_stands l o c unit is = record {
  force = is.force;
  would = record { log = is.log; sheet = by (unit_changed l) unit is.sheet; stash = is.stash };
}
  where
    by : (u : Option ℕ) → u ≡ None
        → sheet_in o.control.format (skipping o.control.format u (c o.control.image))
        ≡ Ok (record { realm = o.sheet.realm; cells = with_unit u None o.sheet.cells })
        → sheet_in o.control.format (c o.control.image)
        ≡ Ok (record { realm = o.sheet.realm; cells = with_unit u (left_by l.entry.op) o.sheet.cells })
    by None none read = read
    by (Some i) none read = absurd cc

-- ---- what stands is done

pub after_done : (l : Logged) (o : Found) → 0 < o.control.size
    → MayChange o.control.format (unit_changed l) (left_by l.entry.op) o.sheet.cells
    → IsDone (after l o)
after_done l o some may =
    let last : last_in (after l o) ≡ l = last_newest o.control.base o.control.size o.held l some in
    subst (λ (x : Logged). HasCell (unit_changed x) (left_by x.entry.op) (redone l o.sheet.cells)) (sym last)
    (unit_holds o.control.format (unit_changed l) (left_by l.entry.op) o.sheet.cells may)

-- ---- runs

-- files of which the log's alone changed
log_others : {log : Journal} {o : Found} {P : List ℕ → Type 0} {old : View} {c : Files} → IsLogOf log o
    → (from : Leaves log.file P old c) → (g : ℕ)
    → g ≢ o.control.log → c g ≡ from.before g
log_others {log} {o} {P} {old} {c} is from g apart = from.others g (λ e. apart (e ∙ is.file_is))

log_here : (log : Journal) (o : Found) (P : List ℕ → Type 0) (c : Files) → IsLogOf log o → P (c log.file)
    → P (c o.control.log)
log_here log o P c is here = subst (λ (f : ℕ). P (c f)) is.file_is here

-- the entry is prepared
pub prepare_runs : {old new : View} (log : Journal) (o : Found) → o.control.format ≡ 2 → IsLogOf log o → Holds o old
    → LeavesOnly old new (LeavesLog log old) → LeavesOnly old new (StandsOnDisk o)
prepare_runs log o newer is holds run = weaken run (λ c from.
    stands_by_log o c from.before holds.files (holds.each from.before from.was) (log_others is from)
    (log_found log o (c o.control.log) newer is (log_here log o (logs.Holds log) c is from.here)))

-- the entry is opened
pub open_runs : {old new : View} (log : Journal) (o : Found) (l : Logged) → IsLogOf log o → log.prepared ≡ Some l
    → IsChange o l → HasFiles o.control
    → ((c : Files) → old.images c → StandsOnDisk o c)
    → LeavesOnly old new (LeavesEither log (log_committed log) old) → LeavesOnly old new (IsUnderWay l o)
open_runs log o l is prepared change files stands run = weaken run (λ c from. ⊎_elim
    (λ one. inl (stands_by_log o c from.before files (stands from.before from.was) (log_others is from)
    (log_found log o (c o.control.log) change.newer is (log_here log o (logs.Holds log) c is one))))
    (λ other. inr (pending_by_log l o c from.before files change.fits (stands from.before from.was) (log_others is from)
    (log_found (log_committed log) (after l o) (c o.control.log) change.newer (log_after log o l prepared is)
    (log_here log o (logs.Holds (log_committed log)) c is other))))
    from.here)

-- and is open in whatever a crash leaves
pub opened_pending : {old new : View} (log : Journal) (o : Found) (l : Logged) → IsLogOf log o → log.prepared ≡ Some l
    → IsChange o l
    → HasFiles o.control → ((c : Files) → old.images c → StandsOnDisk o c)
    → LeavesOnly old new (LeavesEither log (log_committed log) old) → HasLog (log_committed log) new → (c : Files)
    → new.images c → Pending l o c
opened_pending log o l is prepared change files stands run has c now =
    let from = at_end run c now in
    pending_by_log l o c from.before files change.fits (stands from.before from.was) (log_others is from)
    (log_found (log_committed log) (after l o) (c o.control.log) change.newer (log_after log o l prepared is)
    (log_here log o (logs.Holds (log_committed log)) c is (has.each c now)))

-- the unit is written
pub unit_runs : {old new : View} (o : Found) (l : Logged) (i : ℕ) → HasFiles o.control → unit_changed l ≡ Some i
    → ((c : Files) → old.images c → Pending l o c)
    → LeavesTorn o.control.image (i * unit_size o.control.format) (unit_size o.control.format) old new
    → LeavesOnly old new (Pending l o)
unit_runs o l i files unit pending run =
    weaken run (λ c from. pending_torn l o i c from.before files unit (pending from.before from.was) from.went)

-- each image of a written unit
pub written_each : {old new : View} (o : Found) (l : Logged) (at n : ℕ) → HasFiles o.control
    → ((c : Files) → old.images c → Pending l o c)
    → LeavesTorn o.control.image at n old new
    → ((c : Files) → new.images c → c o.control.image ≡ new.seen o.control.image)
    → sheet_in o.control.format (new.seen o.control.image) ≡ Ok (after l o).sheet → (c : Files) → new.images c
    → StandsOnDisk (after l o) c
written_each o l at n files pending run durable sheet c now =
    let from = at_end run c now in
    written_stands l o c from.before files (pending from.before from.was) (λ g apart.
    ap (λ (f : Files). f g) from.went.is ∙ written-other o.control.image g at from.went.bytes from.before apart)
    (ap (sheet_in o.control.format) (durable c now) ∙ sheet)

-- what a write of one file leaves of another
pub other_durable : {old new : View} (file g at n : ℕ) (bytes : List ℕ) → g ≢ file → IsDurable g old
    → LeavesTorn file at n old new
    → new.seen ≡ written file at bytes old.seen → IsDurable g new
other_durable {old} {new} file g at n bytes apart durable run seen = record {
  durable = λ c now.
      let from = at_end run c now in
      ap (λ (f : Files). f g) from.went.is ∙ written-other file g at from.went.bytes from.before apart
      ∙ durable.durable from.before from.was
      ∙ sym (written-other file g at bytes old.seen apart) ∙ sym (ap (λ (f : Files). f g) seen);
}

pub other_log : {old new : View} (log : Journal) (file at n : ℕ) → log.file ≢ file → HasLog log old
    → LeavesTorn file at n old new → HasLog log new
other_log log file at n apart has run = record {
  each = λ c now.
      let from = at_end run c now in
      subst (logs.Holds log) (sym (ap (λ (f : Files). f log.file) from.went.is
      ∙ written-other file log.file at from.went.bytes from.before apart)) (has.each from.before from.was);
}

-- ---- what is found

-- a change that is under way is found to be done or not
pub under_way_found : (l : Logged) (o : Found) (c : Files) → IsDone o → 0 < o.control.size
    → MayChange o.control.format (unit_changed l) (left_by l.entry.op) o.sheet.cells → IsUnderWay l o c
    → (found_in c ≡ Ok o) ⊎ (found_in c ≡ Ok (after l o))
under_way_found l o c done some may (inl stands) = inl (stands_found o c done stands)
under_way_found l o c done some may (inr pending) = inr (pending_found l o c some may pending)

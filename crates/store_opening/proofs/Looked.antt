-- What is read of the files of a database, piece by piece.
use Rattle.std.proofs.Common.{◌≡◌, ℕ, Bool, ◌<◌, ◌≤◌, inr, true, false, List, Option}
use Rattle.std.proofs.Common.{Some, Ok, Err, refl, sym, ap, subst, ◌∙◌, arith}
use Rattle.std.specs.Prelude.{Result, IfOk, nat_le}
use Rattle.std.proofs.lemmas.Bool.{leb-true, leb-false}
use Rattle.kdb_base.specs.declared.outcomes.Refusal.{Refusal}
use Rattle.kdb_base.specs.declared.outcomes.Refusal.TheVariants.{Damaged}
use Rattle.kdb_base.specs.declared.outcomes.Halt.{Halt as HaltOf}
use Rattle.kdb_base.specs.declared.outcomes.Stop.{Stop}
use Rattle.kdb_base.specs.declared.outcomes.Stop.TheVariants.{Refused, Halt}
use Rattle.kdb_disk.specs.Files.{Files}
use Rattle.kdb_control.specs.Choice.{Choice}
use Rattle.kdb_control.specs.Force.{in_force}
use Rattle.kdb_control.specs.declared.force.Force.TheVariants.{Is}
use Rattle.princ_rows.specs.declared.entries.Logged.{Logged}
use Rattle.princ_rows.specs.declared.entries.Op.{Op}
use Rattle.update_log.specs.Logs.{Journal, log_of}
use Rattle.update_log.specs.Runs.{log_in}
use Rattle.update_log.specs.Scanning.{log_found, scanned, Scans}
use Rattle.kdb_cells.specs.Cells.{Cell}
use Rattle.kdb_cells.specs.CellFiles.{units, count}
use Rattle.kdb_cells.specs.Scanning.{skipping, IsGathered, AreScanned, IsDamage, IsDamaged, MaySkip}
use Rattle.kdb_cells.specs.Sheets.{count_of, sheet_in}
use Rattle.kdb_cells.specs.declared.files.Scanned.{Scanned}
use Rattle.kdb_cells.proofs.UnitPuts.{place_within}
use Rattle.store_files.specs.Found.{unit_changed, left_by, is_placed, last_place, stash_in, found_in}
use Rattle.store_files.proofs.Finding.{numbered}
use Rattle.store_opening.specs.Looking.{StopsOpening, last_read, IsHeadOf, IsFitting}
use Rattle.store_opening.specs.Looking.{IsSheetOf, sheet_read, AreCells, AreFitting}
use Rattle.store_opening.specs.Redoing.{AreUnits, IsLookedAt}
use Rattle.store_opening.proofs.Again.{gathered_units}
use Rattle.store_opening.proofs.Refusals.{log_damaged, far_found, cells_damaged, unplaced_found}

-- a damaged file stops an opening
pub damage_stops : (stop : Stop) → IsDamage stop → StopsOpening stop
damage_stops (Refused refusal) damage = inr damage
damage_stops (Halt halt) damage = tt

-- ---- the log

log_fault : (choice : Choice) (r : Refusal) (found : Result (List Logged) ℕ) → log_found choice found ≡ Err r
    → (place : ℕ) × ((r ≡ Damaged choice.log place) × (found ≡ Err place))
log_fault choice r (Ok held) is = absurd cc
log_fault choice r (Err place) is = let same : Damaged choice.log place ≡ r = cc in (place, (sym same, refl))

-- the answer of a scan of the log is a damage
pub log_damage : (choice : Choice) (file : List ℕ) (stop : Stop) → Scans (Err stop) (scanned choice file)
    → IsDamage stop
log_damage choice file (Refused r) scans = let at = log_fault choice r _ scans in (choice.log, (at.0, at.1.0))
log_damage choice file (Halt halt) scans = tt

-- and why nothing is found
pub log_refusal : (files : Files) (choice : Choice) (stop : Stop) (r : Refusal) → in_force (files 0) ≡ Is choice
    → Scans (Err stop) (scanned choice (files choice.log)) → stop ≡ Refused r → found_in files ≡ Err r
log_refusal files choice (Refused q) r force scans is =
    let same : q ≡ r = cc in
    let at = log_fault choice q _ scans in
    log_damaged files choice force at.0 at.1.1 ∙ ap Err (sym at.1.0 ∙ same)
log_refusal files choice (Halt halt) r force scans is = absurd cc

pub stop_same : (stop result : Stop) → ((file place : ℕ) → stop ≡ Refused (Damaged file place) → result ≡ stop)
    → ((halt : HaltOf) → stop ≡ Halt halt → result ≡ stop) → IsDamage stop → result ≡ stop
stop_same (Refused r) result same halted damage = same damage.0 damage.1.0 (ap Refused damage.1.1)
stop_same (Halt halt) result same halted damage = halted halt refl

-- the log that is found
pub head_found : (choice : Choice) (log : Journal) (found : Result (List Logged) ℕ) → log_found choice found ≡ Ok log
    → found ≡ Ok log.held
head_found choice log (Ok held) is = let same : log_of choice.log choice.base choice.size choice.block held ≡ log =
    cc in ap (λ (j : Journal). Ok j.held) same
head_found choice log (Err place) is = absurd cc

pub head_made : (choice : Choice) (log : Journal) (before mid : Files) → mid ≡ before → in_force (before 0) ≡ Is choice
    → Scans (Ok log) (scanned choice (mid choice.log)) → IsHeadOf choice log before
head_made choice log before mid kept force scans = record {
  force = force;
  held = subst (λ (files : Files). log_in choice.format choice.base choice.size choice.block (files choice.log)
      ≡ Ok log.held) kept (head_found choice log _ scans);
}

pub head_kept : (choice : Choice) (log : Journal) (before mid : Files) → mid ≡ before → IsHeadOf choice log before
    → IsHeadOf choice log mid
head_kept choice log before mid kept head = subst (IsHeadOf choice log) (sym kept) head

-- ---- the cells

pub torn_low : (torn : Option ℕ) (last : Logged) → torn ≡ unit_changed last → (i : ℕ) → torn ≡ Some i → 1 ≤ i
torn_low torn last unit i is = (numbered last.cell i (sym unit ∙ is)).1

pub may_skip : (format : ℕ) (torn : Option ℕ) (last : Logged) (file : List ℕ) → torn ≡ unit_changed last
    → last.cell ≤ count_of format file → MaySkip format torn file
may_skip format torn last file unit within i is =
    let number = numbered last.cell i (sym unit ∙ is) in
    (number.1, place_within format i file (omega (arith, within, number.0)))

-- the test of the last entry's unit
pub within_from : (cell other n : ℕ) (within : Bool) → cell ≡ other → within ≡ nat_le cell n → within ≡ true → other ≤ n
within_from cell other n within same is yes_ = omega (arith, same, leb-true cell n (sym is ∙ yes_))

pub far_from : (cell other n : ℕ) (within : Bool) → cell ≡ other → within ≡ nat_le cell n → within ≡ false → n < other
far_from cell other n within same is no_ = omega (arith, same, leb-false cell n (sym is ∙ no_))

-- the test of what the last entry leaves, of the same entry and unit
pub placed_same : (unit other : Option ℕ) (o p : Option Op) (all : List Cell) (b v : Bool) → unit ≡ other → o ≡ p
    → b ≡ is_placed unit (left_by o) all → b ≡ v → is_placed other (left_by p) all ≡ v
placed_same unit other o p all b v same entry is value =
    sym (ap (λ (u : Option ℕ). is_placed u (left_by o) all) same
    ∙ ap (λ (q : Option Op). is_placed other (left_by q) all) entry) ∙ sym is ∙ value

cells_made : (told : Type 0) (choice : Choice) (last : Logged) (s : Scanned) (torn : Option ℕ) (before mid : Files)
    → torn ≡ unit_changed last → (told → mid ≡ before)
    → (told → last.cell ≤ count_of choice.format (before choice.image)) → s.cells.format ≡ choice.format
    → AreScanned told s.cells s.realm s.princs.items s.policies.items torn (mid choice.image)
    → AreCells told choice last s before
cells_made told choice last s torn before mid unit kept within same are = record {
  cells = are.cells;
  gathered = subst (λ (f : ℕ). IsGathered f (units s.cells) (count s.cells) s.princs.items s.policies.items are.cells)
      same are.gathered;
  given = λ tells. are.placed tells ∙ unit;
  read = λ tells. record {
    within = within tells;
    sheet_is = subst (λ (files : Files). sheet_in choice.format
        (skipping choice.format (unit_changed last) (files choice.image)) ≡ Ok (sheet_read s are.cells)) (kept tells)
        (subst (λ (o : Option ℕ).
        sheet_in choice.format (skipping choice.format o (mid choice.image)) ≡ Ok (sheet_read s are.cells)) unit
        (subst (λ (f : ℕ). sheet_in f (skipping f torn (mid choice.image)) ≡ Ok (sheet_read s are.cells)) same
        (are.read tells)));
  };
}

-- what a scan of the file of cells gives
pub scan_made : {E : Type 0} (told : Type 0) (choice : Choice) (last : Logged)
    (r : Result Scanned E) (torn : Option ℕ) (before mid : Files) → torn ≡ unit_changed last → (told → mid ≡ before)
    → (told → last.cell ≤ count_of choice.format (before choice.image))
    → IfOk r (λ s. s.cells.format ≡ choice.format)
    → IfOk r (λ s. AreScanned told s.cells s.realm s.princs.items s.policies.items torn (mid choice.image))
    → IfOk r (λ s. AreCells told choice last s before)
scan_made told choice last (Ok s) torn before mid unit kept within same are =
    cells_made told choice last s torn before mid unit kept within same are
scan_made told choice last (Err e) torn before mid unit kept within same are = tt

module _ (files : Files) (choice : Choice) (log : Journal) (head : IsHeadOf choice log files) where
  -- the last entry's unit is past the end
  pub far_refused : (r : Refusal) → count_of choice.format (files choice.image) < (last_read choice log).cell
      → r ≡ Damaged choice.log (last_place choice (last_read choice log)) → found_in files ≡ Err r
  far_refused r far is = far_found files choice head.force log.held head.held far ∙ ap Err (sym is)

  -- the file of cells is damaged
  pub scan_refused : (r : Refusal) (torn : Option ℕ) → torn ≡ unit_changed (last_read choice log)
      → (last_read choice log).cell ≤ count_of choice.format (files choice.image)
      → IsDamaged choice.image choice.format torn (files choice.image) r → found_in files ≡ Err r
  scan_refused r torn unit within damaged =
      cells_damaged files choice head.force log.held head.held within damaged.0
      (sym (ap (λ (o : Option ℕ). sheet_in choice.format (skipping choice.format o (files choice.image))) unit)
      ∙ damaged.1.1)
      ∙ ap Err (sym damaged.1.0)

  -- what the last entry leaves may not stand in its unit
  pub unfit_refused : (r : Refusal)
      (told : Type 0) (s : Scanned) (are : AreCells told choice (last_read choice log) s files) → told
      → is_placed (unit_changed (last_read choice log)) (left_by (last_read choice log).entry.op) are.cells ≡ false
      → r ≡ Damaged choice.log (last_place choice (last_read choice log)) → found_in files ≡ Err r
  unfit_refused r told s are tells none is =
      let read = are.read tells in
      unplaced_found files choice head.force log.held head.held read.within (sheet_read s are.cells) read.sheet_is none
      ∙ ap Err (sym is)

  -- all was read
  pub looked_made : (s : Scanned) (cells : List Cell) (stash : Option (List ℕ))
      → IsSheetOf choice (last_read choice log) (sheet_read s cells) files
      → IsFitting choice (last_read choice log) s cells → stash_in choice files ≡ stash
      → IsLookedAt choice log.held (last_read choice log) (sheet_read s cells) stash files
  looked_made s cells stash sheet fitting is = record {
    force = head.force;
    log = head.held;
    last_is = refl;
    within = sheet.within;
    sheet_is = sheet.sheet_is;
    placed = fitting.placed;
    stash_is = is;
  }

-- the cells that were read, in which what the last entry leaves may stand
pub fitting_made : (told : Type 0) (choice : Choice) (last : Logged) (s : Scanned) (files : Files)
    → s.cells.file ≡ choice.image → s.cells.format ≡ choice.format → (units s.cells).placed ≡ unit_changed last
    → ((all : List Cell) → AreUnits choice.format s.cells all
    → is_placed (unit_changed last) (left_by last.entry.op) all ≡ true) → AreCells told choice last s files
    → AreFitting told choice last s files
fitting_made told choice last s files file format given placed are = record {
  cells = are.cells;
  fitting = record {
    file_is = file;
    format_is = format;
    gathered = are.gathered;
    given = given;
    placed =
        placed are.cells (gathered_units choice.format s.cells s.princs.items s.policies.items are.cells are.gathered);
  };
  read = are.read;
}

-- the same, over what reads as before
pub fitting_kept : (told : Type 0) (choice : Choice) (last : Logged) (s : Scanned) (before mid : Files)
    → (told → mid ≡ before) → AreFitting told choice last s mid → AreFitting told choice last s before
fitting_kept told choice last s before mid kept are = record {
  cells = are.cells;
  fitting = are.fitting;
  read = λ tells. subst (IsSheetOf choice last (sheet_read s are.cells)) (kept tells) (are.read tells);
}

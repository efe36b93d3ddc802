-- Why files stand for no database.
use Rattle.std.proofs.Common.{◌≡◌, ℕ, ◌<◌, ◌≤◌, false, List, sym, ap, subst, ◌∙◌}
use Rattle.std.specs.Prelude.{Result, Ok, Err, nat_lt}
use Rattle.std.proofs.lemmas.Bool.{cond-true, cond-false, le-ltb, lt-ltb}
use Rattle.kdb_base.specs.declared.outcomes.Refusal.{Refusal}
use Rattle.kdb_base.specs.declared.outcomes.Refusal.TheVariants.{NotADatabase, Damaged}
use Rattle.kdb_base.specs.declared.outcomes.Stop.{Stop}
use Rattle.kdb_base.specs.declared.outcomes.Stop.TheVariants.{Refused}
use Rattle.kdb_disk.specs.Files.{Files}
use Rattle.kdb_control.specs.Answers.{Answers}
use Rattle.kdb_control.specs.Choice.{Choice}
use Rattle.kdb_control.specs.declared.reading.ControlStop.{ControlStop}
use Rattle.kdb_control.specs.declared.reading.ControlStop.TheVariants as stops
use Rattle.kdb_control.specs.Force.{in_force}
use Rattle.kdb_control.specs.declared.force.Force.{Force}
use Rattle.kdb_control.specs.declared.force.Force.TheVariants.{Is}
use Rattle.princ_rows.specs.declared.entries.Logged.{Logged}
use Rattle.update_log.specs.Runs.{log_in}
use Rattle.kdb_cells.specs.Scanning.{skipping}
use Rattle.kdb_cells.specs.Sheets.{Sheet, count_of, sheet_in}
use Rattle.store_files.specs.Found.{Found, unit_changed, left_by, is_placed, redone, last_of}
use Rattle.store_files.specs.Found.{last_place, stash_in, found_done, found_last, found_log, found_by, found_in}

-- nothing is in force
pub nothing_found : (files : Files) (stop : ControlStop) → stop ≡ stops.NotADatabase
    → Answers (Err stop) (in_force (files 0))
    → found_in files ≡ Err NotADatabase
unfolding found_in
nothing_found files stop is answers = ap (λ (f : Force). found_by f files) (subst
    (λ (s : ControlStop). Answers (Err s) (in_force (files 0))) is answers)

-- the control file is damaged
pub broken_found : (files : Files) (stop : ControlStop) (file place : ℕ) → stop ≡ stops.Damaged file place
    → Answers (Err stop) (in_force (files 0)) → found_in files ≡ Err (Damaged file place)
unfolding found_in
broken_found files stop file place is answers =
    let at = subst (λ (s : ControlStop). Answers (Err s) (in_force (files 0))) is answers in
    ap (λ (f : Force). found_by f files) at.1 ∙ ap (λ (n : ℕ). Err (Damaged n place)) (sym at.0)

module _ (files : Files) (choice : Choice) (force : in_force (files 0) ≡ Is choice) where
  -- the log is damaged
  pub log_damaged : (place : ℕ)
      → log_in choice.format choice.base choice.size choice.block (files choice.log) ≡ Err place
      → found_in files ≡ Err (Damaged choice.log place)
  unfolding found_in
  log_damaged place is = ap (λ (f : Force). found_by f files) force ∙ ap (found_log choice files) is

  module _ (held : List Logged)
      (log : log_in choice.format choice.base choice.size choice.block (files choice.log) ≡ Ok held) where
    read_on : found_in files
        ≡ found_last choice held (stash_in choice files) (last_of choice.base held) (files choice.image)
    unfolding found_in
    read_on = ap (λ (f : Force). found_by f files) force ∙ ap (found_log choice files) log

    -- the last entry's unit is past the end of the file
    pub far_found : count_of choice.format (files choice.image) < (last_of choice.base held).cell
        → found_in files ≡ Err (Damaged choice.log (last_place choice (last_of choice.base held)))
    unfolding found_last
    far_found far =
        let last = last_of choice.base held in
        let damaged : Result Found Refusal = Err (Damaged choice.log (last_place choice last)) in
        read_on
        ∙ cond-true (nat_lt (count_of choice.format (files choice.image)) last.cell) damaged (found_done choice held
        (stash_in choice files) last
        (sheet_in choice.format (skipping choice.format (unit_changed last) (files choice.image))))
        (lt-ltb _ _ far)

    module _ (within : (last_of choice.base held).cell ≤ count_of choice.format (files choice.image)) where
      cells_on : found_in files
          ≡ found_done choice held (stash_in choice files) (last_of choice.base held) (sheet_in choice.format
          (skipping choice.format (unit_changed (last_of choice.base held)) (files choice.image)))
      unfolding found_last
      cells_on =
          let last = last_of choice.base held in
          let damaged : Result Found Refusal = Err (Damaged choice.log (last_place choice last)) in
          read_on
          ∙ cond-false (nat_lt (count_of choice.format (files choice.image)) last.cell) damaged (found_done choice held
          (stash_in choice files) last
          (sheet_in choice.format (skipping choice.format (unit_changed last) (files choice.image))))
          (le-ltb _ _ within)

      -- the file of cells is damaged
      pub cells_damaged : (place : ℕ)
          → sheet_in choice.format
          (skipping choice.format (unit_changed (last_of choice.base held)) (files choice.image)) ≡ Err place
          → found_in files ≡ Err (Damaged choice.image place)
      cells_damaged place is =
          cells_on ∙ ap (found_done choice held (stash_in choice files) (last_of choice.base held)) is

      -- what the last entry leaves may not stand in its unit
      pub unplaced_found : (sheet : Sheet)
          → sheet_in choice.format
          (skipping choice.format (unit_changed (last_of choice.base held)) (files choice.image)) ≡ Ok sheet
          → is_placed (unit_changed (last_of choice.base held))
          (left_by (last_of choice.base held).entry.op) sheet.cells ≡ false
          → found_in files ≡ Err (Damaged choice.log (last_place choice (last_of choice.base held)))
      unplaced_found sheet is none =
          let last = last_of choice.base held in
          let done : Result Found Refusal = Ok
          (record {
            control = choice;
            held = held;
            sheet = record { realm = sheet.realm; cells = redone last sheet.cells };
            stash = stash_in choice files;
          }) in
          let damaged : Result Found Refusal = Err (Damaged choice.log (last_place choice last)) in
          cells_on ∙ ap (found_done choice held (stash_in choice files) last) is
          ∙ cond-false (is_placed (unit_changed last) (left_by last.entry.op) sheet.cells) done damaged none

-- the refusal that is answered
pub same_refusal : {A : Type 0} (r q : Refusal) → ◌≡◌ {A = Result A Stop} (Err (Refused r)) (Err (Refused q)) → r ≡ q
same_refusal r q is = cc

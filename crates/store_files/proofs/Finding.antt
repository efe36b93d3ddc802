-- What files are found to hold: where all stands, and where one change is under way.
use Rattle.std.proofs.Common.{◌≡◌, ◌≢◌, ℕ, zero, suc, ◌+◌, ◌-◌, ◌*◌, ◌<◌, ◌≤◌, inl, inr, ⊎_elim}
use Rattle.std.proofs.Common.{Bool, true, false, cond, List, [], ◌∷◌, ◌++◌, length, get_or, drop}
use Rattle.std.proofs.Common.{Option, Some, None, refl, sym, ap, subst, ◌∙◌, arith, length-append}
use Rattle.std.specs.Prelude.{Result, Ok, Err, nat_lt, nat_eq}
use Rattle.std.proofs.lemmas.Bool.{cases_eq, cases_lt, cond-true, cond-false, le-ltb, eq-eqb, ne_eqb}
use Rattle.std.proofs.lemmas.List.{get_or-drop, get_or-append-add, length-drop}
use Rattle.kdb_base.specs.declared.outcomes.Refusal.{Refusal}
use Rattle.kdb_base.specs.declared.outcomes.Refusal.TheVariants.{Damaged}
use Rattle.kdb_base.specs.declared.moments.Point.{Point}
use Rattle.kdb_disk.specs.Files.{Files}
use Rattle.kdb_control.specs.Choice.{Choice}
use Rattle.kdb_control.specs.Force.{in_force}
use Rattle.kdb_control.specs.declared.force.Force.{Force}
use Rattle.kdb_control.specs.declared.force.Force.TheVariants.{Is}
use Rattle.princ_rows.specs.declared.entries.Logged.{Logged}
use Rattle.update_log.specs.Logs.{newest}
use Rattle.update_log.specs.Runs.{log_in}
use Rattle.kdb_cells.specs.Cells.{Cell}
use Rattle.kdb_cells.specs.Sheets.{Sheet, count_of, put_cell, set_cell, sheet_in}
use Rattle.kdb_cells.specs.Changes.{cell_no}
use Rattle.kdb_cells.specs.FileCells.{MayStand}
use Rattle.kdb_cells.specs.Scanning.{skipping}
use Rattle.kdb_cells.proofs.Sheeting.{IsSheet, read_sheet, put_sheet}
use Rattle.store_files.specs.Found.{Found, unit_numbered, unit_changed, left_by, with_unit, redone, is_placed, last_of}
use Rattle.store_files.specs.Found.{last_place, stash_in, found_done, found_last, found_log, found_by, found_in}
use Rattle.store_files.specs.Standing.{last_in, HasCell, HasFiles, Would, StandsOnDisk}
use Rattle.store_files.specs.Standing.{MayChange, after, Pending, IsDone}
use Rattle.store_files.proofs.Units.{may_be_placed, unit_again, done_placed, done_again, numbered_none, numbered_some}

-- ---- the last entry

-- the newest of the entries is the one that was added
pub last_newest : (base : Point) (size : ℕ) (held : List Logged) (l : Logged) → 0 < size
    → last_of base (newest size (held ++ l ∷ [])) ≡ l
last_newest base size held l some =
    let d : Logged = record { entry = record { point = base; op = None }; cell = 0 } in
    let all = held ++ l ∷ [] in
    let n = length all - size in
    let long : length all ≡ length held + 1 = length-append held (l ∷ []) in
    let kept : length (newest size all) ≡ length all - n = length-drop n all in
    let at : n + (length (newest size all) - 1) ≡ length held + 0 = omega (arith, long, kept, some) in
    get_or-drop n all (length (newest size all) - 1) d ∙ ap (λ (i : ℕ). get_or all i d) at
    ∙ get_or-append-add held (l ∷ []) 0 d

-- What is known of files whose last entry's unit is passed over.
pub record IsRedone (choice : Choice) (held : List Logged) (last : Logged) (sheet : Sheet) (stash : Option (List ℕ))
    (files : Files) : Type 0 where
  pub force : in_force (files 0) ≡ Is choice
  pub log : log_in choice.format choice.base choice.size choice.block (files choice.log) ≡ Ok held
  pub last_is : last_of choice.base held ≡ last
  pub within : last.cell ≤ count_of choice.format (files choice.image)
  pub sheet_is : sheet_in choice.format (skipping choice.format (unit_changed last) (files choice.image)) ≡ Ok sheet
  pub placed : is_placed (unit_changed last) (left_by last.entry.op) sheet.cells ≡ true
  pub stash_is : stash_in choice files ≡ stash

pub found_redone : (choice : Choice) (held : List Logged) (last : Logged) (sheet : Sheet) (stash : Option (List ℕ))
    (files : Files)
    → IsRedone choice held last sheet stash files
    → found_in files ≡ Ok (record {
      control = choice;
      held = held;
      sheet = record { realm = sheet.realm; cells = redone last sheet.cells };
      stash = stash;
    })
unfolding found_in found_last
found_redone choice held last sheet stash files is =
    let file = files choice.image in
    let done : Result Found Refusal = Ok (record {
      control = choice;
      held = held;
      sheet = record { realm = sheet.realm; cells = redone last sheet.cells };
      stash = stash;
    }) in
    let damaged : Result Found Refusal = Err (Damaged choice.log (last_place choice last)) in
    ap (λ (f : Force). found_by f files) is.force
    ∙ ap (found_log choice files) is.log
    ∙ ap (λ (l : Logged). found_last choice held (stash_in choice files) l file) is.last_is
    ∙ ap (λ (s : Option (List ℕ)). found_last choice held s last file) is.stash_is
    ∙ cond-false (nat_lt (count_of choice.format file) last.cell) damaged (found_done choice held stash last
    (sheet_in choice.format (skipping choice.format (unit_changed last) file))) (le-ltb _ _ is.within)
    ∙ ap (found_done choice held stash last) is.sheet_is
    ∙ cond-true (is_placed (unit_changed last) (left_by last.entry.op) sheet.cells) done damaged is.placed

same_found : (choice : Choice) (held : List Logged) (realm : List ℕ) (a b : List Cell) (stash : Option (List ℕ)) → a ≡ b
    → ◌≡◌ {A = Result Found Refusal} (Ok (record {
      control = choice;
      held = held;
      sheet = record { realm = realm; cells = a };
      stash = stash;
    })) (Ok (record { control = choice; held = held; sheet = record { realm = realm; cells = b }; stash = stash }))
same_found choice held realm a b stash is = ap (λ (l : List Cell).
    Ok (record { control = choice; held = held; sheet = record { realm = realm; cells = l }; stash = stash })) is

-- ---- a change that is under way

-- what its entry leaves is found, whatever its unit holds
pub pending_found : (l : Logged) (o : Found) (files : Files) → 0 < o.control.size
    → MayChange o.control.format (unit_changed l) (left_by l.entry.op) o.sheet.cells → Pending l o files
    → found_in files ≡ Ok (after l o)
pending_found l o files some may is =
    let unit = unit_changed l in
    let left = left_by l.entry.op in
    let held = newest o.control.size (o.held ++ l ∷ []) in
    let free : Sheet = record { realm = o.sheet.realm; cells = with_unit unit None o.sheet.cells } in
    found_redone o.control held l free o.stash files (record {
      force = is.force;
      log = is.log;
      last_is = last_newest o.control.base o.control.size o.held l some;
      within = is.within;
      sheet_is = is.sheet;
      placed = may_be_placed o.control.format unit left o.sheet.cells may;
      stash_is = is.stash;
    })
    ∙ same_found o.control held o.sheet.realm (redone l free.cells) (redone l o.sheet.cells) o.stash
    (unit_again o.control.format unit left o.sheet.cells may)

-- ---- where all stands

-- a unit that stands may be passed over
may_free : (format i : ℕ) (c : Cell) (sheet : Sheet) (file : List ℕ) → sheet_in format file ≡ Ok sheet → 1 ≤ i
    → i ≤ length sheet.cells
    → MayStand format i None sheet.cells
may_free format i c sheet file read from within =
    let few = (read_sheet format file sheet read).few in
    record { from = from; within = within; fits = tt; near = refl; alone = λ j other. refl; few = omega (arith, few) }

pub passed_over : (format : ℕ) (unit : Option ℕ) (sheet : Sheet) (file : List ℕ) → sheet_in format file ≡ Ok sheet
    → ((i : ℕ) → unit ≡ Some i → (1 ≤ i) × (i ≤ length sheet.cells))
    → sheet_in format (skipping format unit file)
    ≡ Ok (record { realm = sheet.realm; cells = with_unit unit None sheet.cells })
passed_over format None sheet file read within = read
passed_over format (Some i) sheet file read within =
    put_sheet format i None file sheet read (may_free format i None sheet file read (within i refl).0 (within i refl).1)

-- what the number of a unit says
pub numbered : (cell i : ℕ) → unit_numbered cell ≡ Some i → (cell ≡ i) × (1 ≤ i)
numbered cell i is = ⊎_elim
    (λ none. let nothing : None ≡ Some i = sym (numbered_none cell none) ∙ is in absurd cc)
    (λ some. let same : Some cell ≡ Some i = sym (numbered_some cell some) ∙ is in let eq : cell ≡ i =
    cc in (eq, omega (arith, some, eq)))
    (cases_eq cell 0)

done_within : (unit : Option ℕ) (c : Cell) (cells : List Cell) → HasCell unit c cells → (i : ℕ) → unit ≡ Some i
    → i < length cells
done_within None c cells has i is = absurd cc
done_within (Some k) c cells has i is = let same : k ≡ i = cc in subst (λ (j : ℕ). j < length cells) same has.0

cell_within : (cell n : ℕ) → ((i : ℕ) → unit_numbered cell ≡ Some i → i < n) → cell ≤ n
cell_within cell n lt = ⊎_elim
    (λ none. omega (arith, none))
    (λ some. let here = lt cell (numbered_some cell some) in omega (arith, here))
    (cases_eq cell 0)

-- the last entry is done again, and nothing changes
pub stands_found : (o : Found) (files : Files) → IsDone o → StandsOnDisk o files → found_in files ≡ Ok o
stands_found o files done stands =
    let choice = o.control in
    let last = last_in o in
    let unit = unit_changed last in
    let left = left_by last.entry.op in
    let would = stands.would in
    let is = read_sheet choice.format (files choice.image) o.sheet would.sheet in
    let lt = done_within unit left o.sheet.cells done in
    let free : Sheet = record { realm = o.sheet.realm; cells = with_unit unit None o.sheet.cells } in
    let most = cell_within last.cell (length o.sheet.cells) lt in
    found_redone choice o.held last free o.stash files (record {
      force = stands.force;
      log = would.log;
      last_is = refl;
      within = omega (arith, most, is.long);
      sheet_is = passed_over choice.format unit o.sheet (files choice.image) would.sheet
          (λ i at. ((numbered last.cell i at).1, least i at));
      placed = done_placed unit left o.sheet.cells done is.once is.few;
      stash_is = would.stash;
    })
    ∙ same_found choice o.held o.sheet.realm (redone last free.cells) o.sheet.cells o.stash
    (done_again unit left o.sheet.cells done)
  where
    least : (i : ℕ) → unit_changed (last_in o) ≡ Some i → i ≤ length o.sheet.cells
    least i at = let lt =
        done_within (unit_changed (last_in o)) (left_by (last_in o).entry.op) o.sheet.cells done i at in
        omega (arith, lt)

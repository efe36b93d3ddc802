-- What the last entry leaves, and what is planned for it.
use Rattle.std.proofs.Common.{◌≡◌, ℕ, ◌+◌, ◌-◌, ◌<◌, ◌≤◌, ⊎_elim, Bool, true, false, not, ◌||◌}
use Rattle.std.proofs.Common.{List, length, Option, Some, None, refl, sym, ap, subst, ◌∙◌, arith}
use Rattle.std.specs.Prelude.{nat_eq}
use Rattle.std.specs.List.{AllByRecursion}
use Rattle.std.specs.Str.{bytes_eq}
use Rattle.std.proofs.lemmas.Bool.{cases_eq, eq-eqb, le-ltb, true≢false}
use Rattle.std.proofs.lemmas.List.Elements.{All-get_or}
use Rattle.kdb_base.specs.Limits.{most_rows}
use Rattle.kdb_control.specs.Choice.{Choice}
use Rattle.policy_rules.specs.Rules.{Rules}
use Rattle.princ_record.specs.RowLimits.{IsRow, is_row_1}
use Rattle.princ_record.specs.RowLaws.{row_1_from}
use Rattle.princ_record.specs.declared.princs.Princ.{Princ as Principal}
use Rattle.princ_rows.specs.Rows.{RowLists, princ_keys, policy_keys}
use Rattle.princ_rows.specs.Entries.{IsOp}
use Rattle.princ_rows.specs.declared.entries.Logged.{Logged}
use Rattle.princ_rows.specs.declared.entries.Op.{Op}
use Rattle.princ_rows.specs.declared.entries.Op.TheVariants.{PutPrinc, DropPrinc, Rename, PutPolicy, DropPolicy}
use Rattle.update_log.specs.Logs.{Journal, marker_of}
use Rattle.update_log.specs.Runs.{stands_in, stands_in_1}
use Rattle.update_log.specs.Slots.{IsSpelled}
use Rattle.kdb_cells.specs.declared.units.StoredRow.{StoredRow}
use Rattle.kdb_cells.specs.declared.units.StoredRow.TheVariants.{Princ, Policy}
use Rattle.kdb_cells.specs.declared.files.Scanned.{Scanned}
use Rattle.kdb_cells.specs.Cells.{Cell, IsCell, IsRowOf, name_of}
use Rattle.kdb_cells.specs.CellFiles.{CellFile, units, count}
use Rattle.kdb_cells.specs.Changes.{rows_of, cell_no}
use Rattle.kdb_cells.specs.Scanning.{IsGathered, princs_of, policies_of}
use Rattle.kdb_cells.specs.Sheets.{clash, taken, taken_by, last_unit, is_too_far}
use Rattle.kdb_cells.proofs.Apart.{princ_alone, policy_alone, taken_rows}
use Rattle.store_files.specs.Found.{unit_numbered, unit_changed, left_by, with_unit, redone, is_placed}
use Rattle.store_files.specs.Standing.{MayChange}
use Rattle.store_files.proofs.Units.{clash_turned, numbered_none, numbered_some}
use Rattle.store_opening.specs.declared.looking.Again.{Again}
use Rattle.store_opening.specs.declared.unit_writes.UnitWrite.{UnitWrite}
use Rattle.store_opening.specs.declared.unit_writes.UnitWrite.TheVariants.{Nothing, Put, Free}
use Rattle.store_opening.specs.Looking.{last_read, IsHeaded, IsFitting, IsLeft, IsAgain}
use Rattle.store_opening.specs.Redoing.{AreUnits, IsHeld, MayJoin, MayHold}
use Rattle.store_opening.specs.Writes.{number_of, IsGivenTo, MayWrite}
use Rattle.store_opening.proofs.Placing.{no_clash_at, held_from}

-- ---- what an entry leaves

row_in : (format : ℕ) (p : Principal) → IsRow p → (format ≡ 1 → is_row_1 p ≡ true) → IsRowOf format p
row_in format p row one = record { row = row; first = λ e. row_1_from p row.fits (one e) }

in_first : (format : ℕ) (b : Bool) → (not (nat_eq format 1) || b) ≡ true → format ≡ 1 → b ≡ true
in_first format b is e = sym (ap (λ (x : Bool). not x || b) (eq-eqb format 1 e)) ∙ is

-- a change that stands in a log of this format leaves a cell that may stand in its files
pub left_fits : (format : ℕ) (o : Option Op) → IsOp o → (not (nat_eq format 1) || stands_in_1 o) ≡ true
    → IsCell format (left_by o)
unfolding stands_in_1
left_fits format None fits is = tt
left_fits format (Some (PutPrinc p)) fits is = row_in format p fits (in_first format (is_row_1 p) is)
left_fits format (Some (DropPrinc name)) fits is = tt
left_fits format (Some (Rename old p)) fits is = row_in format p fits.1 (in_first format (is_row_1 p) is)
left_fits format (Some (PutPolicy p)) fits is = fits
left_fits format (Some (DropPolicy name)) fits is = tt

-- ---- the last entry

module _ (choice : Choice) (log : Journal) (is : IsHeaded choice log) where
  last_lt : length log.held - 1 < length log.held
  last_lt = let some = is.journal.some in omega (arith, some)

  last_spelled : IsSpelled log.block (last_read choice log)
  last_spelled =
      All-get_or (IsSpelled log.block) log.held (length log.held - 1) (marker_of choice.base) last_lt is.journal.spelled

  last_stands : stands_in choice.format (last_read choice log) ≡ true
  last_stands = All-get_or (λ (l : Logged). stands_in choice.format l ≡ true) log.held (length log.held - 1)
      (marker_of choice.base) last_lt is.stands

  pub last_op : IsOp (last_read choice log).entry.op
  last_op = last_spelled.fits.op

  pub last_fits : IsCell choice.format (left_by (last_read choice log).entry.op)
  last_fits = left_fits choice.format (last_read choice log).entry.op last_op last_stands

  pub last_near : (last_read choice log).cell ≤ last_unit
  last_near = let lt = last_spelled.fits.cell in omega (arith, lt)

  pub last_serial : choice.base.sno ≤ (last_read choice log).entry.point.sno
  last_serial =
      let from = is.journal.from_base in
      let base : log.base.sno ≡ choice.base.sno = ap (λ (j : Journal). j.base.sno) is.log_is in
      omega (arith, from, base, is.journal.run.serials (length log.held - 1) (marker_of choice.base) last_lt)

-- ---- where it may stand

-- nothing is left where there is no unit
pub none_left : (left : Cell) (cells : List Cell) → is_placed None left cells ≡ true → left ≡ None
none_left None cells placed = refl
none_left (Some r) cells placed = absurd (true≢false (sym placed))

pub none_numbered : (cell other : ℕ) (o p : Option Op) (cells : List Cell) → cell ≡ other → o ≡ p
    → is_placed (unit_numbered other) (left_by p) cells ≡ true → cell ≡ 0 → left_by o ≡ None
none_numbered cell other o p cells same entry placed none =
    ap left_by entry
    ∙ none_left (left_by p) cells
    (sym (ap (λ (u : Option ℕ). is_placed u (left_by p) cells) (numbered_none other (sym same ∙ none))) ∙ placed)

module _ (format : ℕ) (c : CellFile) (princs : List Principal) (policies : List Rules) (cells : List Cell)
    (is : IsGathered format (units c) (count c) princs policies cells) where
  pub gathered_units : AreUnits format c cells
  gathered_units = record { leads = is.cells_are; many = is.count_is; stored = is.stored }

  -- no cell has the key of the row
  alone_at : (unit : Option ℕ) (r : StoredRow) → IsHeld unit (name_of r) (units c) (count c) → (j : ℕ)
      → clash (Some r) (cell_no j cells) ≡ false
  alone_at unit r held j = no_clash_at (units c) cells r is.cells_are held.new j (cell_no j cells) refl

  room_for : (unit : Option ℕ) (r : StoredRow) → IsHeld unit (name_of r) (units c) (count c)
      → length princs + length policies < most_rows
  room_for unit r held =
      let few = held.few in
      omega (
        arith,
        few,
        is.count_is,
        taken_rows cells,
        ap (λ (l : List Principal). length l) is.princs_are,
        ap (λ (l : List Rules). length l) is.policies_are,
      )

  -- the row may join those that were read
  pub left_joins : (unit : Option ℕ) (left : Cell) → IsCell format left → is_placed unit left cells ≡ true
      → MayJoin left princs policies
  left_joins unit None fits placed = tt
  left_joins unit (Some (Princ p)) fits placed =
      let held = held_from format c cells unit (Princ p) gathered_units fits placed in (
        fits.row,
        subst (λ (l : List Principal). AllByRecursion (λ k. bytes_eq p.name k ≡ false) (princ_keys l))
            (sym is.princs_are)
            (princ_alone p cells
            (λ j. clash_turned (Some (Princ p)) (cell_no j cells) (alone_at unit (Princ p) held j))),
        room_for unit (Princ p) held,
      )
  left_joins unit (Some (Policy p)) fits placed =
      let held = held_from format c cells unit (Policy p) gathered_units fits placed in (
        fits,
        subst (λ (l : List Rules). AllByRecursion (λ k. bytes_eq p.name k ≡ false) (policy_keys l))
            (sym is.policies_are)
            (policy_alone p cells
            (λ j. clash_turned (Some (Policy p)) (cell_no j cells) (alone_at unit (Policy p) held j))),
        room_for unit (Policy p) held,
      )

  -- the unit is free
  pub left_holds : (unit : Option ℕ) (left : Cell) → (units c).placed ≡ unit → is_placed unit left cells ≡ true
      → MayHold unit left cells
  left_holds None left given placed = none_left left cells placed
  left_holds (Some i) left given placed = (is.given i given).1

  near_left : (i : ℕ) (left : Cell) → i ≤ last_unit → is_too_far i left ≡ false
  near_left i None le = refl
  near_left i (Some r) le = le-ltb _ _ le

  alone_left : (i : ℕ) (left : Cell) → IsCell format left → is_placed (Some i) left cells ≡ true → (j : ℕ)
      → clash left (cell_no j cells) ≡ false
  alone_left i None fits placed j = refl
  alone_left i (Some r) fits placed j =
      alone_at (Some i) r (held_from format c cells (Some i) r gathered_units fits placed) j

  few_left : (i : ℕ) (left : Cell) → IsCell format left → is_placed (Some i) left cells ≡ true
      → taken cells + taken_by left ≤ most_rows
  few_left i None fits placed = let few = is.few in omega (arith, few, is.count_is)
  few_left i (Some r) fits placed =
      let few = (held_from format c cells (Some i) r gathered_units fits placed).few in
      omega (arith, few, is.count_is)

  -- what is left may stand in the unit of this number
  pub left_stands : (cell : ℕ) (left : Cell) → (units c).placed ≡ unit_numbered cell
      → IsCell format left → cell ≤ last_unit → is_placed (unit_numbered cell) left cells ≡ true
      → MayChange format (unit_numbered cell) left cells
  left_stands cell left given fits near placed = ⊎_elim
      (λ none.
      let no_unit = numbered_none cell none in
      subst (λ (o : Option ℕ). MayChange format o left cells) (sym no_unit)
      (none_left left cells (sym (ap (λ (o : Option ℕ). is_placed o left cells) no_unit) ∙ placed)))
      (λ some.
      let unit = numbered_some cell some in
      let there = sym (ap (λ (o : Option ℕ). is_placed o left cells) unit) ∙ placed in
      let within = (is.given cell (given ∙ unit)).0 in
      let few = few_left cell left fits there in
      subst (λ (o : Option ℕ). MayChange format o left cells) (sym unit) (record {
        from = omega (arith, some);
        within = omega (arith, within);
        fits = fits;
        near = near_left cell left near;
        alone = λ j other. alone_left cell left fits there j;
        few = omega (arith, few);
      }))
      (cases_eq cell 0)

  -- ---- what is written

  given_number : (cell k : ℕ) → k ≡ cell → 1 ≤ k → (units c).placed ≡ unit_numbered cell
      → (1 ≤ k) × ((units c).placed ≡ Some k)
  given_number cell k same low given =
      (low, given ∙ numbered_some cell (λ e. absurd (omega (arith, low, same, e))) ∙ ap Some (sym same))

  pub left_given : (cell : ℕ) (left : Cell) (w : UnitWrite) → IsLeft format cell left w
      → (units c).placed ≡ unit_numbered cell → IsGivenTo w c
  left_given cell left Nothing of_entry given = tt
  left_given cell left (Put k key row kind) of_entry given = ⊎_elim
      (λ none. let wrong : Put k key row kind ≡ Nothing = of_entry.nothing none in absurd cc)
      (λ some. given_number cell k of_entry.number_is (omega (arith, some, of_entry.number_is)) given)
      (cases_eq cell 0)
  left_given cell left (Free k) of_entry given = ⊎_elim
      (λ none. let wrong : Free k ≡ Nothing = of_entry.nothing none in absurd cc)
      (λ some. given_number cell k of_entry.number_is (omega (arith, some, of_entry.number_is)) given)
      (cases_eq cell 0)

  pub left_may : (unit : Option ℕ) (cell : ℕ) (left : Cell) (w : UnitWrite) → IsLeft format cell left w
      → IsCell format left → is_placed unit left cells ≡ true → MayWrite w c
  left_may unit cell left Nothing of_entry fits placed = tt
  left_may unit cell left (Put k key row kind) of_entry fits placed =
      let r = of_entry.writes.0 in
      let is_row = of_entry.writes.1.0 in
      let text = of_entry.writes.1.1 in
      let held = held_from format c cells unit r gathered_units text.stored
      (sym (ap (λ (l : Cell). is_placed unit l cells) is_row) ∙ placed) in
      record {
        alone =
            λ i leads. let both : None ≡ Some i = sym held.new ∙ ap (units c).of (sym text.named) ∙ leads in absurd cc;
        few = λ free. held.few;
      }
  left_may unit cell left (Free k) of_entry fits placed = tt

  pub left_within : (cell : ℕ) (left : Cell) (w : UnitWrite) → IsLeft format cell left w
      → (units c).placed ≡ unit_numbered cell → number_of w ≤ length cells
  left_within cell left w of_entry given = ⊎_elim
      (λ none. omega (arith, none, of_entry.number_is))
      (λ some. let within =
      (is.given cell (given ∙ numbered_some cell some)).0 in omega (arith, within, of_entry.number_is))
      (cases_eq cell 0)

-- ---- all that is planned

abbrev pub again_of : Choice → Journal → Scanned → RowLists → Option (List ℕ) → UnitWrite → Again
again_of choice log s rows stash w = record {
  parts = record { control = choice; log = log; cells = s.cells; rows = rows; realm = s.realm; stash = stash };
  write = w;
}

pub again_made : (choice : Choice) (log : Journal) (s : Scanned) (cells : List Cell) (rows : RowLists)
    (stash : Option (List ℕ)) (w : UnitWrite) → IsHeaded choice log → IsFitting choice (last_read choice log) s cells
    → IsLeft choice.format (last_read choice log).cell (left_by (last_read choice log).entry.op) w
    → rows ≡ rows_of (redone (last_read choice log) cells) → IsAgain (again_of choice log s rows stash w) cells
again_made choice log s cells rows stash w headed fitting left same =
    let last = last_read choice log in
    let leaves = left_by last.entry.op in
    let gathered = fitting.gathered in
    let fits = last_fits choice log headed in
    let ps = s.princs.items in
    let qs = s.policies.items in
    let format = choice.format in
    record {
      chosen = record {
        log = ap (λ (j : Journal). j.file) headed.log_is;
        base = ap (λ (j : Journal). j.base) headed.log_is;
        size = ap (λ (j : Journal). j.size) headed.log_is;
        block = ap (λ (j : Journal). j.block) headed.log_is;
        image = fitting.file_is;
        format = fitting.format_is;
      };
      files = headed.files;
      holds = record { leads = gathered.cells_are; many = gathered.count_is };
      rows_is = sym same;
      left = left;
      within = left_within format s.cells ps qs cells gathered last.cell leaves w left fitting.given;
      given = left_given format s.cells ps qs cells gathered last.cell leaves w left fitting.given;
      may =
          left_may format s.cells ps qs cells gathered (unit_changed last) last.cell leaves w left fits fitting.placed;
      stands = left_stands format s.cells ps qs cells gathered last.cell leaves fitting.given fits
          (last_near choice log headed) fitting.placed;
    }

-- the same, of what was written for this entry and this number
pub again_planned : (choice : Choice) (log : Journal) (s : Scanned) (cells : List Cell) (rows : RowLists)
    (stash : Option (List ℕ)) (w : UnitWrite) (o p : Option Op) (cell : ℕ) → IsHeaded choice log
    → IsFitting choice (last_read choice log) s cells
    → o ≡ (last_read choice log).entry.op → p ≡ (last_read choice log).entry.op → cell ≡ (last_read choice log).cell
    → ((format : ℕ) → IsCell format (left_by o) → IsLeft format cell (left_by o) w)
    → ((unit : Option ℕ) (all : List Cell) → MayHold unit (left_by p) all → s.princs.items ≡ princs_of all
    → s.policies.items ≡ policies_of all → rows ≡ rows_of (with_unit unit (left_by p) all))
    → IsAgain (again_of choice log s rows stash w) cells
again_planned choice log s cells rows stash w o p cell headed fitting first second number written sorted =
    let last = last_read choice log in
    let gathered = fitting.gathered in
    let fits = last_fits choice log headed in
    let left_o = written choice.format (subst (λ (q : Option Op). IsCell choice.format (left_by q)) (sym first) fits) in
    let left = subst (λ (q : Option Op). IsLeft choice.format last.cell (left_by q) w) first
    (subst (λ (n : ℕ). IsLeft choice.format n (left_by o) w) number left_o) in
    let holds = left_holds choice.format s.cells s.princs.items s.policies.items cells gathered (unit_changed last)
    (left_by last.entry.op) fitting.given fitting.placed in
    let all = sorted (unit_changed last) cells (subst (λ (q : Option Op). MayHold (unit_changed last) (left_by q) cells)
    (sym second) holds) gathered.princs_are gathered.policies_are in
    again_made choice log s cells rows stash w headed fitting left
    (all ∙ ap (λ (q : Option Op). rows_of (with_unit (unit_changed last) (left_by q) cells)) second)

-- What a change leaves of what is kept and of what stands on the disk.
use Rattle.std.proofs.Common.{◌≡◌, ℕ, ◌*◌, ◌≤◌, inl, ⊎_elim, List, [], ◌∷◌, ◌++◌, length}
use Rattle.std.proofs.Common.{map, Option, Some, refl, sym, ap, subst, ◌∙◌, arith}
use Rattle.std.specs.Prelude.{Result, Ok, Err, OnOk, OnErr}
use Rattle.std.proofs.lemmas.Bool.{cases_eq}
use Rattle.kdb_base.specs.declared.moments.Point.{Point}
use Rattle.kdb_disk.specs.Files.{Files}
use Rattle.kdb_disk.specs.View.{View}
use Rattle.kdb_disk.specs.Moments.{LeavesOnly}
use Rattle.kdb_disk.proofs.Runs.{started, weaken}
use Rattle.princ_rows.specs.Entries.{IsOp, key_of}
use Rattle.princ_rows.specs.declared.entries.Entry.{Entry}
use Rattle.princ_rows.specs.declared.entries.Logged.{Logged}
use Rattle.princ_rows.specs.declared.entries.Op.{Op}
use Rattle.princ_rows.specs.Rows.{RowLists, AreRows}
use Rattle.princ_rows.specs.Effects.{effect, IsRoom}
use Rattle.princ_rows.specs.Undoing.{IsNewName, finished, undone}
use Rattle.update_log.specs.Logs.{Journal, newest, entry_of, with_prepared, log_committed}
use Rattle.update_log.specs.Moments.{HasLog, IsDurable}
use Rattle.kdb_cells.specs.Cells.{Cell, name_of, unit_size}
use Rattle.kdb_cells.specs.CellFiles.{CellFile, units}
use Rattle.kdb_cells.specs.Changes.{rows_of, cell_after}
use Rattle.kdb_cells.specs.FileCells.{AreCellsOf, IsFileOf}
use Rattle.kdb_cells.specs.Leads.{Units}
use Rattle.kdb_cells.specs.Sheets.{Sheet, sheet_in}
use Rattle.kdb_cells.proofs.Sheeting.{read_sheet}
use Rattle.kdb_cells.proofs.UnitPuts.{place_within}
use Rattle.kdb_places.specs.Places.{Place, change, next_point, last_entries, committed}
use Rattle.store_files.specs.Found.{unit_numbered, left_by, with_unit, redone, place_of}
use Rattle.store_files.specs.Kept.{Kept, AreIndexed, IsOnDisk, found_with, sheet_with, place_kept, with_parts}
use Rattle.store_files.specs.Recovery.{LeavesPart}
use Rattle.store_files.specs.Standing.{IsGivenFor, MayChange, Holds, IsUnderWay, after}
use Rattle.store_files.proofs.Committing.{under_way_found}
use Rattle.store_files.proofs.Placed.{held_after, place_after, place_is, kept_recovers, either_place}
use Rattle.kdb_store.specs.Parts.{LeadsAlike, MayCommit, StandsOn}
use Rattle.kdb_store.specs.Writes.{number_of, IsGivenTo, MayWrite, HoldsCells, IsPlan}
use Rattle.store_opening.specs.declared.unit_writes.UnitWrite.{UnitWrite}
use Rattle.princ_rows.specs.declared.begun.Begun.{Begun}
use Rattle.kdb_store.proofs.Planned.{MakesRows, plan_makes, plan_may}

-- ---- a unit is given

alike_cells : {old new : CellFile} (cells : List Cell) → LeadsAlike old new → AreCellsOf (units old) cells
    → AreCellsOf (units new) cells
alike_cells {old} {new} cells same are = record {
  leads = λ key i is. are.leads key i (ap (λ (f : List ℕ → Option ℕ). f key) (sym same.of_is) ∙ is);
  found = λ i r is. ap (λ (f : List ℕ → Option ℕ). f (name_of r)) same.of_is ∙ are.found i r is;
  next = same.next_is ∙ are.next;
}

pub alike_tie : {old new : CellFile} (sheet : Sheet) (file : List ℕ) → LeadsAlike old new → IsFileOf old sheet file
    → IsFileOf new sheet file
alike_tie {old} {new} sheet file same tie = record {
  read = ap (λ (f : ℕ). sheet_in f file) same.format_is ∙ tie.read;
  cells = alike_cells sheet.cells same tie.cells;
  count = same.many ∙ tie.count;
}

given_alike : (key : List ℕ) (i : ℕ) {old new : CellFile} → LeadsAlike old new → IsGivenFor key i (units old)
    → IsGivenFor key i (units new)
given_alike key i {old} {new} same given = record {
  from = given.from;
  within = subst (λ (n : ℕ). i ≤ n) (sym same.next_is) given.within;
  own = λ j is. given.own j (ap (λ (f : List ℕ → Option ℕ). f key) (sym same.of_is) ∙ is);
  new = λ none.
      let least = given.new (ap (λ (f : List ℕ → Option ℕ). f key) (sym same.of_is) ∙ none) in
      record {
        first = least.first;
        free = λ k leads. least.free k (ap (λ (f : List ℕ → Option ℕ). f k) (sym same.of_is) ∙ leads);
        least = λ j from before free.
            least.least j from before (λ k leads. free k (ap (λ (f : List ℕ → Option ℕ). f k) same.of_is ∙ leads));
      };
}

plan_alike : (w : UnitWrite) (op : Op) (rows : RowLists) {old new : CellFile} → LeadsAlike old new
    → IsPlan w op (units old) rows
    → IsPlan w op (units new) rows
plan_alike w op rows same plan = record {
  writes = plan.writes;
  given = λ some. given_alike (key_of (Some op)) (number_of w) same (plan.given some);
  none = plan.none;
  only = plan.only;
  near = plan.near;
}

pub index_may : {old new : CellFile} (w : UnitWrite) (op : Op) (rows : RowLists) → LeadsAlike old new
    → AreIndexed old rows → AreRows rows
    → IsPlan w op (units old) rows → IsOp (Some op) → IsNewName op rows → IsRoom (effect (Some op) rows)
    → IsGivenTo w new → MayWrite w new
index_may {old} {new} w op rows same indexed sound plan fits new_ room given =
    plan_may w new op indexed.cells rows (plan_alike w op rows same plan) (record {
      are = alike_cells indexed.cells same indexed.leads;
      rows_is = indexed.rows_is;
      sound = sound;
    }) (same.many ∙ indexed.many) fits new_ room given

plan_most : (w : UnitWrite) (op : Op) (u : Units) (rows : RowLists) → IsPlan w op u rows → number_of w ≤ u.next
plan_most w op u rows plan = ⊎_elim
    (λ none. omega (arith, none))
    (λ some. (plan.given some).within)
    (cases_eq (number_of w) 0)

pub plan_within : {old new : CellFile} (w : UnitWrite) (op : Op) (rows : RowLists) (sheet : Sheet) (seen : Files)
    → LeadsAlike old new
    → IsPlan w op (units old) rows → IsFileOf old sheet (seen old.file)
    → number_of w * unit_size new.format ≤ length (seen new.file)
plan_within {old} {new} w op rows sheet seen same plan tie =
    let file = seen old.file in
    let is = read_sheet old.format file sheet tie.read in
    let most = plan_most w op (units old) rows plan in
    let here : number_of w * unit_size old.format ≤ length file =
    place_within old.format (number_of w) file (omega (arith, most, tie.cells.next, is.long)) in
    subst (λ (g : ℕ). number_of w * unit_size new.format ≤ length (seen g)) (sym same.file_is)
    (subst (λ (f : ℕ). number_of w * unit_size f ≤ length file) (sym same.format_is) here)

-- ---- in memory

pub indexed_after : {E : Type 0} (r : Result Unit E) (old mid new : CellFile) (rows begun_rows later : RowLists)
    (begun : Begun) (w : UnitWrite) (op : Op) (e : Option Op)
    → LeadsAlike old mid → AreIndexed old rows → AreRows rows → IsPlan w op (units old) rows
    → IsOp (Some op) → IsNewName op rows → IsRoom (effect (Some op) rows) → e ≡ Some op
    → finished begun begun_rows ≡ effect (Some op) rows
    → undone begun begun_rows ≡ rows → OnOk r (later ≡ finished begun begun_rows)
    → OnErr r (later ≡ undone begun begun_rows)
    → ((held : List Cell) → HoldsCells mid held → number_of w ≤ length held
    → OnOk r (HoldsCells new (with_unit (unit_numbered (number_of w)) (left_by e) held)))
    → OnErr r (new ≡ mid) → AreIndexed new later
indexed_after (Ok x) old mid new rows begun_rows later begun w op e same indexed sound plan fits new_ room is done back
    ok err leads kept =
    let makes = plan_makes w op (units old) indexed.cells rows plan
    (record { are = indexed.leads; rows_is = indexed.rows_is; sound = sound }) fits new_ room in
    let holds = leads indexed.cells
    (record { leads = alike_cells indexed.cells same indexed.leads; many = same.many ∙ indexed.many }) makes.within in
    record {
      cells = with_unit (unit_numbered (number_of w)) (left_by e) indexed.cells;
      leads = holds.leads;
      many = holds.many;
      rows_is = ap (λ (o : Option Op). rows_of (with_unit (unit_numbered (number_of w)) (left_by o) indexed.cells)) is
          ∙ makes.rows_are ∙ sym done ∙ sym ok;
    }
indexed_after (Err x) old mid new rows begun_rows later begun w op e same indexed sound plan fits new_ room is done back
    ok err leads kept =
    subst (λ (c : CellFile). AreIndexed c later) (sym kept) (record {
      cells = indexed.cells;
      leads = alike_cells indexed.cells same indexed.leads;
      many = same.many ∙ indexed.many;
      rows_is = indexed.rows_is ∙ sym back ∙ sym err;
    })

committed_held : (log later : Journal) (l : Logged) → later ≡ log_committed (with_prepared (Some l) log)
    → later.held ≡ newest log.size (log.held ++ l ∷ [])
committed_held log later l is = ap (λ (j : Journal). j.held) is

pub held_now : (log later : Journal) (e : Entry) (cell : ℕ) (point : Point) (op : Op)
    → e ≡ record { point = point; op = Some op }
    → later ≡ log_committed (with_prepared (Some (record { entry = e; cell = cell })) log)
    → map entry_of later.held
    ≡ last_entries log.size (map entry_of log.held ++ record { point = point; op = Some op } ∷ [])
held_now log later e cell point op is same =
    ap (map entry_of) (committed_held log later (record { entry = e; cell = cell }) same) ∙ held_after log.size log.held
    (record { entry = e; cell = cell }) ∙ ap (λ (x : Entry). last_entries log.size (map entry_of log.held ++ x ∷ [])) is

-- ---- on the disk

abbrev entry_at : Point → Op → ℕ → Logged
entry_at point op cell = record { entry = record { point = point; op = Some op }; cell = cell }

-- What is known of a planned change of what stands on the disk.
pub record IsReady (log : Journal) (old mid : CellFile) (rows : RowLists) (k : Kept) (point : Point) (op : Op)
    (w : UnitWrite) (now : View) : Type 0 where
  pub newer : old.format ≡ 2
  pub same : LeadsAlike old mid
  pub sound : AreRows rows
  pub plan : IsPlan w op (units old) rows
  pub fits : IsOp (Some op)
  pub name : IsNewName op rows
  pub room : IsRoom (effect (Some op) rows)
  pub stands : StandsOn log old rows k point now

makes_here : {log : Journal} {old mid : CellFile} {rows : RowLists} {k : Kept} {point : Point} {op : Op}
    {w : UnitWrite} {now : View}
    → (is : IsReady log old mid rows k point op w now) → MakesRows (number_of w) op is.stands.on.cells rows
makes_here {old = old} {rows = rows} {op = op} {w = w} is =
    plan_makes w op (units old) is.stands.on.cells rows is.plan
    (record { are = is.stands.on.file.cells; rows_is = is.stands.on.rows; sound = is.sound }) is.fits is.name is.room

pub may_commit : (log : Journal) (old mid : CellFile) (rows : RowLists) (k : Kept) (point : Point) (op : Op)
    (w : UnitWrite) (now : View) (is : IsReady log old mid rows k point op w now)
    → MayCommit log mid (entry_at point op (number_of w))
    (found_with (with_parts log old rows k) is.stands.on.cells) now
may_commit log old mid rows k point op w now is =
    let chosen = is.stands.chosen in
    let cells = is.stands.on.cells in
    let newer : k.control.format ≡ 2 = sym chosen.format ∙ is.newer in
    record {
      log_is = record {
        file_is = chosen.log;
        base_is = chosen.base;
        size_is = chosen.size;
        block_is = chosen.block;
        held_is = refl;
      };
      stands = is.stands.on.stands;
      change = record {
        fits = subst (λ (f : ℕ). MayChange f (unit_numbered (number_of w)) (cell_after op) cells) (sym newer)
            (makes_here is).may;
        newer = newer;
      };
      file_is = is.same.file_is ∙ chosen.image;
      format_is = is.same.format_is ∙ chosen.format;
      tie = subst (λ (g : ℕ). IsFileOf mid (sheet_with (with_parts log old rows k) cells) (now.seen g))
          (sym is.same.file_is)
          (alike_tie (sheet_with (with_parts log old rows k) cells) (now.seen old.file) is.same is.stands.on.file);
    }

place_next : (log : Journal) (old mid : CellFile) (rows : RowLists) (k : Kept) (point : Point) (op : Op) (w : UnitWrite)
    (now : View) (is : IsReady log old mid rows k point op w now)
    → place_of (after (entry_at point op (number_of w)) (found_with (with_parts log old rows k) is.stands.on.cells))
    ≡ committed op point.time (place_kept (with_parts log old rows k))
place_next log old mid rows k point op w now is =
    let kept = with_parts log old rows k in
    let cells = is.stands.on.cells in
    let here : place_of (found_with kept cells) ≡ place_kept kept = place_is kept cells is.stands.on.rows in
    place_after (entry_at point op (number_of w)) (found_with kept cells) op point.time
    (ap (change op) (is.stands.next_is ∙ ap (next_point point.time) (sym here)))
    ((makes_here is).rows_are ∙ ap (effect (Some op)) (sym is.stands.on.rows))
    ∙ ap (committed op point.time) here

pub change_leaves : {new : View} (log : Journal) (old mid : CellFile) (rows : RowLists) (k : Kept) (point : Point)
    (op : Op) (w : UnitWrite) (now : View) (is : IsReady log old mid rows k point op w now)
    → LeavesOnly now new
    (IsUnderWay (entry_at point op (number_of w)) (found_with (with_parts log old rows k) is.stands.on.cells))
    → LeavesOnly now new (LeavesPart (place_kept (with_parts log old rows k))
    (committed op point.time (place_kept (with_parts log old rows k)) ∷ []))
change_leaves log old mid rows k point op w now is run =
    let kept = with_parts log old rows k in
    let o = found_with kept is.stands.on.cells in
    let l = entry_at point op (number_of w) in
    let may = may_commit log old mid rows k point op w now is in
    weaken run (λ c way. either_place o (after l o) c (place_is kept is.stands.on.cells is.stands.on.rows)
    (place_next log old mid rows k point op w now is)
    (under_way_found l o c is.stands.on.stands.done is.stands.on.stands.files.size may.change.fits way))

pub nothing_leaves : (kept : Kept) (next : Place) (now : View) → IsOnDisk kept now
    → LeavesOnly now now (LeavesPart (place_kept kept) (next ∷ []))
unfolding LeavesPart
nothing_leaves kept next now on =
    started now (LeavesPart (place_kept kept) (next ∷ [])) (λ c here. inl (kept_recovers kept now on c here))

pub change_on : {E : Type 0} (new : View) (r : Result Unit E) (log later : Journal) (old mid late : CellFile)
    (rows after_rows : RowLists) (k : Kept) (point : Point) (op : Op) (w : UnitWrite) (now : View)
    (is : IsReady log old mid rows k point op w now)
    → OnOk r (later ≡ log_committed (with_prepared (Some (entry_at point op (number_of w))) log))
    → OnOk r (after_rows ≡ effect (Some op) rows)
    → late.file ≡ mid.file
    → OnOk r
    (Holds (after (entry_at point op (number_of w)) (found_with (with_parts log old rows k) is.stands.on.cells)) new)
    → OnOk r (IsFileOf late (after (entry_at point op (number_of w))
    (found_with (with_parts log old rows k) is.stands.on.cells)).sheet (new.seen mid.file))
    → OnOk r (HasLog later new) → OnOk r (IsDurable later.file new)
    → OnOk r (IsOnDisk (with_parts later late after_rows k) new)
change_on new (Err e) log later old mid late rows after_rows k point op w now is held same file stands tie has durable =
    tt
change_on new (Ok x) log later old mid late rows after_rows k point op w now is held same file stands tie has durable =
    let l = entry_at point op (number_of w) in
    let cells = redone l is.stands.on.cells in
    let held_is : later.held ≡ newest k.control.size (log.held ++ l ∷ []) =
    committed_held log later l held ∙ ap (λ (n : ℕ). newest n (log.held ++ l ∷ [])) is.stands.chosen.size in
    record {
      cells = cells;
      rows = (makes_here is).rows_are ∙ sym same;
      file = subst (λ (g : ℕ). IsFileOf late (record { realm = k.realm; cells = cells }) (new.seen g)) (sym file) tie;
      stands = subst (λ (h : List Logged). Holds (record {
        control = k.control;
        held = h;
        sheet = record { realm = k.realm; cells = cells };
        stash = k.stash;
      }) new) (sym held_is) stands;
      log = has;
      durable = durable;
    }

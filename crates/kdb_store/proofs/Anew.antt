-- A change behind a log that is begun anew.
use Rattle.std.proofs.Common.{◌≡◌, ℕ, ◌≤◌, inl, inr, ⊎_elim, List, [], ◌∷◌}
use Rattle.std.proofs.Common.{map, Option, Some, refl, sym, ap, subst, ◌∙◌}
use Rattle.std.specs.Prelude.{Result, Ok, Err, OnOk, OnErr}
use Rattle.std.proofs.lemmas.Result.{on_ok_weaker}
use Rattle.kdb_base.specs.Moment.{Moment}
use Rattle.kdb_base.specs.Moments.{micros}
use Rattle.kdb_base.specs.declared.moments.Point.{Point}
use Rattle.kdb_disk.specs.View.{View}
use Rattle.kdb_disk.specs.Moments.{LeavesOnly}
use Rattle.kdb_disk.proofs.Runs.{started, weaken, then_on}
use Rattle.kdb_control.specs.Choice.{Choice}
use Rattle.kdb_control.specs.declared.force.Force.TheVariants.{Is}
use Rattle.kdb_control.specs.Moments.{HasInForce}
use Rattle.princ_rows.specs.declared.entries.Entry.{Entry}
use Rattle.princ_rows.specs.declared.entries.Logged.{Logged}
use Rattle.princ_rows.specs.declared.entries.Op.{Op}
use Rattle.princ_rows.specs.Rows.{RowLists}
use Rattle.princ_rows.specs.Effects.{effect}
use Rattle.update_log.specs.Logs.{Journal, ComesNext, begun, marker_of, newest, with_prepared, log_committed, entry_of}
use Rattle.update_log.specs.Moments.{HasLog, IsDurable}
use Rattle.kdb_cells.specs.CellFiles.{CellFile, units}
use Rattle.kdb_cells.specs.FileCells.{IsFileOf}
use Rattle.kdb_places.specs.Places.{Place, base_marker, change, last_point}
use Rattle.kdb_places.specs.Places.{next_point, last_entries, committed, log_anew}
use Rattle.store_files.specs.Found.{Found}
use Rattle.store_files.specs.Kept.{Kept, HasChosen, IsOnDisk, place_kept, with_parts, found_with, sheet_with}
use Rattle.store_files.specs.Recovery.{LeavesPart}
use Rattle.store_files.specs.Standing.{Holds, IsUnderWay, after}
use Rattle.store_files.specs.Switches.{reset_choice}
use Rattle.store_files.proofs.Placed.{kept_recovers}
use Rattle.store_switches.specs.Switched.{with_log, IsUnder}
use Rattle.kdb_store.specs.Anew.{IsBehind, point_behind}
use Rattle.kdb_store.specs.Parts.{LeadsAlike, MayCommit, SameNumbers}
use Rattle.kdb_store.specs.Writes.{number_of, HasEntered, IsPlan}
use Rattle.store_opening.specs.declared.unit_writes.UnitWrite.{UnitWrite}
use Rattle.kdb_store.proofs.Changed.{IsReady, may_commit, change_leaves, change_on, alike_tie, held_now}
use Rattle.kdb_store.proofs.DiskChanges.{noted_commit}
use Rattle.kdb_store.proofs.Switched.{place_reset}

-- ---- what a crash leaves

pub begun_run : {old new : View} (p a c : Place) → LeavesOnly old new (LeavesPart p (a ∷ []))
    → LeavesOnly old new (LeavesPart p (a ∷ c ∷ []))
unfolding LeavesPart
begun_run p a c first = weaken {P = LeavesPart p (a ∷ c ∷ [])} first
    (λ files either. ⊎_elim (λ before. inl before) (λ anew. inr (inl anew)) either)

pub anew_run : {old mid new : View} (p a c : Place) → LeavesOnly old mid (LeavesPart p (a ∷ []))
    → LeavesOnly mid new (LeavesPart a (c ∷ []))
    → LeavesOnly old new (LeavesPart p (a ∷ c ∷ []))
unfolding LeavesPart
anew_run p a c first second =
    then_on {P = LeavesPart p (a ∷ c ∷ [])} (begun_run p a c first) second (λ files either. inr either)

pub nothing_anew : (kept : Kept) (a c : Place) (now : View) → IsOnDisk kept now
    → LeavesOnly now now (LeavesPart (place_kept kept) (a ∷ c ∷ []))
unfolding LeavesPart
nothing_anew kept a c now on =
    started now (LeavesPart (place_kept kept) (a ∷ c ∷ [])) (λ files here. inl (kept_recovers kept now on files here))

-- ---- the log as it is begun

pub in_force_under : (now : Choice) (k : Kept) (v : View) → IsUnder now k v → HasInForce (Is now) v
in_force_under now k v under c here = (under.on.stands.each c here).force ∙ ap (λ (x : Choice). Is x) under.control_is

-- the choice that comes next, by what is kept
next_of : (now next : Choice) (k : Kept) (v : View) → IsUnder now k v
    → next ≡ reset_choice next.log next.base next.size next.block now
    → next ≡ reset_choice next.log next.base next.size next.block k.control
next_of now next k v under is = is ∙ ap (reset_choice next.log next.base next.size next.block) (sym under.control_is)

pub begun_file : (next : Choice) (log noted : Journal) (p : Option Logged)
    → log ≡ with_prepared p (begun next.log next.base next.size next.block) → log.file ≡ next.log
begun_file next log noted p is = ap (λ (j : Journal). j.file) is

point_next : (base : Point) (time : Moment) (size block : ℕ) (p : Place)
    → point_behind base time ≡ next_point time (log_anew base size block p)
unfolding last_point
point_next base time size block p = refl

-- The log as it is begun stands under the next choice, and the change is planned over it.
abbrev anew_ready : {now next : Choice} {time : Moment} {k : Kept} {given : CellFile} {e : Entry} {w : UnitWrite}
    {op : Op} {old mid : View}
    → next ≡ reset_choice next.log next.base next.size next.block now → IsBehind now next.base time k given e w op old
    → IsOnDisk (with_log next (begun next.log next.base next.size next.block) k) mid
    → IsReady (begun next.log next.base next.size next.block) k.cells given k.rows
    (with_log next (begun next.log next.base next.size next.block) k) (point_behind next.base time) op w mid
anew_ready {now} {next} {time} {k} next_is is on = record {
  newer = is.planned.newer;
  same = is.planned.same;
  sound = is.planned.sound;
  plan = is.planned.plan;
  fits = is.planned.fits;
  name = is.planned.name;
  room = is.planned.room;
  stands = record {
    chosen = record {
      log = refl;
      base = refl;
      size = refl;
      block = refl;
      image = is.under.chosen.image ∙ ap (λ (c : Choice). c.image) is.under.control_is
          ∙ sym (ap (λ (c : Choice). c.image) next_is);
      format = is.planned.newer ∙ sym (ap (λ (c : Choice). c.format) next_is);
    };
    on = on;
    next_is = point_next next.base time next.size next.block (place_kept k);
  };
}

-- ---- the change behind it

-- What is known of a change behind a log that was begun anew.
pub record IsFollowed (now next : Choice) (time : Moment) (k : Kept) (given : CellFile) (e : Entry) (w : UnitWrite)
    (op : Op) (noted : Journal) (old mid : View) : Type 0 where
  pub next_is : next ≡ reset_choice next.log next.base next.size next.block now
  pub behind : IsBehind now next.base time k given e w op old
  pub on : IsOnDisk (with_log next (begun next.log next.base next.size next.block) k) mid
  pub noted_is : noted
      ≡ with_prepared (Some (record { entry = e; cell = number_of w })) (begun next.log next.base next.size next.block)

may_follow : {now next : Choice} {time : Moment} {k : Kept} {given : CellFile} {e : Entry} {w : UnitWrite} {op : Op}
    {noted : Journal} {old mid : View}
    → (is : IsFollowed now next time k given e w op noted old mid)
    → MayCommit noted given (record { entry = e; cell = number_of w })
    (found_with (with_log next (begun next.log next.base next.size next.block) k) is.on.cells) mid
may_follow {now} {next} {time} {k} {given} {e} {w} {op} {noted} {old} {mid} is =
    let begun_log = begun next.log next.base next.size next.block in
    let kept = with_log next begun_log k in
    let may = may_commit begun_log k.cells given k.rows kept (point_behind next.base time) op w mid
    (anew_ready is.next_is is.behind is.on) in
    noted_commit noted (Some (record { entry = e; cell = number_of w })) is.noted_is
    (subst (λ (x : Entry). MayCommit begun_log given (record { entry = x; cell = number_of w })
    (found_with kept is.on.cells) mid) (sym is.behind.entry_is) may)

pub follow_leaves : {now next : Choice} {time : Moment} {k : Kept} {given : CellFile} {e : Entry} {w : UnitWrite}
    {op : Op} {noted : Journal} {old mid : View} {new : View}
    → IsFollowed now next time k given e w op noted old mid
    → LeavesOnly old mid (LeavesPart (place_kept k) (log_anew next.base next.size next.block (place_kept k) ∷ []))
    → ((o : Found) → MayCommit noted given (record { entry = e; cell = number_of w }) o mid
    → LeavesOnly mid new (IsUnderWay (record { entry = e; cell = number_of w }) o))
    → LeavesOnly old new (LeavesPart (place_kept k) (log_anew next.base next.size next.block (place_kept k)
    ∷ committed op time (log_anew next.base next.size next.block (place_kept k)) ∷ []))
follow_leaves {now} {next} {time} {k} {given} {e} {w} {op} {noted} {old} {mid} {new} is first second =
    let begun_log = begun next.log next.base next.size next.block in
    let kept = with_log next begun_log k in
    let o = found_with kept is.on.cells in
    let anew = log_anew next.base next.size next.block (place_kept k) in
    let run = subst (λ (x : Entry). LeavesOnly mid new (IsUnderWay (record { entry = x; cell = number_of w }) o))
    is.behind.entry_is (second o (may_follow is)) in
    let part = change_leaves begun_log k.cells given k.rows kept (point_behind next.base time) op w mid
    (anew_ready is.next_is is.behind is.on) run in
    let here : place_kept kept ≡ anew = place_reset k k next begun_log next.base next.size next.block refl
    (next_of now next k old is.behind.under is.next_is) refl in
    anew_run (place_kept k) anew (committed op time anew) first
    (subst (λ (p : Place). LeavesOnly mid new (LeavesPart p (committed op time p ∷ []))) here part)

always_ok : {E P : Type 0} (r : Result Unit E) → P → OnOk r P
always_ok (Ok x) p = p
always_ok (Err e) p = tt

pub follow_on : {E : Type 0} {now next : Choice} {time : Moment} {k : Kept} {given : CellFile} {e : Entry}
    {w : UnitWrite} {op : Op} {noted : Journal} {old mid : View} (new : View) (r : Result Unit E) (later : Journal)
    (late : CellFile)
    → IsFollowed now next time k given e w op noted old mid → OnOk r (later ≡ log_committed noted)
    → late.file ≡ given.file
    → ((o : Found) → MayCommit noted given (record { entry = e; cell = number_of w }) o mid
    → OnOk r (Holds (after (record { entry = e; cell = number_of w }) o) new))
    → ((o : Found) → MayCommit noted given (record { entry = e; cell = number_of w }) o mid
    → OnOk r (IsFileOf late (after (record { entry = e; cell = number_of w }) o).sheet (new.seen given.file)))
    → OnOk r (HasLog later new) → OnOk r (IsDurable later.file new)
    → OnOk r (IsOnDisk (with_parts later late (effect (Some op) k.rows) (with_log next later k)) new)
follow_on {E} {now} {next} {time} {k} {given} {e} {w} {op} {noted} {old} {mid} new r later late is held file stands
    tie has durable =
    let begun_log = begun next.log next.base next.size next.block in
    let kept = with_log next begun_log k in
    let o = found_with kept is.on.cells in
    let may = may_follow is in
    let entry = is.behind.entry_is in
    change_on new r begun_log later k.cells given late k.rows (effect (Some op) k.rows) kept
    (point_behind next.base time) op w mid (anew_ready is.next_is is.behind is.on)
    (on_ok_weaker r (λ h. h ∙ ap log_committed is.noted_is ∙ ap (λ (x : Entry).
    log_committed (with_prepared (Some (record { entry = x; cell = number_of w })) begun_log)) entry) held)
    (always_ok r refl) file
    (subst (λ (x : Entry). OnOk r (Holds (after (record { entry = x; cell = number_of w }) o) new)) entry
    (stands o may))
    (subst (λ (x : Entry). OnOk r
    (IsFileOf late (after (record { entry = x; cell = number_of w }) o).sheet (new.seen given.file))) entry (tie o may))
    has durable

-- ---- the base, by the choice that names it

pub behind_next : {base : Point} {time : Moment} {size block : ℕ} {k : Kept} {given : CellFile} {e : Entry}
    {w : UnitWrite} {op : Op} {v : View} (now next : Choice)
    → next ≡ reset_choice next.log base size block now → IsBehind now base time k given e w op v
    → IsBehind now next.base time k given e w op v
behind_next {base} {time} {size} {block} {k} {given} {e} {w} {op} {v} now next is behind =
    subst (λ (b : Point). IsBehind now b time k given e w op v) (sym (ap (λ (c : Choice). c.base) is)) behind

pub own_parts : {old new : View} (p : Place) (op : Op) (time : Moment) (now next : Choice) (base : Point)
    (size block : ℕ) → next ≡ reset_choice next.log base size block now
    → LeavesOnly old new (LeavesPart p
    (log_anew next.base next.size next.block p ∷ committed op time (log_anew next.base next.size next.block p) ∷ []))
    → LeavesOnly old new
    (LeavesPart p (log_anew base size block p ∷ committed op time (log_anew base size block p) ∷ []))
own_parts {old} {new} p op time now next base size block is run =
    subst (λ (c : Choice). LeavesOnly old new (LeavesPart p
    (log_anew c.base c.size c.block p ∷ committed op time (log_anew c.base c.size c.block p) ∷ []))) is run

-- the size is that of the choice before
pub same_size : {old new : View} (p : Place) (op : Op) (time : Moment) (base : Point) (size of block : ℕ) → size ≡ of
    → LeavesOnly old new
    (LeavesPart p (log_anew base size block p ∷ committed op time (log_anew base size block p) ∷ []))
    → LeavesOnly old new (LeavesPart p (log_anew base of block p ∷ committed op time (log_anew base of block p) ∷ []))
same_size {old} {new} p op time base size of block is run =
    subst (λ (n : ℕ). LeavesOnly old new
    (LeavesPart p (log_anew base n block p ∷ committed op time (log_anew base n block p) ∷ []))) is run

-- ---- in memory

pub comes_behind : (e : Entry) (cell : ℕ) (base point : Point) (time : Moment) (op : Op)
    → e ≡ record { point = point; op = Some op } → point ≡ point_behind base time
    → micros base.time ≤ micros time → ComesNext (marker_of base ∷ []) (record { entry = e; cell = cell })
comes_behind e cell base point time op is at late =
    let some : e.op ≡ Some op = ap (λ (x : Entry). x.op) is in
    let here : e.point ≡ point_behind base time = ap (λ (x : Entry). x.point) is ∙ at in
    record {
      change = λ none. (cc);
      serial = λ d. ap (λ (q : Point). q.sno) here;
      time = λ d. subst (λ (q : Point). micros base.time ≤ micros q.time) (sym here) late;
    }

pub rows_on : {E : Type 0} (r : Result Unit E) (log : Journal) (cells : CellFile) (made rows : RowLists)
    (k : Kept) (v : View)
    → OnOk r (rows ≡ made) → OnOk r (IsOnDisk (with_parts log cells made k) v)
    → OnOk r (IsOnDisk (with_parts log cells rows k) v)
rows_on (Ok x) log cells made rows k v is on =
    subst (λ (q : RowLists). IsOnDisk (with_parts log cells q k) v) (sym is) on
rows_on (Err e) log cells made rows k v is on = tt

pub anew_held : (file : ℕ) (base : Point) (size of block : ℕ) (later : Journal) (e : Entry) (cell : ℕ) (point : Point)
    (time : Moment) (op : Op) → e ≡ record { point = point; op = Some op }
    → point ≡ point_behind base time → size ≡ of
    → later ≡ log_committed (with_prepared (Some (record { entry = e; cell = cell })) (begun file base size block))
    → map entry_of later.held ≡ last_entries of (base_marker base ∷ change op (point_behind base time) ∷ [])
anew_held file base size of block later e cell point time op is at same held =
    held_now (begun file base size block) later e cell point op is held
    ∙ ap (λ (q : Point). last_entries size (base_marker base ∷ change op q ∷ [])) at
    ∙ ap (λ (n : ℕ). last_entries n (base_marker base ∷ change op (point_behind base time) ∷ [])) same

pub anew_numbers : (file : ℕ) (base : Point) (size of block : ℕ) (later : Journal) (p : Option Logged) → size ≡ of
    → later ≡ log_committed (with_prepared p (begun file base size block))
    → SameNumbers (begun file base of block) later
anew_numbers file base size of block later p same is = record {
  file_is = ap (λ (j : Journal). j.file) is;
  base_is = ap (λ (j : Journal). j.base) is;
  size_is = ap (λ (j : Journal). j.size) is ∙ same;
  block_is = ap (λ (j : Journal). j.block) is;
}

-- the entry behind the marker, in the unit that was planned for it
pub anew_entry : (file : ℕ) (base : Point) (size of block : ℕ) (later : Journal) (e : Entry) (w : UnitWrite)
    (point : Point) (time : Moment) (op : Op) (cells : CellFile) (rows : RowLists)
    → IsPlan w op (units cells) rows
    → e ≡ record { point = point; op = Some op } → point ≡ point_behind base time → size ≡ of
    → later ≡ log_committed (with_prepared (Some (record { entry = e; cell = number_of w })) (begun file base size block))
    → HasEntered op (point_behind base time) (begun file base of block) later cells rows
anew_entry file base size of block later e w point time op cells rows plan is at same held = record {
  cell = number_of w;
  unit = record { given = plan.given; none = plan.none; only = plan.only };
  held =
      let behind : Entry → ℕ → List Logged = λ (x : Entry) (n : ℕ).
      newest n (marker_of base ∷ record { entry = x; cell = number_of w } ∷ []) in
      ap (λ (j : Journal). j.held) held ∙ ap (λ (x : Entry). behind x size) is
      ∙ ap (λ (q : Point). behind (change op q) size) at ∙ ap (behind (change op (point_behind base time))) same;
}

-- and it is so of what was kept
pub anew_entered : (k old : Kept) (op : Op) (p : Point) (file : ℕ) (base : Point) (block : ℕ) (log : Journal) → k ≡ old
    → HasEntered op p (begun file base k.control.size block) log k.cells k.rows
    → HasEntered op p (begun file base (place_kept old).size block) log old.cells old.rows
anew_entered k old op p file base block log is entered =
    subst (λ (x : Kept). HasEntered op p (begun file base x.control.size block) log x.cells x.rows) is entered

-- ---- where memory ran out

-- what holds after each error holds after this one
pub on_err_at : {A E P : Type 0} {r : Result A E} {e : E} → r ≡ Err e → OnErr r P → P
on_err_at {A} {E} {P} is all = subst (λ (x : Result A E). OnErr x P) is all

still_parts : (log later : Journal) (old new : CellFile) (rows after_rows : RowLists) (k : Kept) (v : View)
    → later ≡ log → LeadsAlike old new → after_rows ≡ rows
    → IsOnDisk (with_parts log old rows k) v → IsOnDisk (with_parts later new after_rows k) v
still_parts log later old new rows after_rows k v is same rows_are on =
    let here : IsOnDisk (with_parts later old rows k) v =
    subst (λ (j : Journal). IsOnDisk (with_parts j old rows k) v) (sym is) on in
    record {
      cells = here.cells;
      rows = here.rows ∙ sym rows_are;
      file = subst (λ (f : ℕ). IsFileOf new (sheet_with (with_parts later old rows k) here.cells) (v.seen f))
          (sym same.file_is)
          (alike_tie (sheet_with (with_parts later old rows k) here.cells) (v.seen old.file) same here.file);
      stands = here.stands;
      log = here.log;
      durable = here.durable;
    }

pub still_anew : {D : Type 0} (view : D → View) (now control : Choice) (k : Kept) (log later : Journal)
    (old new : CellFile) (rows after_rows : RowLists) (before after_disk : D)
    → IsUnder now (with_parts log old rows k) (view before) → control ≡ now → later ≡ log → LeadsAlike old new
    → after_rows ≡ rows → after_disk ≡ before
    → IsOnDisk (with_parts later new after_rows (with_log control later k)) (view after_disk)
still_anew {D} view now control k log later old new rows after_rows before after_disk under chosen is same
    rows_are nothing =
    let here : IsOnDisk (with_parts later new after_rows k) (view before) =
    still_parts log later old new rows after_rows k (view before) is same rows_are under.on in
    let there : IsOnDisk (with_parts later new after_rows (with_log control later k)) (view before) =
    subst (λ (c : Choice). IsOnDisk (with_parts later new after_rows (with_log c later k)) (view before))
    (under.control_is ∙ sym chosen) here in
    subst (λ (d : D). IsOnDisk (with_parts later new after_rows (with_log control later k)) (view d))
    (sym nothing) there

-- ---- the database after it

pub anew_place : (k old : Kept) (next : Choice) (log : Journal) (cells : CellFile) (rows : RowLists) (op : Op)
    (time : Moment) (base : Point) (block : ℕ) → k ≡ old
    → next ≡ reset_choice next.log base k.control.size block k.control → rows ≡ effect (Some op) k.rows
    → map entry_of log.held ≡ last_entries k.control.size (base_marker base ∷ change op (point_behind base time) ∷ [])
    → place_kept (with_parts log cells rows (with_log next log k))
    ≡ committed op time (log_anew base (place_kept old).size block (place_kept old))
unfolding last_point
anew_place k old next log cells rows op time base block is chosen same held =
    let make : Choice → RowLists → List Entry → Place = λ (c : Choice) (r : RowLists) (h : List Entry).
    record {
      realm = k.realm;
      rows = r;
      held = h;
      stash = k.stash;
      size = c.size;
      block = c.block;
      format = c.format;
    } in
    let anew = reset_choice next.log base k.control.size block k.control in
    ap (λ (c : Choice). make c rows (map entry_of log.held)) chosen
    ∙ ap (λ (r : RowLists). make anew r (map entry_of log.held)) same
    ∙ ap (make anew (effect (Some op) k.rows)) held
    ∙ ap (λ (x : Kept). committed op time (log_anew base x.control.size block (place_kept x))) is

pub anew_told : {late new : View} (k old : Kept) (op : Op) (time : Moment) (base : Point) (block : ℕ) → k ≡ old
    → LeavesOnly late new (LeavesPart (place_kept k) (log_anew base k.control.size block (place_kept k)
    ∷ committed op time (log_anew base k.control.size block (place_kept k)) ∷ []))
    → LeavesOnly late new (LeavesPart (place_kept old) (log_anew base (place_kept old).size block (place_kept old)
    ∷ committed op time (log_anew base (place_kept old).size block (place_kept old)) ∷ []))
anew_told {late} {new} k old op time base block is run =
    subst (λ (x : Kept). LeavesOnly late new (LeavesPart (place_kept x) (log_anew base x.control.size block
    (place_kept x) ∷ committed op time (log_anew base x.control.size block (place_kept x)) ∷ []))) is run

pub anew_chosen : (k : Kept) (next : Choice) (log : Journal) (cells : CellFile) (rows : RowLists) (base : Point)
    (block : ℕ) → HasChosen k
    → next ≡ reset_choice next.log base k.control.size block k.control
    → SameNumbers (begun next.log base k.control.size block) log
    → cells.file ≡ k.cells.file → cells.format ≡ k.cells.format → k.control.format ≡ 2
    → HasChosen (with_parts log cells rows (with_log next log k))
anew_chosen k next log cells rows base block chosen is same file format newer = record {
  log = same.file_is;
  base = same.base_is ∙ sym (ap (λ (c : Choice). c.base) is);
  size = same.size_is ∙ sym (ap (λ (c : Choice). c.size) is);
  block = same.block_is ∙ sym (ap (λ (c : Choice). c.block) is);
  image = file ∙ chosen.image ∙ sym (ap (λ (c : Choice). c.image) is);
  format = format ∙ chosen.format ∙ newer ∙ sym (ap (λ (c : Choice). c.format) is);
}

-- A spare file is written, and the choice that names it is put into force.
use Rattle.std.proofs.Common.{◌≡◌, ◌≢◌, ℕ, ◌<◌, inl, inr, ⊎_elim, List, [], ◌∷◌, Ok, refl, sym, ap, subst, ◌∙◌}
use Rattle.kdb_base.specs.declared.moments.Point.{Point}
use Rattle.kdb_disk.specs.Files.{Files}
use Rattle.kdb_disk.specs.View.{View, IsAfter}
use Rattle.kdb_disk.specs.Moments.{LeavesOnly, Differs, Replaced}
use Rattle.kdb_disk.proofs.Puts.{with_file-other}
use Rattle.kdb_disk.proofs.Runs.{weaken, then_on, at_end}
use Rattle.kdb_control.specs.Choice.{Choice}
use Rattle.kdb_control.specs.Force.{in_force}
use Rattle.kdb_control.specs.declared.force.Force.{Force}
use Rattle.kdb_control.specs.declared.force.Force.TheVariants.{Is}
use Rattle.kdb_control.specs.Moments.{HasInForce, LeavesEither, IsInForce}
use Rattle.kdb_cells.specs.FileCells.{IsFileOf}
use Rattle.kdb_cells.specs.Sheets.{Sheet}
use Rattle.kdb_places.specs.Places.{Place, log_anew, restashed}
use Rattle.update_log.specs.Logs as logs
use Rattle.update_log.specs.Logs.{Journal, begun}
use Rattle.update_log.specs.Moments.{HasLog, IsDurable, ReadsOthers}
use Rattle.store_files.specs.Found.{Found, place_of, place_in}
use Rattle.store_files.specs.Kept.{Kept, HasChosen, IsOnDisk, place_kept, found_with, sheet_with}
use Rattle.store_files.specs.Recovery.{LeavesPart}
use Rattle.store_files.specs.Standing.{HasFiles, Would, StandsOnDisk, IsDone, Holds}
use Rattle.store_files.specs.Switches.{IsSpareFor, reset_choice, stash_choice, after_reset, after_stash}
use Rattle.store_files.proofs.Finding.{stands_found}
use Rattle.store_files.proofs.Placed.{place_is, either_place}
use Rattle.store_files.proofs.Switching.{would_stand, spare_stands, reset_would, stash_would}
use Rattle.store_switches.specs.Switched.{with_log, with_stash, IsUnder, StandsEither}

-- ---- the spare file

-- another file than the one that differs
pub other_file : {file g : ℕ} {old : View} {c : Files} → g ≢ file → (from : IsAfter (Differs file) old c)
    → c g ≡ from.before g
other_file {file} {g} other from =
    ap (λ (files : Files). files g) from.went.is ∙ with_file-other file g from.went.content from.before other

pub turned : {a b : ℕ} → a ≢ b → b ≢ a
turned apart e = apart (sym e)

pub spare_run : {old mid : View} (o : Found) (file : ℕ) → IsSpareFor o.control file
    → ((c : Files) → old.images c → StandsOnDisk o c)
    → LeavesOnly old mid (IsAfter (Differs file) old) → LeavesOnly old mid (StandsOnDisk o)
spare_run o file spare stands run = weaken run
    (λ c from. spare_stands o c from.before file spare (stands from.before from.was) (λ g other. other_file other from))

pub force_kept : {old mid : View} (choice : Choice) (file : ℕ) → file ≢ 0 → HasInForce (Is choice) old
    → LeavesOnly old mid (IsAfter (Differs file) old)
    → HasInForce (Is choice) mid
force_kept choice file some has run c now = let from =
    at_end run c now in ap in_force (other_file (turned some) from) ∙ has from.before from.was

-- ---- the switch

-- the files but the control file are those of before
same_files : {mid new : View} {one other : Force} → LeavesOnly mid new (LeavesEither one other mid) → (c : Files)
    → new.images c
    → (b : Files) × (mid.images b × ((g : ℕ) → g ≢ 0 → c g ≡ b g))
same_files switch c now =
    ⊎_elim (λ l. (l.before, (l.was, l.others))) (λ l. (l.before, (l.was, l.others))) (at_end switch c now)

-- What is known of a switch from what stands to what would stand.
pub record Switches (o p : Found) (file : ℕ) (old mid new : View) : Type 0 where
  pub done : IsDone o
  pub next_done : IsDone p
  pub files : HasFiles o.control
  pub next_files : HasFiles p.control
  pub spare : IsSpareFor o.control file
  pub stands : (c : Files) → old.images c → StandsOnDisk o c
  pub would : (c : Files) → mid.images c → Would o c → Would p c
  pub run : LeavesOnly old mid (IsAfter (Differs file) old)
  pub switch : LeavesOnly mid new (LeavesEither (Is o.control) (Is p.control) mid)

stands_mid : {o p : Found} {file : ℕ} {old mid new : View} → Switches o p file old mid new → (c : Files) → mid.images c
    → StandsOnDisk o c
stands_mid {o = o} {file = file} is c now = at_end (spare_run o file is.spare is.stands is.run) c now

either_run : {o p : Found} {file : ℕ} {old mid new : View} → Switches o p file old mid new
    → LeavesOnly mid new (StandsEither o p)
either_run {o} {p} is = weaken {P = StandsEither o p} is.switch (λ c either. ⊎_elim
    (λ l. inl (would_stand o c l.before is.files (stands_mid is l.before l.was).would l.others l.here))
    (λ l. inr (would_stand p c l.before is.next_files (is.would l.before l.was (stands_mid is l.before l.was).would)
    l.others l.here))
    either)

pub switch_run : {o p : Found} {file : ℕ} {old mid new : View} → Switches o p file old mid new
    → LeavesOnly old new (StandsEither o p)
switch_run {o} {p} {file} is =
    then_on (weaken {P = StandsEither o p} (spare_run o file is.spare is.stands is.run) (λ c stands. inl stands))
    (either_run is) (λ c either. either)

-- by the places
pub placed_run : {o p : Found} {file : ℕ} {old mid new : View} {before after : Place} → Switches o p file old mid new
    → place_of o ≡ before → place_of p ≡ after
    → LeavesOnly old new (LeavesPart before (after ∷ []))
placed_run {o} {p} is one other = weaken (switch_run is) (λ c either. either_place o p c one other (⊎_elim
    (λ s. inl (stands_found o c is.done s))
    (λ s. inr (stands_found p c is.next_done s))
    either))

-- what is written but not yet put into force
pub spare_placed : {old mid : View} {before : Place} (after : Place) (o : Found) (file : ℕ) → IsDone o
    → IsSpareFor o.control file
    → ((c : Files) → old.images c → StandsOnDisk o c) → place_of o ≡ before
    → LeavesOnly old mid (IsAfter (Differs file) old)
    → LeavesOnly old mid (LeavesPart before (after ∷ []))
unfolding LeavesPart
spare_placed after o file done spare stands one run =
    weaken (spare_run o file spare stands run) (λ c s. inl (ap place_in (stands_found o c done s) ∙ ap Ok one))

-- ---- what stands after it

pub holds_next : {o p : Found} {file : ℕ} {old mid new : View} → Switches o p file old mid new
    → IsInForce (Is p.control) mid new → Holds p new
holds_next {p = p} is set = record {
  done = is.next_done;
  files = is.next_files;
  each = λ c now.
      let b = same_files is.switch c now in
      would_stand p c b.0 is.next_files (is.would b.0 b.1.0 (stands_mid is b.0 b.1.0).would) b.1.1
      (ap in_force (set.durable c now) ∙ set.here);
}

pub log_after : {mid new : View} {one other : Force} (log : Journal) → log.file ≢ 0
    → LeavesOnly mid new (LeavesEither one other mid) → HasLog log mid → HasLog log new
log_after log some switch has = record {
  each = λ c now. let b =
      same_files switch c now in subst (logs.Holds log) (sym (b.1.1 log.file some)) (has.each b.0 b.1.0);
}

pub durable_after : {mid new : View} {one other force : Force} (g : ℕ) → g ≢ 0
    → LeavesOnly mid new (LeavesEither one other mid) → IsInForce force mid new → IsDurable g mid → IsDurable g new
durable_after g some switch set was = record {
  durable = λ c now. let b = same_files switch c now in b.1.1 g some ∙ was.durable b.0 b.1.0 ∙ sym (set.others g some);
}

-- a log in a file that is not written
log_beside : {old mid : View} (log : Journal) (file : ℕ) → log.file ≢ file → HasLog log old
    → LeavesOnly old mid (IsAfter (Differs file) old) → HasLog log mid
log_beside log file other has run = record {
  each = λ c now. let from =
      at_end run c now in subst (logs.Holds log) (sym (other_file other from)) (has.each from.before from.was);
}

durable_beside : {old mid : View} (g file : ℕ) → g ≢ file → mid.seen g ≡ old.seen g → IsDurable g old
    → LeavesOnly old mid (IsAfter (Differs file) old) → IsDurable g mid
durable_beside g file other seen was run = record {
  durable = λ c now. let from = at_end run c now in other_file other from ∙ was.durable from.before from.was ∙ sym seen;
}

tie_after : (old : View) {mid new : View} {force : Force} (k : Kept) (sheet : Sheet) → k.cells.file ≢ 0
    → IsInForce force mid new → mid.seen k.cells.file ≡ old.seen k.cells.file
    → IsFileOf k.cells sheet (old.seen k.cells.file) → IsFileOf k.cells sheet (new.seen k.cells.file)
tie_after old k sheet some set seen tie = subst (IsFileOf k.cells sheet) (sym (set.others k.cells.file some ∙ seen)) tie

-- ---- the log begun anew

reset_switches : {old mid new : View} (k : Kept) (file : ℕ) (base : Point) (size block : ℕ) (on : IsOnDisk k old)
    → k.control.format ≡ 2
    → IsSpareFor k.control file → 0 < size → LeavesOnly old mid (IsAfter (Differs file) old)
    → HasLog (begun file base size block) mid
    → LeavesOnly mid new (LeavesEither (Is k.control) (Is (reset_choice file base size block k.control)) mid)
    → Switches (found_with k on.cells) (after_reset file base size block (found_with k on.cells)) file old mid new
reset_switches k file base size block on newer spare some run has switch = record {
  done = on.stands.done;
  next_done = refl;
  files = on.stands.files;
  next_files = record {
    image = on.stands.files.image;
    log = spare.control;
    apart = λ e. spare.image (sym e);
    stash = λ used. (spare.stash used, (on.stands.files.stash used).1);
    size = some;
  };
  spare = spare;
  stands = on.stands.each;
  would = λ c now would. reset_would (found_with k on.cells) c file base size block newer would (has.each c now);
  run = run;
  switch = switch;
}

reset_begun_on : {old mid new : View} (k : Kept) (file : ℕ) (base : Point) (size block : ℕ) (on : IsOnDisk k old)
    → HasChosen k
    → Switches (found_with k on.cells) (after_reset file base size block (found_with k on.cells)) file old mid new
    → HasLog (begun file base size block) mid → IsDurable file mid → ReadsOthers file old mid
    → IsInForce (Is (reset_choice file base size block k.control)) mid new
    → IsOnDisk (with_log (reset_choice file base size block k.control) (begun file base size block) k) new
reset_begun_on {old} {mid} {new} k file base size block on chosen is has durable others set = record {
  cells = on.cells;
  rows = on.rows;
  file = tie_after old k (sheet_with k on.cells) (λ e. is.files.image (sym chosen.image ∙ e)) set
      (others k.cells.file (λ e. is.spare.image (sym chosen.image ∙ e))) on.file;
  stands = holds_next is set;
  log = log_after (begun file base size block) is.spare.control is.switch has;
  durable = durable_after file is.spare.control is.switch set durable;
}

-- What is known of a log that is to be begun anew.
pub record IsReset (now next : Choice) (log : Journal) : Type 0 where
  pub newer : now.format ≡ 2
  pub next_is : next ≡ reset_choice next.log next.base next.size next.block now
  pub spare : IsSpareFor now next.log
  pub some : 0 < next.size
  pub log_is : log ≡ begun next.log next.base next.size next.block

-- and of the run that writes it
pub record IsRewritten (now next : Choice) (log : Journal) (old mid new : View) : Type 0 where
  pub reset : IsReset now next log
  pub run : LeavesOnly old mid (IsAfter (Differs log.file) old)
  pub has : HasLog log mid
  pub switch : LeavesOnly mid new (LeavesEither (Is now) (Is next) mid)

file_of : {now next : Choice} {log : Journal} → IsReset now next log → log.file ≡ next.log
file_of is = ap (λ (j : Journal). j.file) is.log_is

run_at : {now next : Choice} {log : Journal} {old mid : View} → IsReset now next log
    → LeavesOnly old mid (IsAfter (Differs log.file) old)
    → LeavesOnly old mid (IsAfter (Differs next.log) old)
run_at {old = old} {mid = mid} is run = subst (λ (f : ℕ). LeavesOnly old mid (IsAfter (Differs f) old)) (file_of is) run

newer_of : {now next : Choice} {log : Journal} {old : View} (k : Kept) → IsUnder now k old → IsReset now next log
    → k.control.format ≡ 2
newer_of k under is = ap (λ (c : Choice). c.format) under.control_is ∙ is.newer

spare_of : {now next : Choice} {log : Journal} {old : View} (k : Kept) → IsUnder now k old → IsReset now next log
    → IsSpareFor k.control next.log
spare_of {next = next} k under is = subst (λ (c : Choice). IsSpareFor c next.log) (sym under.control_is) is.spare

rewritten_switches : {now next : Choice} {log : Journal} {old mid new : View} (k : Kept) (under : IsUnder now k old)
    → IsRewritten now next log old mid new
    → Switches (found_with k under.on.cells)
    (after_reset next.log next.base next.size next.block (found_with k under.on.cells)) next.log old mid new
rewritten_switches {now} {next} {log} {old} {mid} {new} k under is =
    let by_now : LeavesOnly mid new (LeavesEither (Is k.control) (Is next) mid) =
    subst (λ (c : Choice). LeavesOnly mid new (LeavesEither (Is c) (Is next) mid)) (sym under.control_is) is.switch in
    let next_is : next ≡ reset_choice next.log next.base next.size next.block k.control =
    is.reset.next_is ∙ ap (reset_choice next.log next.base next.size next.block) (sym under.control_is) in
    reset_switches k next.log next.base next.size next.block under.on (newer_of k under is.reset)
    (spare_of k under is.reset) is.reset.some (run_at is.reset is.run)
    (subst (λ (j : Journal). HasLog j mid) is.reset.log_is is.has)
    (subst (λ (c : Choice). LeavesOnly mid new (LeavesEither (Is k.control) (Is c) mid)) next_is by_now)

pub reset_leaves : {now next : Choice} {log : Journal} {old mid new : View} (k : Kept) → IsUnder now k old
    → IsRewritten now next log old mid new
    → LeavesOnly old new (LeavesPart (place_kept k) (log_anew next.base next.size next.block (place_kept k) ∷ []))
reset_leaves {next = next} k under is =
    let here = place_is k under.on.cells under.on.rows in
    placed_run (rewritten_switches k under is) here (ap (log_anew next.base next.size next.block) here)

pub reset_begins : {now next : Choice} {log : Journal} {old mid : View} (k : Kept) → IsUnder now k old
    → IsReset now next log
    → LeavesOnly old mid (IsAfter (Differs log.file) old)
    → LeavesOnly old mid (LeavesPart (place_kept k) (log_anew next.base next.size next.block (place_kept k) ∷ []))
reset_begins {next = next} k under is run =
    spare_placed (log_anew next.base next.size next.block (place_kept k))
    (found_with k under.on.cells) next.log under.on.stands.done (spare_of k under is) under.on.stands.each
    (place_is k under.on.cells under.on.rows) (run_at is run)

pub reset_on : {now next : Choice} {log : Journal} {old mid new : View} (k : Kept) → IsUnder now k old
    → IsRewritten now next log old mid new
    → IsDurable log.file mid → ReadsOthers log.file old mid → IsInForce (Is next) mid new
    → IsOnDisk (with_log next log k) new
reset_on {now} {next} {log} {old} {mid} {new} k under is durable others set =
    let next_is : next ≡ reset_choice next.log next.base next.size next.block k.control =
    is.reset.next_is ∙ ap (reset_choice next.log next.base next.size next.block) (sym under.control_is) in
    let file = file_of is.reset in
    let made : IsOnDisk (with_log (reset_choice next.log next.base next.size next.block k.control)
    (begun next.log next.base next.size next.block) k) new =
    reset_begun_on k next.log next.base next.size next.block under.on under.chosen (rewritten_switches k under is)
    (subst (λ (j : Journal). HasLog j mid) is.reset.log_is is.has) (subst (λ (f : ℕ). IsDurable f mid) file durable)
    (subst (λ (f : ℕ). ReadsOthers f old mid) file others)
    (subst (λ (c : Choice). IsInForce (Is c) mid new) next_is set) in
    subst (λ (c : Choice). IsOnDisk (with_log c log k) new) (sym next_is)
    (subst (λ (j : Journal). IsOnDisk (with_log (reset_choice next.log next.base next.size next.block k.control) j k)
    new) (sym is.reset.log_is) made)

pub reset_force : {now next : Choice} {log : Journal} {old mid : View} → IsReset now next log → HasInForce (Is now) old
    → LeavesOnly old mid (IsAfter (Differs log.file) old) → HasInForce (Is now) mid
reset_force {now} {next} is has run = force_kept now next.log is.spare.control has (run_at is run)

-- ---- another stash

stash_switches : {old mid new : View} (k : Kept) (file : ℕ) (bytes : List ℕ) (on : IsOnDisk k old)
    → IsSpareFor k.control file
    → LeavesOnly old mid (IsAfter (Differs file) old) → Replaced file bytes old mid
    → LeavesOnly mid new (LeavesEither (Is k.control) (Is (stash_choice file k.control)) mid)
    → Switches (found_with k on.cells) (after_stash file bytes (found_with k on.cells)) file old mid new
stash_switches k file bytes on spare run replaced switch = record {
  done = on.stands.done;
  next_done = on.stands.done;
  files = on.stands.files;
  next_files = record {
    image = on.stands.files.image;
    log = on.stands.files.log;
    apart = on.stands.files.apart;
    stash = λ used. (λ e. spare.log (sym e), λ e. spare.image (sym e));
    size = on.stands.files.size;
  };
  spare = spare;
  stands = on.stands.each;
  would = λ c now would. stash_would (found_with k on.cells) c file bytes spare.control would (replaced.durable c now);
  run = run;
  switch = switch;
}

-- What is known of the run that writes it.
pub record IsRestashed (now next : Choice) (bytes : List ℕ) (old mid new : View) : Type 0 where
  pub next_is : next ≡ stash_choice next.stash now
  pub spare : IsSpareFor now next.stash
  pub run : LeavesOnly old mid (IsAfter (Differs next.stash) old)
  pub replaced : Replaced next.stash bytes old mid
  pub switch : LeavesOnly mid new (LeavesEither (Is now) (Is next) mid)

pub stash_spare : {now : Choice} {old : View} (file : ℕ) (k : Kept) → IsUnder now k old → IsSpareFor now file
    → IsSpareFor k.control file
stash_spare file k under spare = subst (λ (c : Choice). IsSpareFor c file) (sym under.control_is) spare

stash_next : {now : Choice} {old : View} (next : Choice) (k : Kept) → IsUnder now k old
    → next ≡ stash_choice next.stash now → next ≡ stash_choice next.stash k.control
stash_next next k under is = is ∙ ap (stash_choice next.stash) (sym under.control_is)

restashed_switches : {now next : Choice} {bytes : List ℕ} {old mid new : View} (k : Kept) (under : IsUnder now k old)
    → IsRestashed now next bytes old mid new
    → Switches (found_with k under.on.cells) (after_stash next.stash bytes (found_with k under.on.cells))
    next.stash old mid new
restashed_switches {now} {next} {bytes} {old} {mid} {new} k under is =
    let by_now : LeavesOnly mid new (LeavesEither (Is k.control) (Is next) mid) =
    subst (λ (c : Choice). LeavesOnly mid new (LeavesEither (Is c) (Is next) mid)) (sym under.control_is) is.switch in
    stash_switches k next.stash bytes under.on (stash_spare next.stash k under is.spare) is.run is.replaced
    (subst (λ (c : Choice). LeavesOnly mid new (LeavesEither (Is k.control) (Is c) mid))
    (stash_next next k under is.next_is) by_now)

pub stash_leaves : {now next : Choice} {bytes : List ℕ} {old mid new : View} (k : Kept) → IsUnder now k old
    → IsRestashed now next bytes old mid new
    → LeavesOnly old new (LeavesPart (place_kept k) (restashed bytes (place_kept k) ∷ []))
stash_leaves {bytes = bytes} k under is =
    let here = place_is k under.on.cells under.on.rows in
    placed_run (restashed_switches k under is) here (ap (restashed bytes) here)

pub stash_begins : {now : Choice} {old mid : View} (file : ℕ) (bytes : List ℕ) (k : Kept) → IsUnder now k old
    → IsSpareFor now file
    → LeavesOnly old mid (IsAfter (Differs file) old)
    → LeavesOnly old mid (LeavesPart (place_kept k) (restashed bytes (place_kept k) ∷ []))
stash_begins file bytes k under spare run =
    spare_placed (restashed bytes (place_kept k)) (found_with k under.on.cells) file under.on.stands.done
    (stash_spare file k under spare) under.on.stands.each
    (place_is k under.on.cells under.on.rows) run

seen_beside : {old mid : View} {file : ℕ} {bytes : List ℕ} (g : ℕ) → g ≢ file → Replaced file bytes old mid
    → mid.seen g ≡ old.seen g
seen_beside {old} {mid} {file} {bytes} g other replaced =
    ap (λ (files : Files). files g) replaced.seen ∙ with_file-other file g bytes old.seen other

pub stash_on : {now next : Choice} {bytes : List ℕ} {old mid new : View} (k : Kept) → IsUnder now k old
    → IsRestashed now next bytes old mid new
    → IsInForce (Is next) mid new → IsOnDisk (with_stash next bytes k) new
stash_on {now} {next} {bytes} {old} {mid} {new} k under is set =
    let on = under.on in
    let next_is = stash_next next k under is.next_is in
    let switches = restashed_switches k under is in
    let spare = stash_spare next.stash k under is.spare in
    let log_other : k.log.file ≢ next.stash = λ e. spare.log (sym under.chosen.log ∙ e) in
    let log_some : k.log.file ≢ 0 = λ e. on.stands.files.log (sym under.chosen.log ∙ e) in
    let cells_other : k.cells.file ≢ next.stash = λ e. spare.image (sym under.chosen.image ∙ e) in
    let durable = durable_beside {old = old} {mid = mid} k.log.file next.stash log_other
    (seen_beside k.log.file log_other is.replaced) on.durable is.run in
    let made : IsOnDisk (with_stash (stash_choice next.stash k.control) bytes k) new = record {
      cells = on.cells;
      rows = on.rows;
      file = tie_after old k (sheet_with k on.cells) (λ e. on.stands.files.image (sym under.chosen.image ∙ e)) set
          (seen_beside k.cells.file cells_other is.replaced) on.file;
      stands = holds_next switches (subst (λ (c : Choice). IsInForce (Is c) mid new) next_is set);
      log = log_after k.log log_some is.switch (log_beside k.log next.stash log_other on.log is.run);
      durable = durable_after k.log.file log_some is.switch set durable;
    } in
    subst (λ (c : Choice). IsOnDisk (with_stash c bytes k) new) (sym next_is) made

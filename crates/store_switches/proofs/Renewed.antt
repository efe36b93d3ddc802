-- The rows and the log are written anew into the spare files, and the choice that names both is put into force.
use Rattle.std.proofs.Common.{◌≡◌, ◌≢◌, ℕ, ◌<◌, List, [], ◌∷◌, Ok, refl, sym, ap, subst, ◌∙◌}
use Rattle.kdb_base.specs.declared.moments.Point.{Point}
use Rattle.kdb_disk.specs.Files.{Files}
use Rattle.kdb_disk.specs.View.{View, IsAfter}
use Rattle.kdb_disk.specs.Moments.{LeavesOnly, Differs, Replaced}
use Rattle.kdb_disk.proofs.Puts.{with_file-same}
use Rattle.kdb_disk.proofs.Runs.{then_on, at_end}
use Rattle.kdb_control.specs.Choice.{Choice}
use Rattle.kdb_control.specs.declared.force.Force.TheVariants.{Is}
use Rattle.kdb_control.specs.Moments.{HasInForce, LeavesEither, IsInForce}
use Rattle.princ_rows.specs.Rows.{RowLists}
use Rattle.update_log.specs.Logs.{Journal, begun, HoldsIn, marker_of}
use Rattle.update_log.specs.Moments.{HasLog, IsDurable, ReadsOthers}
use Rattle.kdb_cells.specs.FileCells.{IsFileOf}
use Rattle.kdb_cells.specs.Sheets.{Sheet, sheet_in}
use Rattle.cell_files.specs.NewFiles.{NewCells, sheet_for}
use Rattle.cell_files.proofs.KeptRows.{rows_kept}
use Rattle.store_files.specs.Found.{Found, stash_in}
use Rattle.store_files.specs.Kept.{Kept, IsOnDisk, place_kept, found_with}
use Rattle.store_files.specs.Recovery.{LeavesPart}
use Rattle.store_files.specs.Standing.{Would, StandsOnDisk}
use Rattle.store_files.specs.Switches.{IsSpareFor}
use Rattle.store_files.proofs.Committing.{log_reads}
use Rattle.store_files.proofs.Placed.{place_is}
use Rattle.store_switches.specs.Switched.{IsUnder}
use Rattle.store_switches.specs.Renewed.{renewed_choice, after_renewal, place_renewed, renewed, IsRenewal, HasRows}
use Rattle.store_switches.proofs.Switched.{Switches, other_file, spare_run, spare_placed, placed_run, holds_next}
use Rattle.store_switches.proofs.Switched.{force_kept, log_after, durable_after, turned, stash_spare as spare_at}

-- ---- what would stand

renewed_would : (o : Found) (c : Files) (image log : ℕ) (base : Point) (size block : ℕ) (sheet : Sheet) → Would o c
    → HoldsIn base size block (marker_of base ∷ []) (c log) → sheet_in 2 (c image) ≡ Ok sheet
    → Would (after_renewal image log base size block sheet o) c
unfolding stash_in
renewed_would o c image log base size block sheet would holds read = record {
  log = log_reads 2 base size block (marker_of base ∷ []) (c log) refl holds;
  sheet = read;
  stash = would.stash;
}

-- ---- the run, where the choices are those of what is kept

run_in : {old new : View} {a b : ℕ} → a ≡ b → LeavesOnly old new (IsAfter (Differs a) old)
    → LeavesOnly old new (IsAfter (Differs b) old)
run_in {old} {new} is run = subst (λ (f : ℕ). LeavesOnly old new (IsAfter (Differs f) old)) is run

-- all stands while the spare file of cells is written
stands_still : {old mid : View} (k : Kept) (on : IsOnDisk k old) (image : ℕ) → IsSpareFor k.control image
    → LeavesOnly old mid (IsAfter (Differs image) old)
    → (c : Files) → mid.images c → StandsOnDisk (found_with k on.cells) c
stands_still k on image spare run c now =
    at_end (spare_run (found_with k on.cells) image spare on.stands.each run) c now

renewal_switches : {old mid late new : View} (k : Kept) (on : IsOnDisk k old) (image log : ℕ) (base : Point)
    (size block : ℕ) (sheet : Sheet)
    → IsSpareFor k.control image → IsSpareFor k.control log → log ≢ image → 0 < size
    → LeavesOnly old mid (IsAfter (Differs image) old) → ((c : Files) → mid.images c → sheet_in 2 (c image) ≡ Ok sheet)
    → LeavesOnly mid late (IsAfter (Differs log) mid) → HasLog (begun log base size block) late
    → LeavesOnly late new (LeavesEither (Is k.control) (Is (renewed_choice image log base size block k.control)) late)
    → Switches (found_with k on.cells) (after_renewal image log base size block sheet (found_with k on.cells))
    log mid late new
renewal_switches k on image log base size block sheet spare spare_log apart some run reads more has switch = record {
  done = on.stands.done;
  next_done = refl;
  files = on.stands.files;
  next_files = record {
    image = spare.control;
    log = spare_log.control;
    apart = apart;
    stash = λ used. (spare_log.stash used, spare.stash used);
    size = some;
  };
  spare = spare_log;
  stands = stands_still k on image spare run;
  would = λ c now would.
      let from = at_end more c now in
      renewed_would (found_with k on.cells) c image log base size block sheet would (has.each c now)
      (ap (sheet_in 2) (other_file (turned apart) from) ∙ reads from.before from.was);
  run = more;
  switch = switch;
}

on_renewed : {old mid late new : View} (k : Kept) (on : IsOnDisk k old) (log : ℕ) (base : Point) (size block : ℕ)
    (realm : List ℕ) (rows : RowLists) (image : NewCells)
    → HasRows realm rows image
    → Switches (found_with k on.cells)
    (after_renewal image.cells.file log base size block (sheet_for realm rows) (found_with k on.cells)) log mid late new
    → mid.seen image.cells.file ≡ image.content → HasLog (begun log base size block) late → IsDurable log late
    → ReadsOthers log mid late
    → IsInForce (Is (renewed_choice image.cells.file log base size block k.control)) late new
    → IsOnDisk (renewed (renewed_choice image.cells.file log base size block k.control)
    (begun log base size block) image.cells realm rows k) new
on_renewed k on log base size block realm rows image rows_in is content has durable others set =
    let file = image.cells.file in
    let files = is.next_files in
    record {
      cells = (sheet_for realm rows).cells;
      rows = rows_kept realm rows rows_in.sound;
      file = subst (IsFileOf image.cells (sheet_for realm rows))
          (sym (set.others file files.image ∙ others file (turned files.apart) ∙ content)) rows_in.cells;
      stands = holds_next is set;
      log = log_after (begun log base size block) files.log is.switch has;
      durable = durable_after log files.log is.switch set durable;
    }

-- ---- the run of the calls

-- What is known of what is to be written.
pub record IsToRenew (now next : Choice) (image : NewCells) (log : Journal) : Type 0 where
  pub renewal : IsRenewal now next
  pub file_is : image.cells.file ≡ next.image
  pub log_is : log ≡ begun next.log next.base next.size next.block

-- and of the run that writes it
pub record IsRenewed (now next : Choice) (image : NewCells) (log : Journal) (old mid late new : View) : Type 0 where
  pub to : IsToRenew now next image log
  pub image_run : LeavesOnly old mid (IsAfter (Differs image.cells.file) old)
  pub written : Replaced image.cells.file image.content old mid
  pub log_run : LeavesOnly mid late (IsAfter (Differs log.file) mid)
  pub has : HasLog log late
  pub switch : LeavesOnly late new (LeavesEither (Is now) (Is next) late)

log_file : {now next : Choice} {image : NewCells} {log : Journal} → IsToRenew now next image log → log.file ≡ next.log
log_file to = ap (λ (j : Journal). j.file) to.log_is

image_spare : {now next : Choice} {image : NewCells} {log : Journal} {old : View} (k : Kept) → IsUnder now k old
    → IsToRenew now next image log → IsSpareFor k.control image.cells.file
image_spare {next = next} {image = image} k under to =
    subst (λ (f : ℕ). IsSpareFor k.control f) (sym to.file_is) (spare_at next.image k under to.renewal.image)

choice_at : {now next : Choice} {image : NewCells} {log : Journal} {old : View} (k : Kept) → IsUnder now k old
    → IsToRenew now next image log
    → next ≡ renewed_choice image.cells.file next.log next.base next.size next.block k.control
choice_at {next = next} {image = image} k under to =
    to.renewal.next_is
    ∙ ap (λ (c : Choice). renewed_choice next.image next.log next.base next.size next.block c) (sym under.control_is)
    ∙ ap (λ (f : ℕ). renewed_choice f next.log next.base next.size next.block k.control) (sym to.file_is)

pub image_begins : {now next : Choice} {image : NewCells} {log : Journal} {old mid : View} (k : Kept) (realm : List ℕ)
    (rows : RowLists) → IsUnder now k old
    → IsToRenew now next image log → LeavesOnly old mid (IsAfter (Differs image.cells.file) old)
    → LeavesOnly old mid
    (LeavesPart (place_kept k) (place_renewed next.base next.size next.block realm rows (place_kept k) ∷ []))
image_begins {next = next} {image = image} k realm rows under to run =
    spare_placed (place_renewed next.base next.size next.block realm rows (place_kept k))
    (found_with k under.on.cells) image.cells.file under.on.stands.done (image_spare k under to) under.on.stands.each
    (place_is k under.on.cells under.on.rows) run

pub log_begins : {now next : Choice} {image : NewCells} {log : Journal} {old mid late : View} (k : Kept)
    (realm : List ℕ) (rows : RowLists) → IsUnder now k old
    → IsToRenew now next image log → LeavesOnly old mid (IsAfter (Differs image.cells.file) old)
    → LeavesOnly mid late (IsAfter (Differs log.file) mid)
    → LeavesOnly old late
    (LeavesPart (place_kept k) (place_renewed next.base next.size next.block realm rows (place_kept k) ∷ []))
log_begins {next = next} {image = image} k realm rows under to run more =
    let after = place_renewed next.base next.size next.block realm rows (place_kept k) in
    let stands = stands_still k under.on image.cells.file (image_spare k under to) run in
    then_on (image_begins k realm rows under to run)
    (spare_placed after (found_with k under.on.cells) next.log under.on.stands.done
    (spare_at next.log k under to.renewal.log) stands (place_is k under.on.cells under.on.rows)
    (run_in (log_file to) more))
    (λ c part. part)

pub renewal_force : {now next : Choice} {image : NewCells} {log : Journal} {old mid late : View}
    → IsToRenew now next image log → HasInForce (Is now) old
    → LeavesOnly old mid (IsAfter (Differs image.cells.file) old) → LeavesOnly mid late (IsAfter (Differs log.file) mid)
    → HasInForce (Is now) late
renewal_force {now} {next} to has run more =
    force_kept now next.log to.renewal.log.control
    (force_kept now next.image to.renewal.image.control has (run_in to.file_is run)) (run_in (log_file to) more)

run_switches : {now next : Choice} {image : NewCells} {log : Journal} {old mid late new : View} (k : Kept)
    (realm : List ℕ) (rows : RowLists) (under : IsUnder now k old)
    → HasRows realm rows image → IsRenewed now next image log old mid late new
    → Switches (found_with k under.on.cells) (after_renewal image.cells.file next.log next.base next.size next.block
    (sheet_for realm rows) (found_with k under.on.cells)) next.log mid late new
run_switches {now} {next} {image} {log} {old} {mid} {late} {new} k realm rows under rows_in is =
    let to = is.to in
    let by_now : LeavesOnly late new (LeavesEither (Is k.control) (Is next) late) =
    subst (λ (c : Choice). LeavesOnly late new (LeavesEither (Is c) (Is next) late)) (sym under.control_is) is.switch in
    renewal_switches k under.on image.cells.file next.log next.base next.size next.block (sheet_for realm rows)
    (image_spare k under to) (spare_at next.log k under to.renewal.log)
    (λ e. to.renewal.apart (e ∙ to.file_is)) to.renewal.some is.image_run
    (λ c now. ap (sheet_in 2) (is.written.durable c now)
    ∙ ap (λ (f : ℕ). sheet_in f image.content) (sym rows_in.format_is) ∙ rows_in.cells.read)
    (run_in (log_file to) is.log_run) (subst (λ (j : Journal). HasLog j late) to.log_is is.has)
    (subst (λ (c : Choice). LeavesOnly late new (LeavesEither (Is k.control) (Is c) late))
    (choice_at k under to) by_now)

pub renewal_leaves : {now next : Choice} {image : NewCells} {log : Journal} {old mid late new : View} (k : Kept)
    (realm : List ℕ) (rows : RowLists) → IsUnder now k old
    → HasRows realm rows image → IsRenewed now next image log old mid late new
    → LeavesOnly old new
    (LeavesPart (place_kept k) (place_renewed next.base next.size next.block realm rows (place_kept k) ∷ []))
renewal_leaves {next = next} k realm rows under rows_in is =
    let place = place_renewed next.base next.size next.block realm in
    then_on (image_begins k realm rows under is.to is.image_run)
    (placed_run (run_switches k realm rows under rows_in is) (place_is k under.on.cells under.on.rows)
    (ap (λ (r : RowLists). place r (place_kept k)) (rows_kept realm rows rows_in.sound)))
    (λ c part. part)

content_read : {file : ℕ} {content : List ℕ} {old mid : View} → Replaced file content old mid → mid.seen file ≡ content
content_read {file} {content} {old} written =
    ap (λ (files : Files). files file) written.seen ∙ with_file-same file content old.seen

pub renewal_on : {now next : Choice} {image : NewCells} {log : Journal} {old mid late new : View} (k : Kept)
    (realm : List ℕ) (rows : RowLists) → IsUnder now k old
    → HasRows realm rows image → IsRenewed now next image log old mid late new → IsDurable log.file late
    → ReadsOthers log.file mid late → IsInForce (Is next) late new
    → IsOnDisk (renewed next log image.cells realm rows k) new
renewal_on {now} {next} {image} {log} {old} {mid} {late} {new} k realm rows under rows_in is durable others set =
    let to = is.to in
    let file = log_file to in
    let next_is = choice_at k under to in
    let choice = renewed_choice image.cells.file next.log next.base next.size next.block k.control in
    let made : IsOnDisk (renewed choice (begun next.log next.base next.size next.block) image.cells realm rows k) new =
    on_renewed k under.on next.log next.base next.size next.block realm rows image rows_in
    (run_switches k realm rows under rows_in is) (content_read is.written)
    (subst (λ (j : Journal). HasLog j late) to.log_is is.has)
    (subst (λ (f : ℕ). IsDurable f late) file durable)
    (subst (λ (f : ℕ). ReadsOthers f mid late) file others)
    (subst (λ (c : Choice). IsInForce (Is c) late new) next_is set) in
    subst (λ (c : Choice). IsOnDisk (renewed c log image.cells realm rows k) new) (sym next_is)
    (subst (λ (j : Journal). IsOnDisk (renewed choice j image.cells realm rows k) new) (sym to.log_is) made)

-- the file of cells then reads as it was written
pub image_stays : {now next : Choice} {image : NewCells} {log : Journal} {old mid late new : View}
    → IsToRenew now next image log
    → Replaced image.cells.file image.content old mid → ReadsOthers log.file mid late → IsInForce (Is next) late new
    → new.seen next.image ≡ image.content
image_stays {next = next} {image = image} {log = log} {mid = mid} {late = late} to written others set =
    set.others next.image to.renewal.image.control
    ∙ subst (λ (f : ℕ). ReadsOthers f mid late) (log_file to) others next.image (turned to.renewal.apart)
    ∙ ap mid.seen (sym to.file_is) ∙ content_read written

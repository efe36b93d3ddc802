-- What stands of a database that is made anew, before and after it is put into force.
use Rattle.std.proofs.Common.{◌≡◌, ◌≢◌, ℕ, ◌<◌, ◌≤◌, inl, inr, ⊎_elim, Bool, true, false, List, [], ◌∷◌}
use Rattle.std.proofs.Common.{◌++◌, length, Option, Some, None, Ok, refl, sym, ap, subst, ◌∙◌, arith}
use Rattle.std.specs.Prelude.{not, nat_eq, ◌||◌}
use Rattle.std.specs.List.{All}
use Rattle.std.proofs.lemmas.List.Elements.{All-from_recursion}
use Rattle.kdb_base.specs.declared.moments.Point.{Point}
use Rattle.kdb_disk.specs.Files.{Files}
use Rattle.kdb_disk.specs.View.{View, IsAfter}
use Rattle.kdb_disk.specs.Moments.{LeavesOnly, Differs, Replaced}
use Rattle.kdb_disk.proofs.Runs.{weaken, then_on, at_end}
use Rattle.kdb_control.specs.Choice.{Choice}
use Rattle.kdb_control.specs.Force.{in_force}
use Rattle.kdb_control.specs.declared.force.Force.{Force}
use Rattle.kdb_control.specs.declared.force.Force.TheVariants.{Nothing, Is}
use Rattle.kdb_control.specs.Moments.{LeavesEither, IsInForce}
use Rattle.princ_rows.specs.declared.entries.Logged.{Logged}
use Rattle.update_log.specs.Logs.{Journal, Holds, HoldsIn, marker_of}
use Rattle.update_log.specs.Moments.{HasLog, IsDurable}
use Rattle.update_log.specs.Runs.{stands_in, stands_in_1, log_in}
use Rattle.update_log.proofs.Readings.{reads_logs}
use Rattle.kdb_cells.specs.Sheets.{sheet_in}
use Rattle.cell_files.specs.NewFiles.{NewCells}
use Rattle.store_files.specs.Found.{Found}
use Rattle.store_files.specs.Standing as standing
use Rattle.store_files.specs.Standing.{IsDone, HasFiles, Would, StandsOnDisk}
use Rattle.store_files.proofs.Finding.{stands_found}
use Rattle.store_opening.specs.Made.{Making, first_stash, made_choice, made_found}
use Rattle.store_opening.specs.Moments.{HasFile, HasStash, IsQuiet, FindsMade}
use Rattle.store_opening.specs.Parts.{IsToBeMade}
use Rattle.store_opening.proofs.Quiet.{found_none, stash_alike, quiet_run, quiet_then}
use Rattle.store_opening.proofs.Quiet.{file_written, file_stays, stash_stays}

-- ---- what would be found

-- the base marker may stand in each format
marker_stands : (format : ℕ) (base : Point) → stands_in format (marker_of base) ≡ true
unfolding stands_in_1
marker_stands format base = by (not (nat_eq format 1))
  where
    by : (b : Bool) → (b || true) ≡ true
    by true = refl
    by false = refl

none_older : (base : Point) (size block : ℕ) (file : List ℕ) → 2 ≤ size
    → (holds : HoldsIn base size block (marker_of base ∷ []) file) → holds.older ≡ []
none_older base size block file some holds = by holds.older holds.full
  where
    by : (l : List Logged) → (0 < length l → length (marker_of base ∷ []) ≡ size) → l ≡ []
    by [] full = refl
    by (x ∷ xs) full = let one = full (omega arith) in absurd (omega (arith, one, some))

-- a log that was begun is read so
begun_read : (format : ℕ) (base : Point) (size block : ℕ) (file : List ℕ) → 2 ≤ size
    → HoldsIn base size block (marker_of base ∷ []) file → log_in format base size block file ≡ Ok (marker_of base ∷ [])
begun_read format base size block file some holds =
    let all : All (λ (l : Logged). stands_in format l ≡ true) (marker_of base ∷ []) =
    All-from_recursion (λ (l : Logged). stands_in format l ≡ true) (marker_of base ∷ []) (
      marker_stands format base,
      tt,
    ) in
    reads_logs format base size block (marker_of base ∷ []) file holds
    (subst (λ (older : List Logged). All (λ (l : Logged). stands_in format l ≡ true) (older ++ (marker_of base ∷ [])))
    (sym (none_older base size block file some holds)) all)

-- What stands once the files are written.
pub record AreWritten (m : Making) (content : List ℕ) (log : Journal) (v : View) : Type 0 where
  pub file : HasFile 1 content v
  pub log_stands : HasLog log v
  pub stash : HasStash (made_choice m) m.stash v

pub would_made : (m : Making) (control : Choice) (image : NewCells) (log : Journal) (stash : Option (List ℕ)) (v : View)
    → IsToBeMade m control image log stash → AreWritten m image.content log v → (c : Files) → v.images c
    → Would (made_found m) c
would_made m control image log stash v to written c now = record {
  log = begun_read m.format m.base m.size m.block (c 3) to.some
      (subst (λ (j : Journal). Holds j (c j.file)) to.log_is (written.log_stands.each c now));
  sheet = ap (sheet_in m.format) (written.file c now) ∙ ap (λ (f : ℕ). sheet_in f image.content) (sym to.format_is)
      ∙ to.cells.read;
  stash = written.stash c now;
}

-- ---- the choice

pub done_made : (m : Making) → IsDone (made_found m)
done_made m = refl

first_apart : (stash : Option (List ℕ)) → first_stash stash ≢ 0 → (first_stash stash ≢ 3) × (first_stash stash ≢ 1)
first_apart (Some bytes) some = (λ e. absurd (omega (arith, e)), λ e. absurd (omega (arith, e)))
first_apart None some = absurd (some refl)

pub files_made : (m : Making) → 2 ≤ m.size → HasFiles (made_choice m)
files_made m some = record {
  image = λ e. absurd (omega (arith, e));
  log = λ e. absurd (omega (arith, e));
  apart = λ e. absurd (omega (arith, e));
  stash = first_apart m.stash;
  size = omega (arith, some);
}

-- ---- it is put into force

would_alike : (o : Found) (a b : Files) → HasFiles o.control → ((g : ℕ) → g ≢ 0 → b g ≡ a g) → Would o a → Would o b
would_alike o a b files same would = record {
  log = ap (λ (f : List ℕ). log_in o.control.format o.control.base o.control.size o.control.block f)
      (same o.control.log files.log) ∙ would.log;
  sheet = ap (sheet_in o.control.format) (same o.control.image files.image) ∙ would.sheet;
  stash = stash_alike o.control b a (λ some. same o.control.stash some) ∙ would.stash;
}

made_now : (o : Found) (a c : Files) → HasFiles o.control → Would o a → ((g : ℕ) → g ≢ 0 → c g ≡ a g)
    → in_force (c 0) ≡ Is o.control → StandsOnDisk o c
made_now o a c files would same force = record { force = force; would = would_alike o a c files same would }

pub switched : {mid new : View} (o : Found) → IsDone o → HasFiles o.control → ((c : Files) → mid.images c → Would o c)
    → LeavesOnly mid new (LeavesEither Nothing (Is o.control) mid) → LeavesOnly mid new (FindsMade o)
switched o done files would switch = weaken {P = FindsMade o} switch (λ c either. ⊎_elim
    (λ l. inl (found_none c l.here))
    (λ l. inr (stands_found o c done (made_now o l.before c files (would l.before l.was) l.others l.here)))
    either)

pub quiet_made : {old mid new : View} (o : Found) → IsQuiet old mid → LeavesOnly mid new (FindsMade o)
    → LeavesOnly old new (FindsMade o)
quiet_made o quiet next = then_on (weaken {P = FindsMade o} quiet.moments (λ c none. inl none)) next (λ c made. made)

pub quiet_yet : {old mid : View} (o : Found) → IsQuiet old mid → LeavesOnly old mid (FindsMade o)
quiet_yet o quiet = weaken {P = FindsMade o} quiet.moments (λ c none. inl none)

-- the files but the control file are those of before
same_files : {mid new : View} {one other : Force} → LeavesOnly mid new (LeavesEither one other mid) → (c : Files)
    → new.images c → (b : Files) × (mid.images b × ((g : ℕ) → g ≢ 0 → c g ≡ b g))
same_files switch c now =
    ⊎_elim (λ l. (l.before, (l.was, l.others))) (λ l. (l.before, (l.was, l.others))) (at_end switch c now)

pub holds_made : {mid new : View} (o : Found) → IsDone o → HasFiles o.control → ((c : Files) → mid.images c → Would o c)
    → LeavesOnly mid new (LeavesEither Nothing (Is o.control) mid) → IsInForce (Is o.control) mid new
    → standing.Holds o new
holds_made {mid} {new} o done files would switch set = record {
  done = done;
  files = files;
  each = λ c now.
      let b = same_files switch c now in
      made_now o b.0 c files (would b.0 b.1.0) b.1.1 (ap in_force (set.durable c now) ∙ set.here);
}

pub file_after : {mid new : View} {one other : Force} (g : ℕ) (x : List ℕ) → g ≢ 0
    → LeavesOnly mid new (LeavesEither one other mid) → HasFile g x mid → HasFile g x new
file_after g x some switch has c now = let b = same_files switch c now in b.1.1 g some ∙ has b.0 b.1.0

pub log_after : {mid new : View} {one other : Force} (log : Journal) → log.file ≢ 0
    → LeavesOnly mid new (LeavesEither one other mid) → HasLog log mid → HasLog log new
log_after log some switch has = record {
  each = λ c now. let b = same_files switch c now in subst (Holds log) (sym (b.1.1 log.file some)) (has.each b.0 b.1.0);
}

pub durable_after : {mid new : View} {one other force : Force} (g : ℕ) → g ≢ 0
    → LeavesOnly mid new (LeavesEither one other mid) → IsInForce force mid new → IsDurable g mid → IsDurable g new
durable_after g some switch set was = record {
  durable = λ c now. let b = same_files switch c now in b.1.1 g some ∙ was.durable b.0 b.1.0 ∙ sym (set.others g some);
}

-- ---- the three files, one after the other

log_file : {m : Making} {control : Choice} {image : NewCells} {log : Journal} {stash : Option (List ℕ)}
    → IsToBeMade m control image log stash → log.file ≡ 3
log_file to = ap (λ (j : Journal). j.file) to.log_is

pub quiet_image : {m : Making} {control : Choice} {image : NewCells} {log : Journal}
    {stash : Option (List ℕ)} {old mid new : View} → IsToBeMade m control image log stash → IsQuiet old mid
    → LeavesOnly mid new (IsAfter (Differs image.cells.file) mid) → IsQuiet old new
quiet_image {image = image} to quiet run =
    quiet_then quiet (quiet_run image.cells.file (omega (arith, to.file)) quiet.nothing run)

pub quiet_log : {m : Making} {control : Choice} {image : NewCells} {log : Journal}
    {stash : Option (List ℕ)} {old mid new : View} → IsToBeMade m control image log stash → IsQuiet old mid
    → LeavesOnly mid new (IsAfter (Differs log.file) mid) → IsQuiet old new
quiet_log {log = log} to quiet run =
    quiet_then quiet (quiet_run log.file (omega (arith, log_file to)) quiet.nothing run)

-- what stands once they are written
pub written_all : {m : Making} {control : Choice} {image : NewCells} {log : Journal} {stash : Option (List ℕ)}
    {a b d : View} → IsToBeMade m control image log stash
    → ((choice : Choice) → choice.stash ≡ first_stash stash → HasStash choice stash a)
    → LeavesOnly a b (IsAfter (Differs image.cells.file) a) → Replaced image.cells.file image.content a b
    → LeavesOnly b d (IsAfter (Differs log.file) b) → HasLog log d
    → AreWritten m image.content log d
written_all {m} {control} {image} {log} {stash} {a} {b} {d} to kept run replaced next stands =
    let choice = made_choice m in
    let stash_a : HasStash choice m.stash a =
    subst (λ (s : Option (List ℕ)). HasStash choice s a) to.stash_is (kept choice (ap first_stash (sym to.stash_is))) in
    let at_1 : LeavesOnly a b (IsAfter (Differs 1) a) =
    subst (λ (f : ℕ). LeavesOnly a b (IsAfter (Differs f) a)) to.file run in
    let at_3 : LeavesOnly b d (IsAfter (Differs 3) b) =
    subst (λ (f : ℕ). LeavesOnly b d (IsAfter (Differs f) b)) (log_file to) next in
    let image_b : HasFile 1 image.content b =
    subst (λ (f : ℕ). HasFile f image.content b) to.file (file_written image.cells.file image.content replaced) in
    record {
      file = file_stays 3 1 image.content (λ e. absurd (omega (arith, e))) image_b at_3;
      log_stands = stands;
      stash = stash_stays 3 choice m.stash (λ some. (first_apart m.stash some).0)
          (stash_stays 1 choice m.stash (λ some. (first_apart m.stash some).1) stash_a at_1) at_3;
    }

-- the choice that is put into force
pub chosen_run : {m : Making} {control : Choice} {image : NewCells} {log : Journal} {stash : Option (List ℕ)}
    {mid new : View} → IsToBeMade m control image log stash → LeavesOnly mid new (LeavesEither Nothing (Is control) mid)
    → LeavesOnly mid new (LeavesEither Nothing (Is (made_choice m)) mid)
chosen_run {mid = mid} {new = new} to run =
    subst (λ (choice : Choice). LeavesOnly mid new (LeavesEither Nothing (Is choice) mid)) to.chosen run

pub chosen_set : {m : Making} {control : Choice} {image : NewCells} {log : Journal} {stash : Option (List ℕ)}
    {mid new : View} → IsToBeMade m control image log stash → IsInForce (Is control) mid new
    → IsInForce (Is (made_choice m)) mid new
chosen_set {mid = mid} {new = new} to set = subst (λ (choice : Choice). IsInForce (Is choice) mid new) to.chosen set

pub log_in_force : {m : Making} {control : Choice} {image : NewCells} {log : Journal}
    {stash : Option (List ℕ)} {mid new : View} {one other : Force} → IsToBeMade m control image log stash
    → LeavesOnly mid new (LeavesEither one other mid) → HasLog log mid → HasLog log new
log_in_force {log = log} to run has = log_after log (λ e. absurd (omega (arith, e, log_file to))) run has

pub durable_in_force : {m : Making} {control : Choice} {image : NewCells} {log : Journal}
    {stash : Option (List ℕ)} {mid new : View} {one other force : Force} → IsToBeMade m control image log stash
    → LeavesOnly mid new (LeavesEither one other mid) → IsInForce force mid new → IsDurable log.file mid
    → IsDurable 3 new
durable_in_force {mid = mid} to run set was =
    durable_after 3 (λ e. absurd (omega (arith, e))) run set (subst (λ (f : ℕ). IsDurable f mid) (log_file to) was)

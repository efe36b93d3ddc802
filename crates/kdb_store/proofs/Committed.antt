-- A committed change, by the place of what is kept.
use Rattle.std.proofs.Common.{◌≡◌, ◌≢◌, ℕ, ◌+◌, ◌-◌, ◌<◌, ◌≤◌, List, [], ◌∷◌, ◌++◌}
use Rattle.std.proofs.Common.{length, map, get_or, Some, sym, ap, subst, ◌∙◌, arith}
use Rattle.kdb_base.specs.Moment.{Moment}
use Rattle.kdb_base.specs.Moments.{micros}
use Rattle.kdb_base.specs.declared.moments.Point.{Point}
use Rattle.kdb_disk.specs.View.{View}
use Rattle.kdb_disk.specs.Moments.{LeavesOnly}
use Rattle.princ_rows.specs.declared.entries.Entry.{Entry}
use Rattle.princ_rows.specs.declared.entries.Logged.{Logged}
use Rattle.princ_rows.specs.declared.entries.Op.{Op}
use Rattle.princ_rows.specs.Rows.{RowLists}
use Rattle.princ_rows.specs.Effects.{effect}
use Rattle.kdb_cells.specs.CellFiles.{CellFile}
use Rattle.update_log.specs.Logs.{Journal, entry_of, marker_of}
use Rattle.kdb_places.specs.Places.{Place, no_point, point_of, next_point, last_entries, committed}
use Rattle.store_files.specs.Kept.{Kept, IsKept, IsOnDisk, place_kept, with_parts}
use Rattle.store_files.specs.Recovery.{LeavesPart}
use Rattle.store_files.proofs.Placed.{last_held}
use Rattle.kdb_store.specs.Parts.{StandsOn}
use Rattle.kdb_store.specs.Writes.{HasEntered}

kept_point : (k : Kept) (d : Logged) → 0 < length k.log.held
    → point_of (place_kept k) ≡ (get_or k.log.held (length k.log.held - 1) d).entry.point
kept_point k d some = last_held no_point k.log.held d some

-- the last serial is that of the place
pub serial_below : (k old : Kept) → k ≡ old → 0 < length k.log.held → (point_of (place_kept old)).sno < 4294967295
    → (d : Logged)
    → (get_or k.log.held (length k.log.held - 1) d).entry.point.sno < 4294967295
serial_below k old is some below d =
    subst (λ (q : Point). q.sno < 4294967295) (kept_point k d some)
    (subst (λ (x : Kept). (point_of (place_kept x)).sno < 4294967295) (sym is) below)

-- and the last time
pub time_behind : (k old : Kept) (time at : Moment) → k ≡ old → at ≡ time → 0 < length k.log.held
    → micros (point_of (place_kept old)).time ≤ micros time → (d : Logged)
    → micros (get_or k.log.held (length k.log.held - 1) d).entry.point.time ≤ micros at
time_behind k old time at is same some behind d =
    subst (λ (t : Moment). micros (get_or k.log.held (length k.log.held - 1) d).entry.point.time ≤ micros t) (sym same)
    (subst (λ (q : Point). micros q.time ≤ micros time) (kept_point k d some)
    (subst (λ (x : Kept). micros (point_of (place_kept x)).time ≤ micros time) (sym is) behind))

-- the point behind the last one is that of the next change
pub next_is : (k : Kept) (point : Point) → 0 < length k.log.held
    → ((d : Logged) → point.sno ≡ (get_or k.log.held (length k.log.held - 1) d).entry.point.sno + 1)
    → point ≡ next_point point.time (place_kept k)
next_is k point some serial =
    let d : Logged = marker_of point in
    ap (λ (n : ℕ). record { sno = n; time = point.time })
    (serial d ∙ ap (λ (q : Point). q.sno + 1) (sym (kept_point k d some)))

pub next_at : (k old : Kept) (point : Point) (time : Moment) → k ≡ old → point.time ≡ time → 0 < length k.log.held
    → ((d : Logged) → point.sno ≡ (get_or k.log.held (length k.log.held - 1) d).entry.point.sno + 1)
    → point ≡ next_point time (place_kept old)
next_at k old point time is same some serial =
    next_is k point some serial ∙ ap (λ (t : Moment). next_point t (place_kept k)) same
    ∙ ap (λ (x : Kept). next_point time (place_kept x)) is

pub log_apart : (k : Kept) → IsKept k → 3 ≤ k.log.file → k.control.image ≤ 2 → k.log.file ≢ k.cells.file
log_apart k is low high e = absurd (omega (arith, low, high, is.chosen.image, e))

pub stands_on : (k old : Kept) (point : Point) (now : View) → k ≡ old → IsKept k → IsOnDisk old now
    → 0 < length k.log.held
    → ((d : Logged) → point.sno ≡ (get_or k.log.held (length k.log.held - 1) d).entry.point.sno + 1)
    → StandsOn k.log k.cells k.rows k point now
stands_on k old point now is kept on some serial = record {
  chosen = kept.chosen;
  on = subst (λ (x : Kept). IsOnDisk x now) (sym is) on;
  next_is = next_is k point some serial;
}

-- ---- the place after a change

pub place_changed : (k old : Kept) (log : Journal) (cells : CellFile) (rows : RowLists) (op : Op) (point : Point)
    (time : Moment) → k ≡ old
    → k.log.size ≡ k.control.size → point ≡ next_point time (place_kept old) → rows ≡ effect (Some op) k.rows
    → map entry_of log.held ≡ last_entries k.log.size
    (map entry_of k.log.held ++ record { point = point; op = Some op } ∷ [])
    → place_kept (with_parts log cells rows k) ≡ committed op time (place_kept old)
place_changed k old log cells rows op point time is size at same held =
    let make : RowLists → List Entry → Place = λ (r : RowLists) (h : List Entry). record {
      realm = k.realm;
      rows = r;
      held = h;
      stash = k.stash;
      size = k.control.size;
      block = k.control.block;
      format = k.control.format;
    } in
    let entries : map entry_of log.held ≡ last_entries k.control.size
    (map entry_of k.log.held ++ record { point = next_point time (place_kept k); op = Some op } ∷ []) =
    held ∙ ap (λ (n : ℕ). last_entries n (map entry_of k.log.held ++ record { point = point; op = Some op } ∷ [])) size
    ∙ ap (λ (q : Point). last_entries k.control.size (map entry_of k.log.held ++ record {
      point = q;
      op = Some op;
    } ∷ [])) (at ∙ ap (λ (x : Kept). next_point time (place_kept x)) (sym is)) in
    ap (λ (r : RowLists). make r (map entry_of log.held)) same ∙ ap (make (effect (Some op) k.rows)) entries
    ∙ ap (λ (x : Kept). committed op time (place_kept x)) is

pub crash_told : {late new : View} (k old : Kept) (op : Op) (point : Point) (time : Moment) → k ≡ old
    → point.time ≡ time
    → LeavesOnly late new (LeavesPart (place_kept k) (committed op point.time (place_kept k) ∷ []))
    → LeavesOnly late new (LeavesPart (place_kept old) (committed op time (place_kept old) ∷ []))
crash_told {late} {new} k old op point time is same run =
    subst (λ (x : Kept). LeavesOnly late new (LeavesPart (place_kept x) (committed op time (place_kept x) ∷ []))) is
    (subst (λ (t : Moment). LeavesOnly late new (LeavesPart (place_kept k) (committed op t (place_kept k) ∷ []))) same
    run)

-- the entry that was made, of what is kept
pub entered_at : (k now : Kept) (op : Op) (p q : Point) (log : Journal) → k ≡ now → p ≡ q
    → HasEntered op p k.log log k.cells k.rows → HasEntered op q now.log log now.cells now.rows
entered_at k now op p q log is at entered =
    subst (λ (x : Kept). HasEntered op q x.log log x.cells x.rows) is
    (subst (λ (x : Point). HasEntered op x k.log log k.cells k.rows) at entered)

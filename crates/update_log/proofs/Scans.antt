-- What the bytes of a log are read as is what the log holds.
use Rattle.std.proofs.Common.{◌≡◌, ◌≢◌, ℕ, suc, ◌+◌, ◌-◌, ◌<◌, ◌≤◌, false, List, length}
use Rattle.std.proofs.Common.{get_or, Option, Some, None, refl, ◌∙◌, ap, subst, arith}
use Rattle.std.specs.Prelude.{Result, Ok}
use Rattle.std.specs.List.{All}
use Rattle.std.proofs.lemmas.Bool.{leb-false}
use Rattle.kdb_base.specs.declared.moments.Point.{Point}
use Rattle.princ_rows.specs.declared.entries.Logged.{Logged}
use Rattle.update_log.specs.Slots.{slot_of, slot_bytes, IsClosed, Stands}
use Rattle.update_log.specs.Logs.{IsLog, HoldsIn, newest, marker_of}
use Rattle.update_log.specs.Runs.{back, is_left, entry_in, is_wrong, if_whole}
use Rattle.update_log.specs.Runs.{run_in, if_right, last_upto, first_of, log_in}
use Rattle.update_log.proofs.Journals.{newest_holds}
use Rattle.update_log.proofs.Firsts.{LastIs, IsLast, last_is, none_first}
use Rattle.update_log.proofs.Entries.{slot_holds, slot_shut, there_entry, nothing_there}
use Rattle.update_log.proofs.Backward.{AreSlots, RunsTo, runs_back, back_few, last_at}

-- ---- a reading that gives entries

if_right_ok : (block : ℕ) (bad : Option ℕ) (found : Result (List Logged) ℕ) (held : List Logged)
    → if_right block bad found ≡ Ok held → (bad ≡ None) × (found ≡ Ok held)
if_right_ok block None found held is = (refl, is)
if_right_ok block (Some k) found held is = absurd cc

same_Ok : (a b : List Logged) → ◌≡◌ {A = Result (List Logged) ℕ} (Ok a) (Ok b) → a ≡ b
same_Ok a b is = cc

if_whole_ok : (size block : ℕ) (run : List Logged) (left : Option ℕ) (held : List Logged)
    → if_whole size block run left ≡ Ok held → (left ≡ None) × (newest size run ≡ held)
if_whole_ok size block run None held is = (refl, same_Ok (newest size run) held is)
if_whole_ok size block run (Some k) held is = absurd cc

-- What is known of slots in which a run stands.
pub record IsWhole (base : Point) (size : ℕ) (at : ℕ → Option Logged) (held : List Logged) : Type 0 where
  pub last : Logged
  pub is_last : IsLast at (size + 1) last
  pub all : (k : ℕ) → k < size + 1
      → is_left last.entry.point.sno (length (back base size at (size + 1) (Some last))) (at k) ≡ false
  pub newest_is : newest size (back base size at (size + 1) (Some last)) ≡ held

whole_from : (base : Point) (size block : ℕ) (at : ℕ → Option Logged) (o : Option Logged) (held : List Logged)
    → LastIs at (size + 1) o → run_in base size block at o ≡ Ok held → IsWhole base size at held
unfolding run_in
whole_from base size block at None held last is = absurd cc
whole_from base size block at (Some l) held last is =
    let run = back base size at (size + 1) (Some l) in
    let split =
    if_whole_ok size block run (first_of (λ k. is_left l.entry.point.sno (length run) (at k)) 0 (size + 1)) held is in
    record {
      last = l;
      is_last = last;
      all = λ k lt. none_first (λ k. is_left l.entry.point.sno (length run) (at k)) 0 (size + 1) split.0 k (omega arith)
          (omega (arith, lt));
      newest_is = split.1;
    }

-- ---- the entries that stand in the slots of a file

file_slots : (format : ℕ) (base : Point) (size block : ℕ) (file : List ℕ)
    → AreSlots base size (entry_in format base size block file)
file_slots format base size block file = record {
  from_base = λ k l is. (slot_holds format base size block k (slot_bytes block k file) l
      (there_entry format base size block k file l is)).is.from_base;
  here = λ k l is. (slot_holds format base size block k (slot_bytes block k file) l
      (there_entry format base size block k file l is)).is.here;
  marked = λ k l is. (slot_holds format base size block k (slot_bytes block k file) l
      (there_entry format base size block k file l is)).is.marked;
}

entry_stands : (format : ℕ) (base : Point) (size block k : ℕ) (file : List ℕ) (l : Logged)
    → entry_in format base size block file k ≡ Some l → Stands block k file l
entry_stands format base size block k file l is =
    let holding =
    slot_holds format base size block k (slot_bytes block k file) l (there_entry format base size block k file l is) in
    record { gate = holding.gate; spelled = holding.spelled }

-- an entry that is not left out is one of the run
in_run : (base : Point) (size : ℕ) (at : ℕ → Option Logged) (entries : List Logged) (last l : Logged)
    → RunsTo base size at entries last → l.entry.point.sno ≤ last.entry.point.sno
    → is_left last.entry.point.sno (length entries) (Some l) ≡ false
    → (i : ℕ) × (i < length entries) × ((d : Logged) → (get_or entries i d).entry.point.sno ≡ l.entry.point.sno)
in_run base size at entries last l runs le kept =
    let past = leb-false (l.entry.point.sno + length entries) last.entry.point.sno kept in
    let ends = runs.ends in
    let i = l.entry.point.sno - runs.first in
    let lt : i < length entries = omega (arith, past, ends, le) in
    (i, lt, λ d. runs.run.serials i d lt ∙ omega (arith, past, ends, le))

-- a slot that has none of the run is closed
none_closed : (format : ℕ) (base : Point) (size block : ℕ) (file : List ℕ) (last : Logged) (entries : List Logged)
    → RunsTo base size (entry_in format base size block file) entries last
    → IsLast (entry_in format base size block file) (size + 1) last
    → (k : ℕ) → k ≤ size → is_wrong format base size block file k ≡ false
    → All (λ e. slot_of base size e.entry.point.sno ≢ k) entries
    → (o : Option Logged) → entry_in format base size block file k ≡ o
    → is_left last.entry.point.sno (length entries) o ≡ false → IsClosed block (slot_bytes block k file)
none_closed format base size block file last entries runs greatest k le right none None is kept =
    slot_shut format base size block k (slot_bytes block k file) (nothing_there format base size block k file right is)
none_closed format base size block file last entries runs greatest k le right none (Some l) is kept =
    let found = in_run base size (entry_in format base size block file) entries last l runs
    (greatest.greatest k l (omega (arith, le)) is) kept in
    absurd
    (none found.0 l found.1 (ap (slot_of base size) (found.2 l) ∙ (file_slots format base size block file).here k l is))

run_log : (format : ℕ) (base : Point) (size block : ℕ) (file : List ℕ) (last : Logged) (entries : List Logged)
    → RunsTo base size (entry_in format base size block file) entries last
    → IsLast (entry_in format base size block file) (size + 1) last → length entries ≤ size + 1
    → ((k : ℕ) → k ≤ size → is_wrong format base size block file k ≡ false)
    → ((k : ℕ) → k < size + 1 → is_left last.entry.point.sno (length entries) (entry_in format base size block file k)
    ≡ false) → IsLog base size block entries file
run_log format base size block file last entries runs greatest few right kept =
    let slots = file_slots format base size block file in
    let at = entry_in format base size block file in
    let d = marker_of base in
    let zeroth = runs.run.serials 0 d runs.some in
    let from = slots.from_base _ (get_or entries 0 d) (runs.there 0 d runs.some) in
    record {
      some = runs.some;
      few = few;
      first = runs.first;
      from_base = omega (arith, zeroth, from);
      run = runs.run;
      marked = λ i d lt. slots.marked _ (get_or entries i d) (runs.there i d lt);
      open_slots = λ i d lt. entry_stands format base size block
          (slot_of base size (get_or entries i d).entry.point.sno) file (get_or entries i d) (runs.there i d lt);
      others = λ k le none. none_closed format base size block file last entries runs greatest k le (right k le) none
          (at k) refl (kept k (omega (arith, le)));
    }

-- what the bytes are read as is what the log holds
pub holds_log : (format : ℕ) (base : Point) (size block : ℕ) (held : List Logged) (file : List ℕ) → 0 < size
    → log_in format base size block file ≡ Ok held → HoldsIn base size block held file
unfolding log_in
holds_log format base size block held file pos is =
    let at = entry_in format base size block file in
    let split = if_right_ok block (first_of (is_wrong format base size block file) 0 (size + 1))
    (run_in base size block at (last_upto at (size + 1))) held is in
    let whole = whole_from base size block at (last_upto at (size + 1)) held (last_is at (size + 1)) split.1 in
    let slots = file_slots format base size block file in
    let there = last_at base size at (size + 1) whole.last slots whole.is_last in
    let on : suc size ≡ size + 1 = omega arith in
    let runs = subst (λ (n : ℕ). RunsTo base size at (back base size at n (Some whole.last)) whole.last) on
    (runs_back base size at size whole.last slots there) in
    let right : (k : ℕ) → k ≤ size → is_wrong format base size block file k ≡ false = λ k le.
    none_first (is_wrong format base size block file) 0 (size + 1) split.0 k (omega arith) (omega (arith, le)) in
    let log = run_log format base size block file whole.last (back base size at (size + 1) (Some whole.last)) runs
    whole.is_last (back_few base size at (size + 1) (Some whole.last)) right whole.all in
    subst (λ (l : List Logged). HoldsIn base size block l file) whole.newest_is (newest_holds pos log)

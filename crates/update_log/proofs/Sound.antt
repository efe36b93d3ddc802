-- What is kept in memory of a log stays in its ranges.
use Rattle.std.proofs.Common.{◌≡◌, ℕ, ◌+◌, ◌-◌, ◌≤◌, List, ◌++◌, length, take, drop, refl, sym, ◌∙◌, ap}
use Rattle.std.proofs.Common.{subst, arith, length-append, length-drop, take-append-drop, Option, Some, None}
use Rattle.std.specs.Prelude.{option_to_list}
use Rattle.std.specs.List.{All}
use Rattle.std.proofs.lemmas.List.{append-nil}
use Rattle.kdb_base.specs.declared.moments.Point.{Point}
use Rattle.princ_rows.specs.declared.entries.Logged.{Logged}
use Rattle.update_log.specs.Slots.{IsSpelled}
use Rattle.update_log.specs.Logs.{IsMarked, IsRun, Journal, IsJournal, HasRoom, newest, begun, marker_of}
use Rattle.update_log.proofs.Journals.{all_behind, all_more, run_behind, run_more, next_serial}
use Rattle.update_log.proofs.Journals.{next_marked, one_only, one_run, base_marked}

-- Entries that run on from a serial, with what holds of each.
pub record AreEntries (base : Point) (block : ℕ) (entries : List Logged) (first : ℕ) : Type 0 where
  pub run : IsRun entries first
  pub marked : All (IsMarked base) entries
  pub spelled : All (IsSpelled block) entries

entries_of : (log : Journal) (is : IsJournal log) → AreEntries log.base log.block log.held is.first
entries_of log is = record { run = is.run; marked = is.marked; spelled = is.spelled }

entries_more : (log : Journal) (len room : ℕ) (is : IsJournal log) (prepared : Option Logged) → log.prepared ≡ prepared
    → HasRoom log len room
    → AreEntries log.base log.block (log.held ++ option_to_list prepared) is.first
entries_more log len room is None same fits = subst (λ (l : List Logged). AreEntries log.base log.block l is.first)
    (sym (append-nil log.held)) (entries_of log is)
entries_more log len room is (Some next) same fits =
    let comes = fits.comes next same in
    let serial = next_serial log.held is.first next is.run is.some comes in
    record {
      run = run_more log.held is.first next is.run is.some comes;
      marked = all_more (IsMarked log.base) log.held next is.marked
          (next_marked log.base next (λ e. absurd (omega (arith, serial, is.from_base, is.some, e))) comes);
      spelled = all_more (IsSpelled log.block) log.held next is.spelled (fits.spelled next same);
    }

pub entries_behind : (base : Point) (block : ℕ) (older held : List Logged) (first : ℕ)
    → AreEntries base block (older ++ held) first → AreEntries base block held (first + length older)
entries_behind base block older held first are = record {
  run = run_behind older held first are.run;
  marked = all_behind (IsMarked base) older held are.marked;
  spelled = all_behind (IsSpelled block) older held are.spelled;
}

at_most_one : (o : Option Logged) → length (option_to_list o) ≤ 1
at_most_one None = omega arith
at_most_one (Some e) = omega arith

pub few_after : (log : Journal) → IsJournal log → length (log.held ++ option_to_list log.prepared) ≤ log.size + 1
few_after log is = omega (arith, length-append log.held (option_to_list log.prepared), at_most_one log.prepared, is.few)

pub committed_journal : (log : Journal) (len room : ℕ) (held : List Logged) (left : Option Logged) → IsJournal log
    → HasRoom log len room → held ≡ newest log.size (log.held ++ option_to_list log.prepared)
    → IsJournal (record {
      file = log.file;
      base = log.base;
      size = log.size;
      block = log.block;
      held = held;
      prepared = left;
    })
committed_journal log len room held left is room_is same =
    let entries = log.held ++ option_to_list log.prepared in
    let k = length entries - log.size in
    let long : length held ≡ length entries - k = ap (λ (l : List Logged). length l) same ∙ length-drop k entries in
    let more : length entries ≡ length log.held + length (option_to_list log.prepared) =
    length-append log.held (option_to_list log.prepared) in
    let all = entries_more log len room is log.prepared refl room_is in
    let split =
    subst (λ (l : List Logged). AreEntries log.base log.block l is.first) (sym (take-append-drop k entries)) all in
    let first = is.first + length (take k entries) in
    let here = subst (λ (l : List Logged). AreEntries log.base log.block l first) (sym same)
    (entries_behind log.base log.block (take k entries) (drop k entries) is.first split) in
    record {
      file = is.file;
      size = is.size;
      block = is.block;
      some = omega (arith, long, more, is.some, is.size.0);
      few = omega (arith, long);
      first = first;
      from_base = omega (arith, is.from_base);
      run = here.run;
      marked = here.marked;
      spelled = here.spelled;
    }

pub nothing_prepared : (log : Journal) (len room : ℕ) → len ≡ length log.held → log.prepared ≡ None
    → HasRoom log len room
nothing_prepared log len room counted none = record {
  counted = counted;
  fits = λ next is. let e : None ≡ Some next = sym none ∙ is in absurd cc;
  comes = λ next is. let e : None ≡ Some next = sym none ∙ is in absurd cc;
  spelled = λ next is. let e : None ≡ Some next = sym none ∙ is in absurd cc;
}

pub begun_journal : (file : ℕ) (base : Point) (size block : ℕ) → (3 ≤ file) × (file ≤ 4) → (2 ≤ size) × (size ≤ 10000)
    → (2048 ≤ block) × (block ≤ 16384) → IsSpelled block (marker_of base) → IsJournal (begun file base size block)
begun_journal file base size block one few long spelled = record {
  file = one;
  size = few;
  block = long;
  some = omega arith;
  few = omega (arith, few.0);
  first = base.sno;
  from_base = omega arith;
  run = one_run (marker_of base);
  marked = one_only (IsMarked base) (marker_of base) (base_marked base);
  spelled = one_only (IsSpelled block) (marker_of base) spelled;
}

-- What is read of the slots of a log's file, and what the log then holds.
use Rattle.std.proofs.Common.{◌≡◌, ◌≢◌, ℕ, zero, suc, ◌+◌, ◌-◌, ◌*◌, ◌/◌, ◌%◌, ◌<◌, ◌≤◌, ⊎_elim, Bool, true, ◌&&◌}
use Rattle.std.proofs.Common.{cond, ltb, List, [], ◌∷◌, ◌++◌, length, get_or, take, drop, Option, Some, None, refl}
use Rattle.std.proofs.Common.{sym, ◌∙◌, ap, subst, arith, length-drop, length-append, take-append-drop, take-suc}
use Rattle.std.specs.Prelude.{nat_eq, nat_le, Result, Ok, Err, IfOk, min, option_map}
use Rattle.std.specs.List.{All}
use Rattle.std.proofs.lemmas.Bool.{cases_eq, cases_lt, and_parts}
use Rattle.std.proofs.lemmas.List.Elements.{All-drop}
use Rattle.std.proofs.lemmas.List.{get_or_past, get_or-drop, nil_from_length, append-nil, take_all, take-append-le}
use Rattle.std.proofs.lemmas.List.{drop_all, drop-drop, get_or_append_left, get_or_push, length_push}
use Rattle.std.proofs.Math.Nat.{div-add-mod, mod-lt, mul-le-mul_right}
use Rattle.kdb_base.specs.declared.moments.Point.{Point}
use Rattle.kdb_base.specs.declared.outcomes.Refusal.{Refusal}
use Rattle.kdb_base.specs.declared.outcomes.Stop.{Stop}
use Rattle.kdb_base.specs.declared.outcomes.Stop.TheVariants.{Refused, Halt}
use Rattle.kdb_disk.specs.View.{View}
use Rattle.kdb_disk.specs.Moments.{Keeps}
use Rattle.kdb_disk.proofs.Runs.{at_end}
use Rattle.kdb_control.specs.Choice.{Choice}
use Rattle.kdb_format.specs.Answers.{Finds, Gives}
use Rattle.kdb_format.specs.Fields.{IsBytes}
use Rattle.kdb_format.specs.Laws.{padded_field}
use Rattle.kdb_format.specs.Readings.{padded}
use Rattle.kdb_format.specs.declared.faults.FormatFault.{FormatFault}
use Rattle.kdb_format.specs.declared.faults.FormatFault.TheVariants.{Malformed, MemoryOut}
use Rattle.princ_rows.specs.Entries.{logged_at}
use Rattle.princ_rows.specs.EntryLaws.{logged_field}
use Rattle.princ_rows.specs.declared.entries.Logged.{Logged}
use Rattle.update_log.specs.Slots.{slot_of, slot_bytes, IsSpelled}
use Rattle.update_log.specs.Logs.{IsMarked, IsJournal, Journal, newest, log_of}
use Rattle.update_log.specs.Moments.{HasLog, IsDurable}
use Rattle.update_log.specs.Runs.{belongs, stands_in, is_marked, entry_in, is_wrong, is_missing, first_of, later}
use Rattle.update_log.specs.Runs.{last_upto, if_before, before, back, is_left, if_whole, if_right, run_in, log_in}
use Rattle.update_log.specs.Scanning.{log_found, scanned, Scans, SlotAnswers, read_at, IsRead, AreRead}
use Rattle.update_log.specs.Scanning.{slot_of_file, HasSlots, run_to, last_in, held_in, IsRunEnd}
use Rattle.update_log.proofs.Rounds.{slot_low, slots_apart}
use Rattle.update_log.proofs.SlotWrites.{not_whole}
use Rattle.update_log.proofs.Firsts.{first_none, first_found, LastIs, last_is}
use Rattle.update_log.proofs.Entries.{Belongs, test_belongs, slot_closed, entry_there, right_there}
use Rattle.update_log.proofs.Backward.{AreSlots, IsAt, RunsTo, runs_back, last_at}
use Rattle.update_log.proofs.Readings.{back_none}
use Rattle.update_log.proofs.Scans.{holds_log}
use Rattle.update_log.proofs.Sound.{AreEntries, entries_behind}

-- ---- one slot

pub finds_front : (result : Result Logged FormatFault) (left : List ℕ) (read : Option (Logged × List ℕ))
    → Gives result left read → Finds result (option_map (λ x. x.0) read)
finds_front (Ok l) left read is = ap (option_map (λ (x : Logged × List ℕ). x.0)) is
finds_front (Err Malformed) left read is = ap (option_map (λ (x : Logged × List ℕ). x.0)) is
finds_front (Err MemoryOut) left read is = tt

pub reads_spelled : (block : ℕ) (bytes left : List ℕ) (result : Result Logged FormatFault) → IsBytes bytes
    → Gives result left (padded (block - 1) logged_at bytes) → IfOk result (λ l. IsSpelled block l)
reads_spelled block bytes left (Ok l) fits is = let f =
    (padded_field (block - 1) logged_field).fits bytes l left fits is in record { fits = f.0; short = f.1 }
reads_spelled block bytes left (Err e) fits is = tt

-- ---- slots that hold the same entries

first_same : (p q : ℕ → Bool) (k n : ℕ) → ((i : ℕ) → k ≤ i → i < k + n → p i ≡ q i) → first_of p k n ≡ first_of q k n
unfolding first_of
first_same p q k zero same = refl
first_same p q k (suc n) same =
    ap (λ (b : Bool). cond b (Some k) (first_of p (k + 1) n)) (same k (omega arith) (omega arith))
    ∙ ap (λ (o : Option ℕ). cond (q k) (Some k) o)
    (first_same p q (k + 1) n (λ i ge lt. same i (omega (arith, ge)) (omega (arith, lt))))

last_same : (a b : ℕ → Option Logged) (n : ℕ) → ((k : ℕ) → k < n → a k ≡ b k) → last_upto a n ≡ last_upto b n
unfolding last_upto
last_same a b zero same = refl
last_same a b (suc n) same =
    ap (λ (o : Option Logged). later o (a n)) (last_same a b n (λ k lt. same k (omega (arith, lt))))
    ∙ ap (later (last_upto b n)) (same n (omega arith))

before_same : (base : Point) (size : ℕ) (a b : ℕ → Option Logged) → ((k : ℕ) → k ≤ size → a k ≡ b k) → (next : Logged)
    → before base size a next ≡ before base size b next
unfolding before
before_same base size a b same next =
    ap (λ (o : Option Logged). cond (ltb base.sno next.entry.point.sno) (if_before next o) None)
    (same (slot_of base size (next.entry.point.sno - 1)) (slot_low base size (next.entry.point.sno - 1)))

back_same : (base : Point) (size : ℕ) (a b : ℕ → Option Logged) → ((k : ℕ) → k ≤ size → a k ≡ b k)
    → (n : ℕ) (o : Option Logged) → back base size a n o ≡ back base size b n o
unfolding back
back_same base size a b same zero o = refl
back_same base size a b same (suc n) None = refl
back_same base size a b same (suc n) (Some l) =
    ap (λ (o : Option Logged). back base size a n o ++ (l ∷ [])) (before_same base size a b same l)
    ∙ ap (λ (run : List Logged). run ++ (l ∷ [])) (back_same base size a b same n (before base size b l))

run_same : (base : Point) (size block : ℕ) (a b : ℕ → Option Logged) → ((k : ℕ) → k ≤ size → a k ≡ b k)
    → (o : Option Logged) → run_in base size block a o ≡ run_in base size block b o
unfolding run_in
run_same base size block a b same None = refl
run_same base size block a b same (Some last) =
    let run = back base size b (size + 1) (Some last) in
    ap (λ (r : List Logged).
    if_whole size block r (first_of (λ k. is_left last.entry.point.sno (length r) (a k)) 0 (size + 1)))
    (back_same base size a b same (size + 1) (Some last))
    ∙ ap (if_whole size block run)
    (first_same (λ k. is_left last.entry.point.sno (length run) (a k))
    (λ k. is_left last.entry.point.sno (length run) (b k)) 0 (size + 1)
    (λ k ge lt. ap (is_left last.entry.point.sno (length run)) (same k (omega (arith, lt)))))

-- ---- what the bytes of the file hold

-- where each slot was read, the log is that of the entries
pub read_log : (choice : Choice) (file : List ℕ) (slots : List (Option Logged)) → HasSlots choice file slots
    → log_in choice.format choice.base choice.size choice.block file ≡ held_in choice slots
unfolding log_in
read_log choice file slots has =
    let base = choice.base in
    let size = choice.size in
    let block = choice.block in
    let at = entry_in choice.format base size block file in
    let found = run_in base size block at (last_upto at (size + 1)) in
    let same : (k : ℕ) → k ≤ size → at k ≡ read_at slots k =
    λ k le. entry_there choice.format base size block k file (read_at slots k) (has k le) in
    let right : first_of (is_wrong choice.format base size block file) 0 (size + 1) ≡ None =
    first_none (is_wrong choice.format base size block file) 0 (size + 1)
    (λ k ge lt. right_there choice.format base size block k file (read_at slots k) (has k (omega (arith, lt)))) in
    ap (λ (o : Option ℕ). if_right block o found) right
    ∙ run_same base size block at (read_at slots) same (last_upto at (size + 1))
    ∙ ap (run_in base size block (read_at slots))
    (last_same at (read_at slots) (size + 1) (λ k lt. same k (omega (arith, lt))))

-- where a slot is wrong, and none before it, the log is damaged there
pub wrong_log : (choice : Choice) (file : List ℕ) (slots : List (Option Logged)) (k : ℕ) → k ≤ choice.size
    → ((i : ℕ) → i < k → slot_of_file choice file i ≡ Some (read_at slots i)) → slot_of_file choice file k ≡ None
    → log_in choice.format choice.base choice.size choice.block file ≡ Err (k * choice.block)
unfolding log_in
wrong_log choice file slots k le has wrong =
    let base = choice.base in
    let size = choice.size in
    let block = choice.block in
    let at = entry_in choice.format base size block file in
    let found = run_in base size block at (last_upto at (size + 1)) in
    let first : first_of (is_wrong choice.format base size block file) 0 (size + 1) ≡ Some k =
    first_found (is_wrong choice.format base size block file) 0 (size + 1) k (omega arith) (omega (arith, le))
    (ap is_missing wrong)
    (λ i ge lt. right_there choice.format base size block i file (read_at slots i) (has i lt)) in
    ap (λ (o : Option ℕ). if_right block o found) first

-- a slot past the last whole one is closed
pub past_closed : (choice : Choice) (file : List ℕ) (k : ℕ) → 0 < choice.block → length file / choice.block ≤ k
    → slot_of_file choice file k ≡ Some None
past_closed choice file k some past =
    let block = choice.block in
    let whole = div-add-mod (length file) block in
    let rest : length file % block < block = mod-lt (length file) some in
    let le : (length file / block) * block ≤ k * block = mul-le-mul_right block past in
    slot_closed choice.format choice.base choice.size block k (slot_bytes block k file)
    (not_whole block k file some (omega (arith, whole, rest, le)))

-- ---- the slots that were read

-- nothing stands in slots past the last
pub past_none : (slots : List (Option Logged)) (k : ℕ) → length slots ≤ k → read_at slots k ≡ None
past_none slots k past = get_or_past slots k None past

last_more : (slots : List (Option Logged)) (n : ℕ) → length slots ≤ n
    → last_upto (read_at slots) (suc n) ≡ last_upto (read_at slots) n
unfolding last_upto
last_more slots n past =
    ap (later (last_upto (read_at slots) n)) (past_none slots n past) ∙ later_none (last_upto (read_at slots) n)
  where
    later_none : (o : Option Logged) → later o None ≡ o
    later_none None = refl
    later_none (Some l) = refl

-- the last of the slots that were read is the last of all
pub last_past : (slots : List (Option Logged)) (n d m : ℕ) → length slots ≤ n → m ≡ d + n
    → last_upto (read_at slots) m ≡ last_upto (read_at slots) n
last_past slots n zero m past is = ap (last_upto (read_at slots)) (omega (arith, is))
last_past slots n (suc d) m past is =
    let one : m ≡ suc (d + n) = omega (arith, is) in
    ap (last_upto (read_at slots)) one ∙ last_more slots (d + n) (omega (arith, past))
    ∙ last_past slots n d (d + n) past refl

pub are_slots : (choice : Choice) (slots : List (Option Logged)) → AreRead choice slots
    → AreSlots choice.base choice.size (read_at slots)
are_slots choice slots read = record {
  from_base = λ k l is. (belongs_of k l is).from_base;
  here = λ k l is. (belongs_of k l is).here;
  marked = λ k l is. (belongs_of k l is).marked;
}
  where
    belongs_of : (k : ℕ) (l : Logged) → read_at slots k ≡ Some l → Belongs choice.format choice.base choice.size k l
    belongs_of k l is = test_belongs choice.format choice.base choice.size k l (read k l is).here

-- the entries that run on to the last
pub run_ends : (choice : Choice) (slots : List (Option Logged)) (last : Logged) → AreRead choice slots
    → last_in choice slots ≡ Some last → RunsTo choice.base choice.size (read_at slots) (run_to choice slots last) last
run_ends choice slots last read is =
    let at = read_at slots in
    let on : suc choice.size ≡ choice.size + 1 = omega arith in
    let greatest = subst (LastIs at (choice.size + 1)) is (last_is at (choice.size + 1)) in
    let slots_are = are_slots choice slots read in
    subst (λ (n : ℕ). RunsTo choice.base choice.size at (back choice.base choice.size at n (Some last)) last) on
    (runs_back choice.base choice.size at choice.size last slots_are
    (last_at choice.base choice.size at (choice.size + 1) last slots_are greatest))

spelled_run : (choice : Choice) (slots : List (Option Logged)) (entries : List Logged) → AreRead choice slots
    → All (IsAt choice.base choice.size (read_at slots)) entries → All (IsSpelled choice.block) entries
spelled_run choice slots entries read there i d lt = (read _ (get_or entries i d) (there i d lt)).spelled

marked_run : (choice : Choice) (slots : List (Option Logged)) (entries : List Logged) → AreRead choice slots
    → All (IsAt choice.base choice.size (read_at slots)) entries → All (IsMarked choice.base) entries
marked_run choice slots entries read there i d lt =
    (are_slots choice slots read).marked _ (get_or entries i d) (there i d lt)

-- ---- what the log then holds

-- The log of the last entries of the run is a log.
pub run_journal : (choice : Choice) (slots : List (Option Logged)) (last : Logged) → AreRead choice slots
    → last_in choice slots ≡ Some last
    → (3 ≤ choice.log) × (choice.log ≤ 4) → (2 ≤ choice.size) × (choice.size ≤ 10000)
    → (2048 ≤ choice.block) × (choice.block ≤ 16384)
    → IsJournal (log_of choice.log choice.base choice.size choice.block (newest choice.size (run_to choice slots last)))
run_journal choice slots last read is file size block =
    let run = run_to choice slots last in
    let runs = run_ends choice slots last read is in
    let k = length run - choice.size in
    let all : AreEntries choice.base choice.block run runs.first = record {
      run = runs.run;
      marked = marked_run choice slots run read runs.there;
      spelled = spelled_run choice slots run read runs.there;
    } in
    let split =
    subst (λ (l : List Logged). AreEntries choice.base choice.block l runs.first) (sym (take-append-drop k run)) all in
    let here = entries_behind choice.base choice.block (take k run) (drop k run) runs.first split in
    let d = last in
    let zeroth = runs.run.serials 0 d runs.some in
    let from = (are_slots choice slots read).from_base _ (get_or run 0 d) (runs.there 0 d runs.some) in
    let long = length-drop k run in
    record {
      file = file;
      size = size;
      block = block;
      some = omega (arith, long, runs.some, size.0);
      few = omega (arith, long);
      first = runs.first + length (take k run);
      from_base = omega (arith, zeroth, from);
      run = here.run;
      marked = here.marked;
      spelled = here.spelled;
    }

stands_belongs : (format : ℕ) (base : Point) (size k : ℕ) (l : Logged) → belongs format base size k l ≡ true
    → stands_in format l ≡ true
unfolding belongs
stands_belongs format base size k l e =
    (and_parts (nat_le base.sno l.entry.point.sno && nat_eq (slot_of base size l.entry.point.sno) k && is_marked base l)
    (stands_in format l) e).1

-- each of them may stand in the format
pub run_stands : (choice : Choice) (slots : List (Option Logged)) (last : Logged)
    → AreRead choice slots → last_in choice slots ≡ Some last
    → All (λ l. stands_in choice.format l ≡ true) (newest choice.size (run_to choice slots last))
run_stands choice slots last read is =
    let run = run_to choice slots last in
    let runs = run_ends choice slots last read is in
    let all : All (λ (l : Logged). stands_in choice.format l ≡ true) run = λ i d lt. stands_belongs choice.format
    choice.base choice.size _ (get_or run i d) (read _ (get_or run i d) (runs.there i d lt)).here in
    All-drop (λ (l : Logged). stands_in choice.format l ≡ true) (length run - choice.size) run all

-- how many entries are held
pub count_held : (choice : Choice) (slots : List (Option Logged)) (last : Logged) (count : ℕ)
    → count ≡ min (length (run_to choice slots last)) choice.size
    → length (newest choice.size (run_to choice slots last)) ≡ count
count_held choice slots last count is =
    let run = run_to choice slots last in
    omega (arith, length-drop (length run - choice.size) run, is)

-- the serial of each of them
abbrev pub serial_of : ℕ → ℕ → ℕ → ℕ
serial_of last count i = last - ((count - 1) - i)

-- What is known of the place of one of them: its slot, and that it stands there.
pub record StandsAt (choice : Choice) (slots : List (Option Logged)) (last : Logged) (sno i : ℕ) : Type 0 where
  pub from_base : choice.base.sno ≤ sno
  pub here : (d : Logged) → read_at slots (slot_of choice.base choice.size sno)
      ≡ Some (get_or (newest choice.size (run_to choice slots last)) i d)

pub held_stands : (choice : Choice) (slots : List (Option Logged)) (last : Logged) (count i : ℕ) → AreRead choice slots
    → last_in choice slots ≡ Some last
    → count ≡ min (length (run_to choice slots last)) choice.size → i < count
    → StandsAt choice slots last (serial_of last.entry.point.sno count i) i
held_stands choice slots last count i read is counted lt =
    let run = run_to choice slots last in
    let runs = run_ends choice slots last read is in
    let k = length run - choice.size in
    let at = read_at slots in
    let within : k + i < length run = omega (arith, counted, lt) in
    let ends = runs.ends in
    let serial : (d : Logged) → (get_or run (k + i) d).entry.point.sno ≡ serial_of last.entry.point.sno count i =
    λ d. runs.run.serials (k + i) d within ∙ omega (arith, ends, counted, lt) in
    record {
      from_base = let from =
          (are_slots choice slots read).from_base _ (get_or run (k + i) last) (runs.there (k + i) last within) in
          omega (arith, from, serial last);
      here = λ d.
          ap (λ (n : ℕ). at (slot_of choice.base choice.size n)) (sym (serial d))
          ∙ runs.there (k + i) d within
          ∙ ap Some (sym (get_or-drop k run i d));
    }

-- the entries that are still to be taken stand in their slots
abbrev pub AreLeft : Choice → List (Option Logged) → List (Option Logged) → ℕ → ℕ → ℕ → Type 0
AreLeft choice before slots last count taken =
    (s : ℕ) → s ≤ last → last + 1 + taken ≤ s + count
    → read_at slots (slot_of choice.base choice.size s) ≡ read_at before (slot_of choice.base choice.size s)

-- when one of them was taken, the others still do
pub left_after : (choice : Choice) (before slots after : List (Option Logged)) (last count taken sno : ℕ)
    → sno ≡ serial_of last count taken → count ≤ last + 1 → count ≤ choice.size → taken < count → choice.base.sno ≤ sno
    → AreLeft choice before slots last count taken
    → ((k : ℕ) → k ≢ slot_of choice.base choice.size sno → read_at after k ≡ read_at slots k)
    → AreLeft choice before after last count (taken + 1)
left_after choice before slots after last count taken sno is fits few lt from left others s le past =
    others (slot_of choice.base choice.size s) (λ same. slots_apart choice.base choice.size sno s from
    (omega (arith, is, fits, lt, past)) (omega (arith, is, fits, few, lt, le)) (sym same))
    ∙ left s le (omega (arith, past))

-- how many are held, by the numbers that the code has
pub counted_by : (choice : Choice) (slots : List (Option Logged)) (last : Logged) (len size count : ℕ)
    → length (run_to choice slots last) ≡ len → size ≡ choice.size → count ≡ min len size
    → count ≡ min (length (run_to choice slots last)) choice.size
counted_by choice slots last len size count long same is = omega (arith, long, same, is)

-- one entry more was taken
pub take_more : (entries held : List Logged) (taken : ℕ) (l : Logged) → held ≡ take taken entries
    → taken < length entries → ((d : Logged) → l ≡ get_or entries taken d) → held ++ l ∷ [] ≡ take (taken + 1) entries
take_more entries held taken l is lt here =
    let on : suc taken ≡ taken + 1 = omega arith in
    ap (λ (h : List Logged). h ++ l ∷ []) is ∙ ap (λ (x : Logged). take taken entries ++ x ∷ []) (here l)
    ∙ sym (take-suc entries taken l lt) ∙ ap (λ (n : ℕ). take n entries) on

-- ---- what a run to the last entry says of what is held

pub none_held : (choice : Choice) (slots : List (Option Logged)) → last_in choice slots ≡ None
    → held_in choice slots ≡ Err 0
unfolding run_in
none_held choice slots is = ap (run_in choice.base choice.size choice.block (read_at slots)) is

-- what is held, by the first slot that the run leaves out
run_held : (choice : Choice) (slots : List (Option Logged)) (last : Logged) (len : ℕ) (o : Option ℕ)
    → last_in choice slots ≡ Some last → length (run_to choice slots last) ≡ len
    → first_of (λ k. is_left last.entry.point.sno len (read_at slots k)) 0 (choice.size + 1) ≡ o
    → held_in choice slots ≡ if_whole choice.size choice.block (run_to choice slots last) o
unfolding run_in
run_held choice slots last len o is long first =
    ap (run_in choice.base choice.size choice.block (read_at slots)) is
    ∙ ap (λ (n : ℕ). if_whole choice.size choice.block (run_to choice slots last)
    (first_of (λ k. is_left last.entry.point.sno n (read_at slots k)) 0 (choice.size + 1))) long
    ∙ ap (if_whole choice.size choice.block (run_to choice slots last)) first

-- the slot that an answer names
pub left_held : (choice : Choice) (slots : List (Option Logged)) (last : Logged) (len k : ℕ)
    → last_in choice slots ≡ Some last → length (run_to choice slots last) ≡ len
    → first_of (λ k. is_left last.entry.point.sno len (read_at slots k)) 0 (choice.size + 1) ≡ Some k
    → held_in choice slots ≡ Err (k * choice.block)
left_held choice slots last len k is long first = run_held choice slots last len (Some k) is long first

pub whole_held : (choice : Choice) (slots : List (Option Logged)) (last : Logged) (len : ℕ)
    → last_in choice slots ≡ Some last → length (run_to choice slots last) ≡ len
    → first_of (λ k. is_left last.entry.point.sno len (read_at slots k)) 0 (choice.size + 1) ≡ None
    → IsRunEnd choice slots last.entry.point.sno len
whole_held choice slots last len is long first = record {
  last = last;
  is_last = is;
  serial = refl;
  long = long;
  held = run_held choice slots last len None is long first;
}

-- a place that an error names is that of another
pub place_same : {A : Type 0} (block a b : ℕ) (found : Result (List Logged) ℕ) → ◌≡◌ {A = Result A ℕ} (Err a) (Err b)
    → found ≡ Err (a * block) → found ≡ Err (b * block)
place_same {A} block a b found same is =
    is ∙ ap (λ (k : ℕ). let place : Result (List Logged) ℕ = Err (k * block) in place) (same_place a b same)
  where
    same_place : (a b : ℕ) → ◌≡◌ {A = Result A ℕ} (Err a) (Err b) → a ≡ b
    same_place a b same = cc

pub zeroth_place : (block : ℕ) (found : Result (List Logged) ℕ) → found ≡ Err 0 → found ≡ Err (0 * block)
zeroth_place block found is = is ∙ ap (λ (k : ℕ). let place : Result (List Logged) ℕ = Err k in place) (omega arith)

-- ---- the length of a run

-- with one entry more
pub back_more : (base : Point) (size : ℕ) (at : ℕ → Option Logged) (n : ℕ) (l : Logged) (o : Option Logged) → o ≡ Some l
    → 0 < n → length (back base size at n o) ≡ length (back base size at (n - 1) (before base size at l)) + 1
unfolding back
back_more base size at zero l o is some = absurd (omega (arith, some))
back_more base size at (suc n) l o is some =
    let less : n ≡ suc n - 1 = omega arith in
    ap (λ (x : Option Logged). length (back base size at (suc n) x)) is
    ∙ length-append (back base size at n (before base size at l)) (l ∷ [])
    ∙ ap (λ (k : ℕ). length (back base size at k (before base size at l)) + 1) less

-- at its first entry
pub back_end : (base : Point) (size : ℕ) (at : ℕ → Option Logged) (n : ℕ) (o : Option Logged) → o ≡ None
    → length (back base size at n o) ≡ 0
back_end base size at n o is = ap (λ (x : Option Logged). length (back base size at n x)) is
    ∙ ap (λ (l : List Logged). length l) (back_none base size at n)

pub back_over : (base : Point) (size : ℕ) (at : ℕ → Option Logged) (n : ℕ) (o : Option Logged) → n ≡ 0
    → length (back base size at n o) ≡ 0
unfolding back
back_over base size at zero o is = refl
back_over base size at (suc n) o is = absurd (omega (arith, is))

-- ---- a slot in a window of the file

-- Where the window has a block, or all that is left, its front is that of what is left.
pub window_front : (block count : ℕ) (held more left bytes : List ℕ) → left ≡ held ++ more
    → count ≡ min block (length held) → min block (length left) ≤ length held → bytes ≡ take count held
    → take block left ≡ bytes
window_front block count held more left bytes split is enough front = ⊎_elim
    (λ short.
    let long = ap (λ (l : List ℕ). length l) split ∙ length-append held more in
    let none : more ≡ [] = nil_from_length more (omega (arith, long, enough, short)) in
    let all : left ≡ held = split ∙ ap (λ (l : List ℕ). held ++ l) none ∙ append-nil held in
    ap (take block) all ∙ take_all block held (omega (arith, short))
    ∙ sym (take_all count held (omega (arith, is, short))) ∙ sym front)
    (λ whole.
    let same : block ≡ count = omega (arith, is, whole) in
    ap (take block) split ∙ take-append-le block held more whole ∙ ap (λ (n : ℕ). take n held) same ∙ sym front)
    (cases_lt (length held) block)

-- and behind it stands what is left behind it
pub window_rest : (block count : ℕ) (held more left : List ℕ) → left ≡ held ++ more → count ≡ min block (length held)
    → min block (length left) ≤ length held → drop count left ≡ drop block left
window_rest block count held more left split is enough = ⊎_elim
    (λ short.
    let long = ap (λ (l : List ℕ). length l) split ∙ length-append held more in
    drop_all count left (omega (arith, is, long, enough, short))
    ∙ sym (drop_all block left (omega (arith, long, enough, short))))
    (λ whole. let same : count ≡ block = omega (arith, is, whole) in ap (λ (n : ℕ). drop n left) same)
    (cases_lt (length held) block)

-- ---- one slot more was read

-- what was read in a slot, with one slot more
read_before : (slots : List (Option Logged)) (found : Option Logged) (n k : ℕ) → length slots ≡ n → k < n
    → read_at (slots ++ found ∷ []) k ≡ read_at slots k
read_before slots found n k long lt = get_or_append_left slots (found ∷ []) None k (omega (arith, long, lt))

read_last : (slots : List (Option Logged)) (found : Option Logged) (n : ℕ) → length slots ≡ n
    → read_at (slots ++ found ∷ []) n ≡ found
read_last slots found n long = get_or_push slots found None n long

pub read_more : (choice : Choice) (slots after : List (Option Logged)) (found : Option Logged) (n : ℕ)
    → after ≡ slots ++ found ∷ [] → length slots ≡ n → AreRead choice slots
    → ((l : Logged) → found ≡ Some l → IsRead choice n l) → AreRead choice after
read_more choice slots after found n is long read here = subst (AreRead choice) (sym is) each
  where
    each : AreRead choice (slots ++ found ∷ [])
    each k l there = ⊎_elim
        (λ below. read k l (sym (read_before slots found n k long below) ∙ there))
        (λ from. ⊎_elim
        (λ same. subst (λ (i : ℕ). IsRead choice i l) (sym same)
        (here l (sym (read_last slots found n long) ∙ ap (read_at (slots ++ found ∷ [])) (sym same) ∙ there)))
        (λ other.
        let none : None ≡ Some l =
        sym (past_none (slots ++ found ∷ []) k (omega (arith, length_push slots found, long, from, other))) ∙ there in
        absurd cc)
        (cases_eq k n))
        (cases_lt k n)

pub has_more : (choice : Choice) (file : List ℕ) (slots after : List (Option Logged)) (found : Option Logged) (n : ℕ)
    → after ≡ slots ++ found ∷ [] → length slots ≡ n
    → ((k : ℕ) → k < n → slot_of_file choice file k ≡ Some (read_at slots k)) → slot_of_file choice file n ≡ Some found
    → (k : ℕ) → k < n + 1 → slot_of_file choice file k ≡ Some (read_at after k)
has_more choice file slots after found n is long before here k lt =
    subst (λ (l : List (Option Logged)). slot_of_file choice file k ≡ Some (read_at l k)) (sym is)
    (⊎_elim
    (λ below. before k below ∙ ap Some (sym (read_before slots found n k long below)))
    (λ from.
    let same : k ≡ n = omega (arith, from, lt) in
    ap (slot_of_file choice file) same ∙ here
    ∙ ap Some (sym (ap (read_at (slots ++ found ∷ [])) same ∙ read_last slots found n long)))
    (cases_lt k n))

-- the bytes of the slot that comes next
pub next_bytes : (block k : ℕ) (file left : List ℕ) → left ≡ drop (k * block) file
    → slot_bytes block k file ≡ take block left
unfolding slot_bytes
next_bytes block k file left is = ap (take block) (sym is)

pub left_behind : (block k : ℕ) (file left after : List ℕ) → left ≡ drop (k * block) file → after ≡ drop block left
    → after ≡ drop ((k + 1) * block) file
left_behind block k file left after is next =
    let sum : k * block + block ≡ (k + 1) * block = omega arith in
    next ∙ ap (drop block) is ∙ drop-drop block (k * block) file ∙ ap (λ (n : ℕ). drop n file) sum

-- where the next slot is wrong
pub next_wrong : (choice : Choice) (file : List ℕ) (slots : List (Option Logged)) (k : ℕ) (stop : Stop) (r : Refusal)
    → stop ≡ Refused r → k ≤ choice.size → ((i : ℕ) → i < k → slot_of_file choice file i ≡ Some (read_at slots i))
    → SlotAnswers (Err stop) choice k (slot_of_file choice file k) → scanned choice file ≡ Err r
next_wrong choice file slots k (Refused refusal) r same le has answer =
    let damaged =
    ap (λ (o : Result (List Logged) ℕ). log_found choice o) (wrong_log choice file slots k le has answer.1) in
    damaged ∙ ap (λ (x : Refusal). let found : Result Journal Refusal = Err x in found)
    (sym answer.0 ∙ same_refusal refusal r same)
  where
    same_refusal : (a b : Refusal) → Refused a ≡ Refused b → a ≡ b
    same_refusal a b is = cc
next_wrong choice file slots k (Halt halt) r same le has answer = absurd cc

-- ---- the answer

pub scans_held : (choice : Choice) (file : List ℕ) (slots : List (Option Logged)) (held : List Logged) (log : Journal)
    → HasSlots choice file slots → held_in choice slots ≡ Ok held
    → log ≡ log_of choice.log choice.base choice.size choice.block held → scanned choice file ≡ Ok log
scans_held choice file slots held log has is same =
    ap (log_found choice) (read_log choice file slots has ∙ is)
    ∙ ap (λ (j : Journal). let found : Result Journal Refusal = Ok j in found) (sym same)

pub scans_refused : (choice : Choice) (file : List ℕ) (slots : List (Option Logged)) (stop : Stop)
    → HasSlots choice file slots → ((r : Refusal) → stop ≡ Refused r → log_found choice (held_in choice slots) ≡ Err r)
    → Scans (Err stop) (scanned choice file)
scans_refused choice file slots (Refused refusal) has refused =
    ap (log_found choice) (read_log choice file slots has) ∙ refused refusal refl
scans_refused choice file slots (Halt halt) has refused = tt

-- whatever a crash leaves of a durable file holds the log that was read
pub has_scanned : (choice : Choice) (old new : View) (slots : List (Option Logged)) (held : List Logged) (log : Journal)
    → 0 < choice.size → HasSlots choice (old.seen choice.log) slots → held_in choice slots ≡ Ok held
    → log ≡ log_of choice.log choice.base choice.size choice.block held → IsDurable choice.log old → Keeps old new
    → HasLog log new
has_scanned choice old new slots held log pos has is same durable keeps =
    subst (λ (j : Journal). HasLog j new) (sym same) (record {
      each = λ c now.
          let before = at_end keeps.leaves c now in
          holds_log choice.format choice.base choice.size choice.block held (c choice.log) pos
          (ap (log_in choice.format choice.base choice.size choice.block) (durable.durable c before)
          ∙ read_log choice (old.seen choice.log) slots has ∙ is);
    })

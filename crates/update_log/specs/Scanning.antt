-- What a scan of a log's file reads, and what it answers.
use Rattle.std.specs.Prelude.{ℕ, ◌≡◌, ◌+◌, ◌*◌, ◌≤◌, true, List, length}
use Rattle.std.specs.Prelude.{slice_index_or, Option, Some, None, Result, Ok, Err}
use Rattle.kdb_base.specs.declared.outcomes.Refusal.{Refusal}
use Rattle.kdb_base.specs.declared.outcomes.Refusal.TheVariants.{Damaged}
use Rattle.kdb_base.specs.declared.outcomes.Stop.{Stop}
use Rattle.kdb_base.specs.declared.outcomes.Stop.TheVariants.{Refused, Halt}
use Rattle.kdb_control.specs.Choice.{Choice}
use Rattle.princ_rows.specs.declared.entries.Logged.{Logged}
use Rattle.update_log.specs.Slots.{slot_bytes, IsSpelled}
use Rattle.update_log.specs.Logs.{Journal, log_of, newest}
use Rattle.update_log.specs.Runs.{belongs, slot_in, back, last_upto, run_in, log_in}

-- ---- the answer

-- the log of these entries, or the place at which its file is damaged
abbrev pub log_found : Choice → Result (List Logged) ℕ → Result Journal Refusal
log_found choice (Ok held) = Ok (log_of choice.log choice.base choice.size choice.block held)
log_found choice (Err place) = Err (Damaged choice.log place)

-- the log that the bytes of its file hold, or why they hold none
abbrev pub scanned : Choice → List ℕ → Result Journal Refusal
scanned choice file = log_found choice (log_in choice.format choice.base choice.size choice.block file)

-- the answer is what was found, unless memory ran out or the disk failed
abbrev pub Scans : Result Journal Stop → Result Journal Refusal → Type 0
Scans (Ok log) found = found ≡ Ok log
Scans (Err (Refused refusal)) found = found ≡ Err refusal
Scans (Err (Halt halt)) found = Unit {0}

-- ---- slots that were read

-- the entry that was read in a slot, where one was; slots past the last one that was read are closed
abbrev pub read_at : List (Option Logged) → ℕ → Option Logged
read_at slots k = slice_index_or slots k None

-- The entry is of this slot, and has its spelling there.
pub record IsRead (choice : Choice) (k : ℕ) (l : Logged) : Type 0 where
  pub here : belongs choice.format choice.base choice.size k l ≡ true
  pub spelled : IsSpelled choice.block l

-- each entry that was read is of its slot
abbrev pub AreRead : Choice → List (Option Logged) → Type 0
AreRead choice slots = (k : ℕ) (l : Logged) → read_at slots k ≡ Some l → IsRead choice k l

-- what a slot of the file holds
abbrev pub slot_of_file : Choice → List ℕ → ℕ → Option (Option Logged)
slot_of_file choice file k =
    slot_in choice.format choice.base choice.size choice.block k (slot_bytes choice.block k file)

-- the slots of the file hold these entries
abbrev pub HasSlots : Choice → List ℕ → List (Option Logged) → Type 0
HasSlots choice file slots = (k : ℕ) → k ≤ choice.size → slot_of_file choice file k ≡ Some (read_at slots k)

-- the answer is what a slot holds, or that it is wrong, unless memory ran out or the disk failed
abbrev pub SlotAnswers : Result (Option Logged) Stop → Choice → ℕ → Option (Option Logged) → Type 0
SlotAnswers (Ok o) choice k found = found ≡ Some o
SlotAnswers (Err (Refused refusal)) choice k found = (refusal ≡ Damaged choice.log (k * choice.block)) × (found ≡ None)
SlotAnswers (Err (Halt halt)) choice k found = Unit {0}

-- ---- the run to the last entry

-- the entries that run on to this one
abbrev pub run_to : Choice → List (Option Logged) → Logged → List Logged
run_to choice slots last = back choice.base choice.size (read_at slots) (choice.size + 1) (Some last)

-- the last of all
abbrev pub last_in : Choice → List (Option Logged) → Option Logged
last_in choice slots = last_upto (read_at slots) (choice.size + 1)

-- what is held where these entries were read
abbrev pub held_in : Choice → List (Option Logged) → Result (List Logged) ℕ
held_in choice slots = run_in choice.base choice.size choice.block (read_at slots) (last_in choice slots)

-- So many entries run on to the one of this serial, which is the last, and no slot is left out.
pub record IsRunEnd (choice : Choice) (slots : List (Option Logged)) (sno len : ℕ) : Type 0 where
  pub last : Logged
  pub is_last : last_in choice slots ≡ Some last
  pub serial : last.entry.point.sno ≡ sno
  pub long : length (run_to choice slots last) ≡ len
  pub held : held_in choice slots ≡ Ok (newest choice.size (run_to choice slots last))

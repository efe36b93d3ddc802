-- What the bytes of a log file hold.
use Rattle.std.specs.Prelude.{ℕ, ◌+◌, ◌-◌, ◌<◌, ◌≤◌, ◌≡◌, ◌≢◌, List, [], ◌∷◌, ◌++◌, length}
use Rattle.std.specs.Prelude.{drop, slice_index_or, Option, None, Some, option_to_list}
use Rattle.std.specs.List.{All}
use Rattle.kdb_base.specs.declared.moments.Point.{Point}
use Rattle.kdb_base.specs.Moments.{micros}
use Rattle.princ_rows.specs.declared.entries.Entry.{Entry}
use Rattle.princ_rows.specs.declared.entries.Logged.{Logged}
use Rattle.update_log.specs.Slots.{slot_of, slot_bytes, IsClosed, IsSpelled, Stands}

-- The entry with the base serial is the base marker, at the base point, and no other is one. It changes no unit.
pub record IsMarked (base : Point) (l : Logged) : Type 0 where
  pub marker : l.entry.point.sno ≡ base.sno → l.entry.op ≡ None
  pub at_base : l.entry.point.sno ≡ base.sno → l.entry.point ≡ base
  pub alone : l.entry.op ≡ None → l.entry.point.sno ≡ base.sno
  pub no_cell : l.entry.op ≡ None → l.cell ≡ 0

-- The serials run on one by one from the first, and the times do not fall.
pub record IsRun (entries : List Logged) (first : ℕ) : Type 0 where
  pub serials : (i : ℕ) (d : Logged) → i < length entries → (slice_index_or entries i d).entry.point.sno ≡ first + i
  pub times : (i : ℕ) (d : Logged) → i + 1 < length entries → micros (slice_index_or entries i d).entry.point.time
      ≤ micros (slice_index_or entries (i + 1) d).entry.point.time

-- The open slots of the file are those of these entries.
pub record IsLog (base : Point) (size block : ℕ) (entries : List Logged) (file : List ℕ) : Type 0 where
  pub some : 0 < length entries
  pub few : length entries ≤ size + 1
  pub first : ℕ
  pub from_base : base.sno ≤ first
  pub run : IsRun entries first
  pub marked : All (IsMarked base) entries
  pub open_slots : All (λ e. Stands block (slot_of base size e.entry.point.sno) file e) entries
  pub others : (slot : ℕ) → slot ≤ size → All (λ e. slot_of base size e.entry.point.sno ≢ slot) entries
      → IsClosed block (slot_bytes block slot file)

-- The file holds these entries. One older entry may stand before them, where the log is full.
pub record HoldsIn (base : Point) (size block : ℕ) (held : List Logged) (file : List ℕ) : Type 0 where
  pub some : 0 < length held
  pub few : length held ≤ size
  pub older : List Logged
  pub one : length older ≤ 1
  pub full : 0 < length older → length held ≡ size
  pub is : IsLog base size block (older ++ held) file

-- A log as its callers see it: its file, the point of its base marker, how many entries it holds at most, the length of
-- a block, the entries that it holds in their order, and the entry that is prepared.
pub record Journal : Type 0 where
  pub file : ℕ
  pub base : Point
  pub size : ℕ
  pub block : ℕ
  pub held : List Logged
  pub prepared : Option Logged

-- the bytes hold what the log holds
abbrev pub Holds : Journal → List ℕ → Type 0
Holds log bytes = HoldsIn log.base log.size log.block log.held bytes

-- an entry without the number of its unit
abbrev pub entry_of : Logged → Entry
entry_of l = l.entry

-- The entry is a change that comes after those that are held.
pub record ComesNext (held : List Logged) (next : Logged) : Type 0 where
  pub change : next.entry.op ≢ None
  pub serial : (d : Logged) → next.entry.point.sno ≡ (slice_index_or held (length held - 1) d).entry.point.sno + 1
  pub time : (d : Logged)
      → micros (slice_index_or held (length held - 1) d).entry.point.time ≤ micros next.entry.point.time

-- the last entries, of which there are at most so many
abbrev pub newest : ℕ → List Logged → List Logged
newest size entries = drop (length entries - size) entries

-- the base marker
abbrev pub marker_of : Point → Logged
marker_of base = record { entry = record { point = base; op = None }; cell = 0 }

-- with an entry prepared, or with none
abbrev pub with_prepared : Option Logged → Journal → Journal
with_prepared entry log =
    record { file = log.file; base = log.base; size = log.size; block = log.block; held = log.held; prepared = entry }

-- with what is prepared as the last entry that is held
abbrev pub log_committed : Journal → Journal
log_committed log = record {
  file = log.file;
  base = log.base;
  size = log.size;
  block = log.block;
  held = newest log.size (log.held ++ option_to_list log.prepared);
  prepared = None;
}

-- the log of these entries, with none prepared
abbrev pub log_of : ℕ → Point → ℕ → ℕ → List Logged → Journal
log_of file base size block held =
    record { file = file; base = base; size = size; block = block; held = held; prepared = None }

-- the log of the base marker alone
abbrev pub begun : ℕ → Point → ℕ → ℕ → Journal
begun file base size block = log_of file base size block (marker_of base ∷ [])

-- A log's numbers are in their ranges. Its entries run on from the base or later, and have their spellings.
pub record IsJournal (log : Journal) : Type 0 where
  pub file : (3 ≤ log.file) × (log.file ≤ 4)
  pub size : (2 ≤ log.size) × (log.size ≤ 10000)
  pub block : (2048 ≤ log.block) × (log.block ≤ 16384)
  pub some : 0 < length log.held
  pub few : length log.held ≤ log.size
  pub first : ℕ
  pub from_base : log.base.sno ≤ first
  pub run : IsRun log.held first
  pub marked : All (IsMarked log.base) log.held
  pub spelled : All (IsSpelled log.block) log.held

-- An entry that is prepared comes next and has its spelling, and the queue has room for it.
pub record HasRoom (log : Journal) (len room : ℕ) : Type 0 where
  pub counted : len ≡ length log.held
  pub fits : (next : Logged) → log.prepared ≡ Some next → len < room
  pub comes : (next : Logged) → log.prepared ≡ Some next → ComesNext log.held next
  pub spelled : (next : Logged) → log.prepared ≡ Some next → IsSpelled log.block next

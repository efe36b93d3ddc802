-- What the bytes of a log file hold, as one function of them.
use Rattle.std.specs.Prelude.{ℕ, zero, suc, ◌+◌, ◌-◌, ◌*◌, List, [], ◌∷◌, ◌++◌, length, drop, slice_index}
use Rattle.std.specs.Prelude.{Bool, true, false, ◌&&◌, ◌||◌, not, nat_eq, nat_lt, nat_le, if◌then◌else◌}
use Rattle.std.specs.Prelude.{Option, None, Some, option_map, option_and_then, Result, Ok, Err}
use Rattle.kdb_base.specs.declared.moments.Point.{Point}
use Rattle.kdb_base.specs.Moments.{micros}
use Rattle.kdb_format.specs.Readings.{padded}
use Rattle.princ_record.specs.RowLimits.{is_row_1}
use Rattle.princ_rows.specs.Entries.{logged_at, kind_of}
use Rattle.princ_rows.specs.declared.entries.Op.{Op}
use Rattle.princ_rows.specs.declared.entries.Op.TheVariants.{PutPrinc, DropPrinc, Rename, PutPolicy, DropPolicy}
use Rattle.princ_rows.specs.declared.entries.Logged.{Logged}
use Rattle.update_log.specs.Slots.{slot_of, slot_bytes}
use Rattle.update_log.specs.Logs.{newest}

-- ---- one slot

-- a slot is open where it is whole and its gate is a5 hexadecimal
unfoldable pub is_open : ℕ → List ℕ → Bool
is_open block bytes = nat_eq (length bytes) block && nat_eq (slice_index bytes 0) 165

-- the entry behind the gate, with zeros behind it
unfoldable pub spelled_in : ℕ → List ℕ → Option Logged
spelled_in block bytes = option_map (λ x. x.0) (padded (block - 1) logged_at (drop 1 bytes))

-- the change's row may stand in format 1
unfoldable pub stands_in_1 : Option Op → Bool
stands_in_1 None = true
stands_in_1 (Some (PutPrinc p)) = is_row_1 p
stands_in_1 (Some (DropPrinc name)) = true
stands_in_1 (Some (Rename old p)) = is_row_1 p
stands_in_1 (Some (PutPolicy p)) = true
stands_in_1 (Some (DropPolicy name)) = true

-- and in this format
abbrev pub stands_in : ℕ → Logged → Bool
stands_in format l = not (nat_eq format 1) || stands_in_1 l.entry.op

-- the base marker is at the log's base, and changes no unit
abbrev pub is_marker : Point → Logged → Bool
is_marker base l =
    nat_eq (kind_of l.entry.op) 0 && nat_eq l.cell 0
    && nat_eq l.entry.point.time.secs base.time.secs && nat_eq l.entry.point.time.usecs base.time.usecs

-- at the base's serial stands the base marker, and at every other one a change
abbrev pub is_marked : Point → Logged → Bool
is_marked base l = if nat_eq l.entry.point.sno base.sno then is_marker base l else nat_lt 0 (kind_of l.entry.op)

-- the entry is of this slot
unfoldable pub belongs : ℕ → Point → ℕ → ℕ → Logged → Bool
belongs format base size k l =
    nat_le base.sno l.entry.point.sno && nat_eq (slot_of base size l.entry.point.sno) k && is_marked base l
    && stands_in format l

-- what a slot of these bytes holds: nothing where it is closed, and else the entry that it spells. None where the slot
-- is wrong: it is open, and spells no entry of this slot.
unfoldable pub slot_in : ℕ → Point → ℕ → ℕ → ℕ → List ℕ → Option (Option Logged)
slot_in format base size block k bytes =
    if is_open block bytes
    then option_and_then (λ l. if belongs format base size k l then Some (Some l) else None) (spelled_in block bytes)
    else Some None

abbrev pub is_missing : {A : Type 0} → Option A → Bool
is_missing None = true
is_missing (Some x) = false

abbrev pub joined : Option (Option Logged) → Option Logged
joined None = None
joined (Some o) = o

-- a slot is wrong
abbrev pub is_wrong : ℕ → Point → ℕ → ℕ → List ℕ → ℕ → Bool
is_wrong format base size block file k = is_missing (slot_in format base size block k (slot_bytes block k file))

-- the entry that stands in each slot, where one does
unfoldable pub entry_in : ℕ → Point → ℕ → ℕ → List ℕ → ℕ → Option Logged
entry_in format base size block file k = joined (slot_in format base size block k (slot_bytes block k file))

-- ---- all slots, by the entries that stand in them

-- the first of so many numbers from this one on that passes a test
unfoldable pub first_of : (ℕ → Bool) → ℕ → ℕ → Option ℕ
first_of test k zero = None
first_of test k (suc n) = if test k then Some k else first_of test (k + 1) n

abbrev pub later : Option Logged → Option Logged → Option Logged
later None b = b
later (Some a) None = Some a
later (Some a) (Some b) = if nat_lt a.entry.point.sno b.entry.point.sno then Some b else Some a

-- the entry of the greatest serial in so many slots
unfoldable pub last_upto : (ℕ → Option Logged) → ℕ → Option Logged
last_upto at zero = None
last_upto at (suc k) = later (last_upto at k) (at k)

-- the entry comes directly before the other, and not at a later time
abbrev pub goes_before : Logged → Logged → Bool
goes_before l next = nat_eq (l.entry.point.sno + 1) next.entry.point.sno
    && nat_le (micros l.entry.point.time) (micros next.entry.point.time)

abbrev pub if_before : Logged → Option Logged → Option Logged
if_before next None = None
if_before next (Some l) = if goes_before l next then Some l else None

-- the entry directly before this one
unfoldable pub before : Point → ℕ → (ℕ → Option Logged) → Logged → Option Logged
before base size at next = if nat_lt base.sno next.entry.point.sno
    then if_before next (at (slot_of base size (next.entry.point.sno - 1))) else None

-- the entries that run on to this one, at most so many
unfoldable pub back : Point → ℕ → (ℕ → Option Logged) → ℕ → Option Logged → List Logged
back base size at zero next = []
back base size at (suc n) None = []
back base size at (suc n) (Some l) = back base size at n (before base size at l) ++ (l ∷ [])

-- the entry is left out of a run of so many that ends with this serial
abbrev pub is_left : ℕ → ℕ → Option Logged → Bool
is_left last n None = false
is_left last n (Some l) = nat_le (l.entry.point.sno + n) last

abbrev pub if_whole : ℕ → ℕ → List Logged → Option ℕ → Result (List Logged) ℕ
if_whole size block run None = Ok (newest size run)
if_whole size block run (Some k) = Err (k * block)

-- what is held where these entries stand in the slots, or the place of the first that the run to the last leaves out
unfoldable pub run_in : Point → ℕ → ℕ → (ℕ → Option Logged) → Option Logged → Result (List Logged) ℕ
run_in base size block at None = Err 0
run_in base size block at (Some last) =
    if_whole size block (back base size at (size + 1) (Some last))
    (first_of (λ k. is_left last.entry.point.sno (length (back base size at (size + 1) (Some last))) (at k)) 0
    (size + 1))

abbrev pub if_right : ℕ → Option ℕ → Result (List Logged) ℕ → Result (List Logged) ℕ
if_right block None found = found
if_right block (Some k) found = Err (k * block)

-- What the bytes of a log file hold, oldest first: its open slots hold entries that run on to the last, of which the
-- last so many are held. Else the place of the first slot that is wrong, or of the first that the run leaves out, or 0
-- where no slot is open.
unfoldable pub log_in : ℕ → Point → ℕ → ℕ → List ℕ → Result (List Logged) ℕ
log_in format base size block file =
    if_right block (first_of (is_wrong format base size block file) 0 (size + 1))
    (run_in base size block (entry_in format base size block file)
    (last_upto (entry_in format base size block file) (size + 1)))

-- What is kept of a connection, and what the steps over it answer.
use Rattle.std.specs.Prelude.{ℕ, ◌≡◌, ◌<◌, ◌≤◌, ◌+◌, ◌-◌, true, List, [], length, drop, slice_index}
use Rattle.std.specs.Prelude.{Option, Some, None, Result, Ok, Err, nat_eq, nat_lt, if◌then◌else◌}
use Rattle.std.specs.List.{All}
use Rattle.byteorder.specs.Endian.{big_number}
use Rattle.kdb_format.specs.declared.faults.FormatFault.{FormatFault}
use Rattle.kdb_format.specs.declared.faults.FormatFault.TheVariants as format
use Rattle.princ_rows.specs.Entries.{IsSent}
use Rattle.princ_rows.specs.declared.entries.Entry.{Entry}
use Rattle.iprop_wire.specs.Decoding.{Begun, Nothing, Updates, Pieces, State, Going, Waits}
use Rattle.iprop_wire.specs.Decoding.{Broken, Spent, fed, is_length, is_sound, may_come, taken}
use Rattle.iprop_wire.specs.declared.faults.FrameFault.{FrameFault}
use Rattle.iprop_wire.specs.declared.faults.FrameFault.TheVariants as fault
use Rattle.iprop_wire.specs.declared.messages.Message.{Message}
use Rattle.iprop_wire.specs.declared.progress.Part.{Part}
use Rattle.iprop_wire.specs.declared.progress.Part.TheVariants as part
use Rattle.iprop_wire.specs.declared.progress.Progress.{Progress}

abbrev pub as_frame_fault : FormatFault → FrameFault
as_frame_fault format.Malformed = fault.BadFrame
as_frame_fault format.MemoryOut = fault.MemoryOut

-- ---- what the whole frames began

abbrev pub begun_of : Part → List Entry → List ℕ → Begun
begun_of part.Nothing updates text = Nothing
begun_of (part.Updates asked left) updates text = Updates asked left updates
begun_of part.Pieces updates text = Pieces text

abbrev pub begun : Progress → Begun
begun p = begun_of p.part p.updates.items p.text.items

-- Of what the frames of one message brought, no more is kept than is to be handed out with it: behind the head of a
-- reply its updates, which have a spelling, while others are still to come; of a dump its text; else nothing.
abbrev pub KeepsOnly : Part → List Entry → List ℕ → Type 0
KeepsOnly part.Nothing updates text = (updates ≡ []) × (text ≡ [])
KeepsOnly (part.Updates asked left) updates text = (0 < left) × (All IsSent updates × (text ≡ []))
KeepsOnly part.Pieces updates text = updates ≡ []

abbrev pub IsBegun : Progress → Type 0
IsBegun p = KeepsOnly p.part p.updates.items p.text.items

-- a frame led to this, unless memory ran out
abbrev pub Closes : Result (Option Message) FrameFault → State → Begun → Type 0
Closes (Ok None) after new = after ≡ Going new []
Closes (Ok (Some message)) after new = (after ≡ Waits message) × (new ≡ Nothing)
Closes (Err fault.BadFrame) after new = after ≡ Broken
Closes (Err fault.MemoryOut) after new = Unit {0}

-- the same of a frame that is a whole message
abbrev pub ClosesFirst : Result (Option Message) FrameFault → State → Type 0
ClosesFirst (Ok None) after = ⊥
ClosesFirst (Ok (Some message)) after = after ≡ Waits message
ClosesFirst (Err fault.BadFrame) after = after ≡ Broken
ClosesFirst (Err fault.MemoryOut) after = Unit {0}

-- ---- a decoder

abbrev pub refused : FrameFault → State
refused fault.BadFrame = Broken
refused fault.MemoryOut = Spent

abbrev pub or_refused : Option FrameFault → State → State
or_refused None s = s
or_refused (Some e) s = refused e

abbrev pub or_waiting : Option Message → State → State
or_waiting None s = s
or_waiting (Some message) s = Waits message

abbrev pub state_of : Option Message → Option FrameFault → Begun → List ℕ → State
state_of waiting fault begun held = or_waiting waiting (or_refused fault (Going begun held))

-- Of a frame that is not whole: what came of it is good.
pub record IsPart (begun : Begun) (held : List ℕ) : Type 0 where
  pub length_good : 4 ≤ length held → is_length (big_number 4 held) ≡ true
  pub kind_good : 5 ≤ length held → may_come begun (slice_index held 4) ≡ true
  pub short : 4 ≤ length held → length held < 4 + big_number 4 held

-- how many bytes more are judged together: those of the length, the kind, or what stands behind it
unfoldable pub need : List ℕ → ℕ
need held =
    if nat_lt (length held) 4 then 4 - length held
    else if nat_eq (length held) 4 then 1
    else 4 + big_number 4 held - length held

-- where a message waits, nothing is held
abbrev pub IsHeld : Option Message → Option FrameFault → Progress → List ℕ → Type 0
IsHeld None None p held = IsBegun p × IsPart (begun p) held
IsHeld None (Some e) p held = Unit {0}
IsHeld (Some message) None p held = IsBegun p × ((begun p ≡ Nothing) × (held ≡ []))
IsHeld (Some message) (Some e) p held = ⊥

-- the bytes held were judged, unless memory ran out
abbrev pub Settles : Result (Option Message) FrameFault → State → Begun → List ℕ → Type 0
Settles (Ok None) after new held = (after ≡ Going new held) × IsPart new held
Settles (Ok (Some message)) after new held = (after ≡ Waits message) × ((new ≡ Nothing) × (held ≡ []))
Settles (Err fault.BadFrame) after new held = after ≡ Broken
Settles (Err fault.MemoryOut) after new held = Unit {0}

-- so many bytes of these were taken, and the others are left
pub record Advances (bytes : List ℕ) (old : State) (count : ℕ) (new : State) : Type 0 where
  pub some : 0 < count
  pub within : count ≤ length bytes
  pub leads : fed new (drop count bytes) ≡ fed old bytes
  pub counts : count + taken new (drop count bytes) ≡ taken old bytes
  pub sound : is_sound new ≡ true

-- What the bytes of the control file have in force.
use Rattle.std.specs.Prelude.{ℕ, ◌+◌, ◌%◌, List, take, drop, length, nat_lt, nat_eq}
use Rattle.std.specs.Prelude.{slice_index, Option, Some, None, if◌then◌else◌}
use Rattle.kdb_control.specs.declared.force.Slot.{Slot}
use Rattle.kdb_control.specs.declared.force.Slot.TheVariants.{Closed, Holds, Torn}
use Rattle.kdb_control.specs.declared.force.Force.{Force}
use Rattle.kdb_control.specs.declared.force.Force.TheVariants.{Nothing, Is, Broken}
use Rattle.kdb_control.specs.Choice.{Choice}
use Rattle.kdb_control.specs.Bodies.{body_at}

-- the bytes of the slot at a place, as far as the file goes
unfoldable pub slot_bytes : ℕ → List ℕ → List ℕ
slot_bytes at file = take 64 (drop at file)

abbrev pub of_body : Option (Choice × List ℕ) → Slot
of_body (Some read) = Holds read.0
of_body None = Torn

-- A slot is whole where it has 64 bytes, and open where its gate is a5 hexadecimal. All else is closed.
unfoldable pub slot : List ℕ → Slot
slot bytes = if nat_lt (length bytes) 64 then Closed
    else if nat_eq (slice_index bytes 0) 165 then of_body (body_at (drop 1 bytes)) else Closed

unfoldable pub turn_after : ℕ → ℕ
turn_after turn = (turn + 1) % 3

-- of two open slots the one whose turn comes after the other's
unfoldable pub newer_of : Choice → Choice → Force
newer_of first second = if nat_eq second.turn (turn_after first.turn) then Is second
    else if nat_eq first.turn (turn_after second.turn) then Is first else Broken 64

unfoldable pub newer : Slot → Slot → Force
newer Torn second = Broken 0
newer Closed Torn = Broken 64
newer Closed Closed = Nothing
newer Closed (Holds second) = Is second
newer (Holds first) Torn = Broken 64
newer (Holds first) Closed = Is first
newer (Holds first) (Holds second) = newer_of first second

-- the newer of the slots at 0 and at 64
unfoldable pub in_force : List ℕ → Force
in_force file = newer (slot (slot_bytes 0 file)) (slot (slot_bytes 64 file))

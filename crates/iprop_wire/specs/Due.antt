-- What a replica waits for, and whether bytes that came are that, or go on to it.
use Rattle.std.specs.Prelude.{ℕ, Bool, true, false, not, ◌&&◌, ◌||◌, List, length}
use Rattle.std.specs.Prelude.{slice_index, nat_eq, nat_lt, if◌then◌else◌}
use Rattle.iprop_wire.specs.Decoding.{Begun, Nothing, Updates, Pieces, State, Going}
use Rattle.iprop_wire.specs.Decoding.{Waits, Broken, Spent, brings, is_of_dump}
use Rattle.iprop_wire.specs.Frames.{reply_kind}
use Rattle.iprop_wire.specs.declared.due.Due.{Due}
use Rattle.iprop_wire.specs.declared.due.Due.TheVariants as due
use Rattle.iprop_wire.specs.declared.messages.Message.{Message}
use Rattle.iprop_wire.specs.declared.messages.Message.TheVariants.{Hello, Poll, Ask, Reply, DumpText}

abbrev pub wants_dump : Due → Bool
wants_dump due.Reply = false
wants_dump due.Dump = true

-- In place of a dump a reply may come, which has no updates.
abbrev pub is_due_message : Due → Message → Bool
is_due_message d (Hello name) = false
is_due_message d (Poll asked) = false
is_due_message d Ask = false
is_due_message d (Reply r) = not (wants_dump d && brings r.code)
is_due_message d (DumpText text) = wants_dump d

-- a frame of this kind begins such a message
abbrev pub is_due_kind : Due → ℕ → Bool
is_due_kind d kind = nat_eq kind reply_kind || (wants_dump d && is_of_dump kind)

-- what began goes on to such a message, as far as it is judged: the first frame once its kind came
abbrev pub is_due_begun : Due → Begun → List ℕ → Bool
is_due_begun d Nothing held = nat_lt (length held) 5 || is_due_kind d (slice_index held 4)
is_due_begun d (Updates asked left got) held = not (wants_dump d)
is_due_begun d (Pieces text) held = wants_dump d

abbrev pub is_due : Due → State → Bool
is_due d (Going begun held) = is_due_begun d begun held
is_due d (Waits message) = is_due_message d message
is_due d Broken = false
is_due d Spent = false

-- all else is refused
abbrev pub narrowed : Due → State → State
narrowed d s = if is_due d s then s else Broken

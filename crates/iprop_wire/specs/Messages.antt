-- Messages of incremental propagation as bytes, as they are written.
use Rattle.std.specs.Prelude.{ℕ, zero, suc, ◌<◌, ◌≤◌, ◌^◌, List, [], ◌++◌, length, take, drop, nat_eq, if◌then◌else◌}
use Rattle.std.specs.List.{flat_map}
use Rattle.kdb_format.specs.Moments.{point}
use Rattle.kdb_format.specs.Spellings.{big}
use Rattle.princ_rows.specs.Entries.{sent}
use Rattle.princ_rows.specs.Replies.{number_of}
use Rattle.princ_rows.specs.Replies.{Reply as ReplyParts}
use Rattle.princ_rows.specs.declared.entries.Entry.{Entry}
use Rattle.iprop_wire.specs.Frames.{frame_text, most_behind, hello_kind, poll_kind, ask_kind}
use Rattle.iprop_wire.specs.Frames.{reply_kind, update_kind, piece_kind, total_kind}
use Rattle.iprop_wire.specs.declared.formats.Head.{Head}
use Rattle.iprop_wire.specs.declared.messages.Message.{Message}
use Rattle.iprop_wire.specs.declared.messages.Message.TheVariants.{Hello, Poll, Ask, Reply, DumpText}

-- ---- a reply: its head, and a frame for each update

-- the code, the point that was asked for, and how many updates follow
unfoldable pub head_text : Head → List ℕ
head_text h = big 1 (number_of h.code) ++ (point h.asked ++ big 4 h.count)

abbrev pub head_of : ReplyParts → Head
head_of r = record { code = r.code; asked = r.asked; count = length r.updates }

unfoldable pub update_text : Entry → List ℕ
update_text e = frame_text update_kind (sent e)

-- ---- a dump: its text in pieces, and how long it was

-- the text in pieces as long as may be, at most n of them
unfoldable pub pieces_text : ℕ → List ℕ → List ℕ
pieces_text zero text = []
pieces_text (suc n) text = if nat_eq (length text) 0 then []
    else frame_text piece_kind (take most_behind text) ++ pieces_text n (drop most_behind text)

unfoldable pub dump_frames : List ℕ → List ℕ
dump_frames text = pieces_text (length text) text ++ frame_text total_kind (big 8 (length text))

-- ---- messages

unfoldable pub message_text : Message → List ℕ
message_text (Hello name) = frame_text hello_kind name
message_text (Poll asked) = frame_text poll_kind (point asked)
message_text Ask = frame_text ask_kind []
message_text (Reply r) = frame_text reply_kind (head_text (head_of r)) ++ flat_map update_text r.updates
message_text (DumpText text) = dump_frames text

-- the name fits into a frame, and the updates can be counted
abbrev pub FitsFrames : Message → Type 0
FitsFrames (Hello name) = length name ≤ most_behind
FitsFrames (Poll asked) = Unit {0}
FitsFrames Ask = Unit {0}
FitsFrames (Reply r) = length r.updates < 2 ^ 32
FitsFrames (DumpText text) = Unit {0}

-- The grammar of messages: which bytes spell which. A dump may be cut into pieces anywhere, and every other message has
-- one spelling.
use Rattle.std.specs.Prelude.{ℕ, ◌≡◌, ◌<◌, ◌≤◌, ◌^◌, List, [], ◌∷◌, ◌++◌, length, map}
use Rattle.std.specs.List.{All, flat_map}
use Rattle.kdb_format.specs.Moments.{point, IsPoint}
use Rattle.kdb_format.specs.Spellings.{big}
use Rattle.princ_rows.specs.Entries.{sent}
use Rattle.princ_rows.specs.Replies.{IsReply}
use Rattle.princ_rows.specs.declared.entries.Entry.{Entry}
use Rattle.iprop_wire.specs.Frames.{Frame, frame, text_of, most_behind, hello_kind, poll_kind}
use Rattle.iprop_wire.specs.Frames.{ask_kind, reply_kind, update_kind, piece_kind, total_kind}
use Rattle.iprop_wire.specs.HeadLaws.{IsHead}
use Rattle.iprop_wire.specs.Messages.{head_of, head_text}
use Rattle.iprop_wire.specs.declared.messages.Message.{Message}
use Rattle.iprop_wire.specs.declared.messages.Message.TheVariants.{Hello, Poll, Ask, Reply, DumpText}

-- ---- which messages there are

-- a name fits into a frame; the code, the point and the number of updates are known; the length of a dump can be
-- written
abbrev pub IsMessage : Message → Type 0
IsMessage (Hello name) = length name ≤ most_behind
IsMessage (Poll asked) = IsPoint asked
IsMessage Ask = Unit {0}
IsMessage (Reply r) = IsHead (head_of r) × IsReply r.code r.updates
IsMessage (DumpText text) = length text < 2 ^ 64

-- ---- their frames

abbrev pub update_frame : Entry → Frame
update_frame e = frame update_kind (sent e)

-- a piece of a dump
abbrev pub IsPiece : List ℕ → Type 0
IsPiece piece = (0 < length piece) × (length piece ≤ most_behind)

-- the pieces of a dump, and a last frame with the number of its bytes
pub record AreOfDump (frames : List Frame) (text : List ℕ) : Type 0 where
  pub pieces : List (List ℕ)
  pub are : All IsPiece pieces
  pub whole : flat_map (λ piece. piece) pieces ≡ text
  pub frames_are : frames ≡ map (frame piece_kind) pieces ++ (frame total_kind (big 8 (length text)) ∷ [])

abbrev pub AreFrames : List Frame → Message → Type 0
AreFrames frames (Hello name) = frames ≡ frame hello_kind name ∷ []
AreFrames frames (Poll asked) = frames ≡ frame poll_kind (point asked) ∷ []
AreFrames frames Ask = frames ≡ frame ask_kind [] ∷ []
AreFrames frames (Reply r) = frames ≡ frame reply_kind (head_text (head_of r)) ∷ map update_frame r.updates
AreFrames frames (DumpText text) = AreOfDump frames text

pub record Spells (text : List ℕ) (message : Message) : Type 0 where
  pub is_message : IsMessage message
  pub frames : List Frame
  pub are : AreFrames frames message
  pub whole : text ≡ flat_map text_of frames

-- it is no dump, which may be cut into pieces anywhere
abbrev pub IsUncut : Message → Type 0
IsUncut (Hello name) = Unit {0}
IsUncut (Poll asked) = Unit {0}
IsUncut Ask = Unit {0}
IsUncut (Reply r) = Unit {0}
IsUncut (DumpText text) = ⊥

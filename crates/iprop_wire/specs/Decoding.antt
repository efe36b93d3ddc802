-- What bytes that come on a connection are: messages, one after the other, each of one or more frames.
use Rattle.std.specs.Prelude.{ℕ, ◌+◌, ◌-◌, ◌≡◌, Bool, true, false, not, ◌&&◌, ◌||◌, List, [], ◌∷◌, ◌++◌, length}
use Rattle.std.specs.Prelude.{drop, slice_index, Option, Some, None, nat_eq, nat_lt, nat_le, if◌then◌else◌}
use Rattle.byteorder.specs.Endian.{big_number}
use Rattle.kdb_base.specs.declared.moments.Point.{Point}
use Rattle.kdb_format.specs.Moments.{point_at}
use Rattle.kdb_format.specs.Readings.{Reading, ◌>>=◌, done, known, big_at, whole}
use Rattle.princ_rows.specs.Entries.{sent_at}
use Rattle.princ_rows.specs.Replies.{code_of}
use Rattle.princ_rows.specs.declared.entries.Entry.{Entry}
use Rattle.princ_rows.specs.declared.replies.ReplyCode.{ReplyCode}
use Rattle.princ_rows.specs.declared.replies.ReplyCode.TheVariants.{UpdateOk, FullResyncNeeded, Busy, Nil, PermDenied}
use Rattle.iprop_wire.specs.Frames.{longest_body, hello_kind, poll_kind, ask_kind}
use Rattle.iprop_wire.specs.Frames.{reply_kind, update_kind, piece_kind, total_kind}
use Rattle.iprop_wire.specs.declared.formats.Head.{Head}
use Rattle.iprop_wire.specs.declared.messages.Message.{Message}
use Rattle.iprop_wire.specs.declared.messages.Message.TheVariants.{Hello, Poll, Ask, Reply, DumpText}

-- what the whole frames of a message began
pub data Begun : Type 0 where
  Nothing : Begun
  -- the updates so far, and how many follow
  Updates : (asked : Point) (left : ℕ) (got : List Entry) → Begun
  -- the dump so far
  Pieces : (text : List ℕ) → Begun

pub data State : Type 0 where
  -- between frames, or in one of which these bytes came
  Going : (begun : Begun) (held : List ℕ) → State
  -- the bytes so far are this message
  Waits : (message : Message) → State
  -- no message goes on like this
  Broken : State
  -- memory ran out
  Spent : State

abbrev pub fresh : State
fresh = Going Nothing []

-- ---- a whole frame

abbrev pub or_broken : {A : Type 0} → Option A → (A → State) → State
or_broken None next = Broken
or_broken (Some x) next = next x

-- the code, the point that was asked for, and the number of updates
unfoldable pub head_at : Reading Head
head_at = do
  number ← big_at 1
  code ← known (code_of number)
  asked ← point_at
  count ← big_at 4
  done (record { code = code; asked = asked; count = count })

-- nothing stands behind the kind
abbrev pub after_ask : List ℕ → State
after_ask behind = if nat_eq (length behind) 0 then Waits Ask else Broken

-- updates come with UpdateOk alone
abbrev pub brings : ReplyCode → Bool
brings UpdateOk = true
brings FullResyncNeeded = false
brings Busy = false
brings Nil = false
brings PermDenied = false

abbrev pub after_head : Head → State
after_head h =
    if nat_eq h.count 0 then Waits (Reply (record { code = h.code; asked = h.asked; updates = [] }))
    else if brings h.code then Going (Updates h.asked h.count []) []
    else Broken

abbrev pub after_update : Point → ℕ → List Entry → Entry → State
after_update asked left got e =
    if nat_eq left 1 then Waits (Reply (record { code = UpdateOk; asked = asked; updates = got ++ (e ∷ []) }))
    else Going (Updates asked (left - 1) (got ++ (e ∷ []))) []

-- a piece is never empty
abbrev pub after_piece : List ℕ → List ℕ → State
after_piece text piece = if nat_eq (length piece) 0 then Broken else Going (Pieces (text ++ piece)) []

-- the number is the length of all pieces together
abbrev pub after_total : List ℕ → ℕ → State
after_total text total = if nat_eq total (length text) then Waits (DumpText text) else Broken

unfoldable pub after_dump_frame : List ℕ → ℕ → List ℕ → State
after_dump_frame text kind behind =
    if nat_eq kind piece_kind then after_piece text behind
    else if nat_eq kind total_kind then or_broken (whole (big_at 8) behind) (after_total text)
    else Broken

unfoldable pub after_update_frame : Point → ℕ → List Entry → ℕ → List ℕ → State
after_update_frame asked left got kind behind =
    if nat_eq kind update_kind then or_broken (whole sent_at behind) (after_update asked left got) else Broken

unfoldable pub after_first_frame : ℕ → List ℕ → State
after_first_frame kind behind =
    if nat_eq kind hello_kind then Waits (Hello behind)
    else if nat_eq kind poll_kind then or_broken (whole point_at behind) (λ asked. Waits (Poll asked))
    else if nat_eq kind ask_kind then after_ask behind
    else if nat_eq kind reply_kind then or_broken (whole head_at behind) after_head
    else after_dump_frame [] kind behind

-- what a whole frame leads to: its kind, and the bytes behind it
unfoldable pub after_frame : Begun → ℕ → List ℕ → State
after_frame Nothing kind behind = after_first_frame kind behind
after_frame (Updates asked left got) kind behind = after_update_frame asked left got kind behind
after_frame (Pieces text) kind behind = after_dump_frame text kind behind

-- ---- bytes

abbrev pub is_length : ℕ → Bool
is_length n = nat_lt 0 n && nat_le n longest_body

abbrev pub is_of_dump : ℕ → Bool
is_of_dump kind = nat_eq kind piece_kind || nat_eq kind total_kind

abbrev pub may_begin : ℕ → Bool
may_begin kind =
    nat_eq kind hello_kind || nat_eq kind poll_kind || nat_eq kind ask_kind || nat_eq kind reply_kind || is_of_dump kind

-- the kinds of frame that may come here
unfoldable pub may_come : Begun → ℕ → Bool
may_come Nothing kind = may_begin kind
may_come (Updates asked left got) kind = nat_eq kind update_kind
may_come (Pieces text) kind = is_of_dump kind

-- A length is judged once its four bytes came, a kind once it came, and what stands behind it once it came whole.
unfoldable pub settled : Begun → List ℕ → State
settled begun held =
    if nat_lt (length held) 4 then Going begun held
    else if not (is_length (big_number 4 held)) then Broken
    else if nat_lt (length held) 5 then Going begun held
    else if not (may_come begun (slice_index held 4)) then Broken
    else if nat_lt (length held) (4 + big_number 4 held) then Going begun held
    else after_frame begun (slice_index held 4) (drop 5 held)

-- what bytes lead to, up to the end of the first whole message in them
unfoldable pub fed : State → List ℕ → State
fed s [] = s
fed (Going begun held) (b ∷ bytes) = fed (settled begun (held ++ (b ∷ []))) bytes
fed (Waits message) (b ∷ bytes) = Waits message
fed Broken (b ∷ bytes) = Broken
fed Spent (b ∷ bytes) = Spent

-- how many of them that are
unfoldable pub taken : State → List ℕ → ℕ
taken s [] = 0
taken (Going begun held) (b ∷ bytes) = 1 + taken (settled begun (held ++ (b ∷ []))) bytes
taken (Waits message) (b ∷ bytes) = 0
taken Broken (b ∷ bytes) = 0
taken Spent (b ∷ bytes) = 0

-- ---- a decoder

-- what waits, and what is left when it was handed out
abbrev pub waiting_in : State → Option Message
waiting_in (Going begun held) = None
waiting_in (Waits message) = Some message
waiting_in Broken = None
waiting_in Spent = None

abbrev pub handed_out : State → State
handed_out (Going begun held) = Going begun held
handed_out (Waits message) = fresh
handed_out Broken = Broken
handed_out Spent = Spent

abbrev pub is_nothing : Begun → Bool
is_nothing Nothing = true
is_nothing (Updates asked left got) = false
is_nothing (Pieces text) = false

-- the bytes end with a whole message, or there are none
abbrev pub is_idle : State → Bool
is_idle (Going begun held) = is_nothing begun && nat_eq (length held) 0
is_idle (Waits message) = true
is_idle Broken = false
is_idle Spent = false

-- it takes bytes
abbrev pub is_going : State → Bool
is_going (Going begun held) = true
is_going (Waits message) = false
is_going Broken = false
is_going Spent = false

-- it takes bytes, or has a message
abbrev pub is_sound : State → Bool
is_sound (Going begun held) = true
is_sound (Waits message) = true
is_sound Broken = false
is_sound Spent = false

-- these bytes were taken of a piece, and led to this
pub record Takes (piece : List ℕ) (old : State) (count : ℕ) (new : State) : Type 0 where
  pub count_is : count ≡ taken old piece
  pub leads : new ≡ fed old piece
  pub sound : is_sound new ≡ true

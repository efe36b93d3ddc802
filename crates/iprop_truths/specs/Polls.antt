-- What a poll is told by who holds these entries (the codes of MIT's iprop.x).
use Rattle.std.specs.Prelude.{ℕ, ◌≡◌, ◌⊎◌, Bool, List, [], Option, Some, None, if◌then◌else◌}
use Rattle.iprop_reply.specs.Polls.{status_of, updates_after}
use Rattle.iprop_reply.specs.declared.status.Status4.{Status4}
use Rattle.iprop_reply.specs.declared.status.Status4.TheVariants as status
use Rattle.kdb_base.specs.declared.moments.Point.{Point}
use Rattle.princ_rows.specs.declared.entries.Entry.{Entry}

-- ---- codes

-- UPDATE_OK
abbrev pub updates_here : ℕ
updates_here = 0

-- UPDATE_FULL_RESYNC_NEEDED: a dump is to be asked for
abbrev pub resync_needed : ℕ
resync_needed = 2

-- UPDATE_BUSY: a dump is needed, and none can be begun
abbrev pub dumps_busy : ℕ
dumps_busy = 3

-- UPDATE_NIL
abbrev pub nothing_new : ℕ
nothing_new = 4

-- UPDATE_PERM_DENIED
abbrev pub poll_denied : ℕ
poll_denied = 5

abbrev pub code_of : Bool → Status4 → ℕ
code_of busy status.Ok = updates_here
code_of busy status.Nil = nothing_new
code_of busy status.Resync = if busy then dumps_busy else resync_needed

-- a dump is wanted, whether one can be begun or not
abbrev pub WantsDump : ℕ → Type 0
WantsDump code = (code ≡ resync_needed) ⊎ (code ≡ dumps_busy)

-- ---- replies

pub record PollReply : Type 0 where
  pub code : ℕ
  -- the point that the poll was asked from
  pub asked : Point
  pub updates : List Entry

abbrev pub reply_of : ℕ → Point → List Entry → PollReply
reply_of code asked updates = record { code = code; asked = asked; updates = updates }

abbrev pub updates_in : Option (List Entry) → List Entry
updates_in None = []
updates_in (Some us) = us

-- by what came behind the point, where an entry has it
abbrev pub told_of : Bool → Point → Option (List Entry) → PollReply
told_of busy asked updates = reply_of (code_of busy (status_of updates)) asked (updates_in updates)

-- The reply to a poll from a point. A client that is denied is told of nothing, and one that needs a dump while none
-- can be begun is told so.
abbrev pub poll_reply : Bool → Bool → Point → List Entry → PollReply
poll_reply denied busy asked held =
    if denied then reply_of poll_denied asked [] else told_of busy asked (updates_after asked held)

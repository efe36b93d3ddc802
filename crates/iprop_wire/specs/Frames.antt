-- Frames of incremental propagation: the length of the body in four bytes, and the body, whose first byte is its kind.
use Rattle.std.specs.Prelude.{ℕ, ◌+◌, List, ◌++◌, length}
use Rattle.kdb_format.specs.Spellings.{big}

-- the bytes of a body
abbrev pub longest_body : ℕ
longest_body = 65536

-- the bytes of a body behind its kind
abbrev pub most_behind : ℕ
most_behind = 65535

-- ---- kinds

-- from a replica: who it is, the point that it has reached, and that it wants the dump
abbrev pub hello_kind : ℕ
hello_kind = 16

abbrev pub poll_kind : ℕ
poll_kind = 1

abbrev pub ask_kind : ℕ
ask_kind = 2

-- from a primary: the head of a reply and each update, a piece of a dump and how long the dump was
abbrev pub reply_kind : ℕ
reply_kind = 17

abbrev pub update_kind : ℕ
update_kind = 20

abbrev pub piece_kind : ℕ
piece_kind = 18

abbrev pub total_kind : ℕ
total_kind = 19

-- ---- texts

unfoldable pub frame_text : ℕ → List ℕ → List ℕ
frame_text kind behind = big 4 (1 + length behind) ++ (big 1 kind ++ behind)

pub record Frame : Type 0 where
  pub kind : ℕ
  -- what stands behind the kind
  pub behind : List ℕ

abbrev pub frame : ℕ → List ℕ → Frame
frame kind behind = record { kind = kind; behind = behind }

abbrev pub text_of : Frame → List ℕ
text_of f = frame_text f.kind f.behind

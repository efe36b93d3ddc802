-- Whether a change begins the log anew, and the blocks of the log behind it, told of the state.
use Rattle.std.specs.Prelude.{ℕ, ◌≡◌, ◌+◌, ◌*◌, ◌/◌, Bool, false, ◌||◌, nat_eq}
use Rattle.std.specs.Prelude.{nat_le, Option, Some, None, if◌then◌else◌}
use Rattle.entry_lengths.specs.Lengths.{entry_len_in}
use Rattle.entry_lengths.specs.Rekeyings.{rekeyed_in}
use Rattle.iprop_truths.specs.Blocks.{block_for}
use Rattle.kdb_base.specs.Moment.{Moment}
use Rattle.kdb_model.specs.Calls.{Call}
use Rattle.kdb_model.specs.Entries.{entry}
use Rattle.kdb_places.specs.Places.{Place}
use Rattle.kdb_plain.specs.declared.changes.PlainOp.{PlainOp}
use Rattle.kdb_plain.specs.declared.states.State.{State}
use Rattle.princ_name.specs.Names.{NameParts}
use Rattle.princ_rows.specs.declared.entries.Op.{Op}

-- the block is no longer than the entry, which stands in it behind a byte
abbrev pub is_too_long_in : ℕ → State → PlainOp → Bool
is_too_long_in block s op = nat_le block (entry_len_in s op)

-- no serial is left, or the entry is too long; of a change, where there is one
abbrev pub is_due_in : ℕ → State → Option PlainOp → Bool
is_due_in block s None = false
is_due_in block s (Some op) = nat_eq s.point.sno 4294967295 || is_too_long_in block s op

-- whether the change that the call makes begins a log with blocks of this length anew
abbrev pub due_in : ℕ → State → Call → Bool
due_in block s call = is_due_in block s (entry s call)

-- the same of a rekeying, done at once or by work that comes back
abbrev pub rekeying_due_in : ℕ → State → NameParts → Moment → Bool
rekeying_due_in block s name clock = is_due_in block s (rekeyed_in s name clock)

-- the least multiple of 2048 above an entry's length where the block is too short for it, else the block that there is
abbrev pub block_over : ℕ → ℕ → ℕ
block_over block n = if nat_le block n then (n / 2048 + 1) * 2048 else block

abbrev pub block_in : ℕ → State → PlainOp → ℕ
block_in block s op = block_over block (entry_len_in s op)

-- the blocks behind this change of rows are as long as is told of this change of the state
abbrev pub HasItsBlock : Place → State → Op → PlainOp → Type 0
HasItsBlock p s op plain = block_for op p ≡ block_in p.block s plain

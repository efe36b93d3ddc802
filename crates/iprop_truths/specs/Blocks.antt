-- Blocks of a log, of which an entry takes one behind a byte for its gate.
use Rattle.std.specs.Prelude.{ℕ, ◌+◌, ◌*◌, ◌/◌, Bool, nat_le, Some, if◌then◌else◌}
use Rattle.kdb_places.specs.Places.{Place}
use Rattle.princ_rows.specs.Entries.{entry_len}
use Rattle.princ_rows.specs.declared.entries.Op.{Op}

-- the entry of the change does not fit into a block
abbrev pub is_too_long : Op → Place → Bool
is_too_long op p = nat_le p.block (entry_len (Some op))

-- the least multiple of 2048 above the entry's length, where it does not, and else the block that there is
abbrev pub block_for : Op → Place → ℕ
block_for op p = if is_too_long op p then (entry_len (Some op) / 2048 + 1) * 2048 else p.block

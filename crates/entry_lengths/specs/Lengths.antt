-- How long the log's entry of a change is, told of the state in which it is made: 21 bytes, the name under which the
-- entry stands, and the row that it puts.
use Rattle.std.specs.Prelude.{ℕ, ◌≡◌, ◌+◌, length, Some}
use Rattle.kdb_model.specs.Refusals.{bytes_put, len_in}
use Rattle.kdb_plain.specs.declared.changes.PlainOp.{PlainOp}
use Rattle.kdb_plain.specs.declared.changes.PlainOp.TheVariants.{PutPrinc, DropPrinc, Rename}
use Rattle.kdb_plain.specs.declared.changes.PlainOp.TheVariants.{PutPolicy, DropPolicy, PutMasters}
use Rattle.kdb_plain.specs.declared.states.State.{State}
use Rattle.princ_record.specs.Policies.{policy}
use Rattle.princ_rows.specs.Entries.{entry_len}
use Rattle.princ_rows.specs.declared.entries.Op.{Op}

unfoldable pub entry_len_in : State → PlainOp → ℕ
entry_len_in s (PutPrinc q) = 21 + length q.name + len_in s q
entry_len_in s (DropPrinc name) = 21 + length name
entry_len_in s (Rename old q) = 21 + length old + len_in s q
entry_len_in s (PutPolicy p) = 21 + length p.name + length (policy p)
entry_len_in s (DropPolicy name) = 21 + length name
entry_len_in s (PutMasters q masters activations) =
    21 + length q.name + bytes_put s (Some (PutMasters q masters activations))

-- the entry of this change of rows is as long as is told of this change of the state
abbrev pub IsAsLong : State → Op → PlainOp → Type 0
IsAsLong s op plain = entry_len (Some op) ≡ entry_len_in s plain

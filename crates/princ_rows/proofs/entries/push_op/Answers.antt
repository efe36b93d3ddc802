use Rattle.std.proofs.Common.{ℕ, List, length, ap, arith}
use Rattle.princ_rows.specs.EntryLaws.{key_short}
use Rattle.princ_rows.proofs.entries.push_op.Goals as goal

pub push_counted-requires : goal.push_counted-requires
push_counted-requires c =
    omega (arith, key_short c.args.op.now c.requires, ap (λ (xs : List ℕ). length xs) c.key_of.ensures)

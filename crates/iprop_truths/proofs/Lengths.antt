-- The block that a log takes for an entry is longer than it.
use Rattle.std.proofs.Common.{◌≡◌, ℕ, ◌+◌, ◌*◌, ◌/◌, ◌<◌, Bool, true, false, Some, refl, arith}
use Rattle.std.specs.Prelude.{nat_le, if◌then◌else◌}
use Rattle.std.proofs.lemmas.Bool.{leb-false}
use Rattle.iprop_truths.specs.Blocks.{block_for}
use Rattle.kdb_places.specs.Places.{Place}
use Rattle.princ_rows.specs.Entries.{entry_len}
use Rattle.princ_rows.specs.declared.entries.Op.{Op}

takes_by : (n block : ℕ) (long : Bool) → nat_le block n ≡ long → n < (if long then (n / 2048 + 1) * 2048 else block)
takes_by n block true is = omega arith
takes_by n block false is = omega (arith, leb-false block n is)

pub block_takes : (op : Op) (p : Place) → entry_len (Some op) < block_for op p
block_takes op p = takes_by (entry_len (Some op)) p.block (nat_le p.block (entry_len (Some op))) refl

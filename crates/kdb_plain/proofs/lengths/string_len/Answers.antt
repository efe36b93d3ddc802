use Rattle.std.proofs.Common.{arith, refl, ◌+◌, length}
use Rattle.kdb_plain.proofs.lengths.string_len.Goals as goal

pub returns : goal.returns
returns c =
    let text =
    c.add-text.ensures (length c.args.item.now.key) (length c.args.item.now.value) (grind arith) (grind arith) in
    let whole = c.add.ensures 2 (length c.args.item.now.key + length c.args.item.now.value) refl text in
    grind arith

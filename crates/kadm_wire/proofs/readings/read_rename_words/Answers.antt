use Rattle.std.proofs.Common.{arith}
use Rattle.kadm_wire.proofs.WordLemmas.{within_at}
use Rattle.kadm_wire.proofs.readings.read_rename_words.Goals as goal

pub read_rename-requires-clause-old : goal.read_rename-requires-clause-old
read_rename-requires-clause-old c =
    let many = c.in-len2.len_at_least in
    rw c.as_slice.ensures (within_at 65536 c.args.words.now 0 _ c.requires (omega arith) c.word-item.is)

pub read_rename-requires-clause-new : goal.read_rename-requires-clause-new
read_rename-requires-clause-new c =
    let many = c.in-len2.len_at_least in
    rw c.as_slice-in-len2.ensures (within_at 65536 c.args.words.now 1 _ c.requires (omega arith) c.new-item.is)

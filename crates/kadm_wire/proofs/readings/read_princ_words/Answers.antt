use Rattle.std.proofs.Common.{arith}
use Rattle.kadm_wire.proofs.WordLemmas.{within_at}
use Rattle.kadm_wire.proofs.readings.read_princ_words.Goals as goal

pub read_on_princ-requires : goal.read_on_princ-requires
read_on_princ-requires c =
    let many = c.in-len1.len_at_least in
    rw c.as_slice.ensures (within_at 65536 c.args.words.now 0 _ c.requires (omega arith) c.word-item.is)

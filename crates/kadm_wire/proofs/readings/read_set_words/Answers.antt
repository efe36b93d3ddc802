use Rattle.std.proofs.Common.{arith}
use Rattle.kadm_wire.proofs.WordLemmas.{within_at}
use Rattle.kadm_wire.proofs.readings.read_set_words.Goals as goal

pub read_set_string-requires : goal.read_set_string-requires
read_set_string-requires c =
    let many = c.in-len3.len_at_least in
    rw c.as_slice.ensures (within_at 65536 c.args.words.now 0 _ c.requires (omega arith) c.word-item.is)

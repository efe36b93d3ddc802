use Rattle.kadm_wire.proofs.WordLemmas.{short_tail}
use Rattle.kadm_wire.proofs.lines.read_words.Goals as goal

pub read_behind-requires : goal.read_behind-requires
read_behind-requires c = short_tail 65536 _ c.in-Some.behind.now c.args.words.now c.in-Some.ensures.cases.0 c.requires

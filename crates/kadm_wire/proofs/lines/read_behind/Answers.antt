use Rattle.kadm_words.proofs.ShortWords.{short_drop}
use Rattle.kadm_wire.proofs.WordLemmas.{others_short, short_take}
use Rattle.kadm_wire.proofs.lines.read_behind.Goals as goal

pub read_whole-requires : goal.read_whole-requires
read_whole-requires c =
    rw c.behind_dashes-others.ensures
    (others_short 65536 _ (short_take 65536 _ _ (short_drop 65536 c.in-Some.found.count c.args.words.now c.requires)))

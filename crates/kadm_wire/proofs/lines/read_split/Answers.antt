use Rattle.kadm_wire.proofs.WordLemmas.{words_of_line}
use Rattle.kadm_wire.proofs.lines.read_split.Goals as goal

pub read_words-requires : goal.read_words-requires
read_words-requires c =
    rw c.as_slice.ensures.value
    (words_of_line (λ v. v.items) c.args.line.now _ c.in-Some.words c.in-Some.is
    c.in_ok-words.ensures.spelled c.requires)

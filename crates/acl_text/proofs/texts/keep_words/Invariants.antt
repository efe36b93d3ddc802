use Rattle.std.proofs.Common.{◌≡◌, ◌++◌, drop, map, filter}
use Rattle.acl_text.specs.Texts.{is_word}
use Rattle.acl_text.proofs.texts.keep_words.Given as goal

abbrev pub invariant-loop-at : goal.invariant-loop-at
invariant-loop-at l =
    l.words.items ++ filter is_word (drop l.at (map (λ p. p.now) l.pieces)) ≡ filter is_word (map (λ p. p.now) l.pieces)

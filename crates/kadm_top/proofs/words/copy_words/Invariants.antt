use Rattle.std.proofs.Common.{◌≡◌, map, take}
use Rattle.kadm_top.proofs.words.copy_words.Given as goal

abbrev pub invariant-loop-word : goal.invariant-loop-word
invariant-loop-word l = l.copies.items ≡ map (λ word. word.items) (take l.word-index l.words)

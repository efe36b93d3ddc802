use Rattle.std.proofs.Common.{◌≡◌, drop}
use Rattle.kadm_words.specs.Splitting.{words_of, words_from}
use Rattle.kadm_words.specs.declared.words.Place.TheVariants.{Between}
use Rattle.kadm_words.proofs.words.split_words.Given as goal

-- what comes of the words that were read and the bytes that are left
abbrev pub invariant-loop-byte : goal.invariant-loop-byte
invariant-loop-byte l = words_of l.splitter (drop l.byte-index l.line) ≡ words_from Between l.line

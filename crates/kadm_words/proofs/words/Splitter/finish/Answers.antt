use Rattle.std.proofs.Common.{sym}
use Rattle.kadm_words.proofs.SplittingLemmas.{end_between, end_quoted, end_in_word}
use Rattle.kadm_words.proofs.words.Splitter.finish.Goals as goal

pub returns-in-Between : goal.returns-in-Between
returns-in-Between c = sym (end_between c.args.self c.in-Between.is)

pub returns-in-InQuoted : goal.returns-in-InQuoted
returns-in-InQuoted c = sym (end_quoted c.args.self c.in-InQuoted.is)

pub returns-in_ok-end_word-in-InPlain : goal.returns-in_ok-end_word-in-InPlain
returns-in_ok-end_word-in-InPlain c =
    end_in_word c.args.self _ c.in-InPlain.is c.in_ok-end_word-in-InPlain.ensures.words

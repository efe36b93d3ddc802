use Rattle.std.proofs.Common.{◌∙◌}
use Rattle.acl_text.proofs.TextLemmas.{word_kept}
use Rattle.acl_text.proofs.texts.keep_words.Goals as goal

pub loop-at-preserved : goal.loop-at-preserved
loop-at-preserved c =
    word_kept c.args.pieces.now c.loop-at.at _ c.loop-at.words.items c.keep_word.new.words.items c.loop-at-test.true
    c.in_ok-keep_word.ensures
    ∙ c.loop-at.invariant

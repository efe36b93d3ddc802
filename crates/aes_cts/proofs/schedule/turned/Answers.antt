use Rattle.std.proofs.Common.{arith, ◌∙◌, ap₂, sym}
use Rattle.aes_cts.specs.Cipher.{add_bytes}
use Rattle.aes_cts.specs.Words.{word_bytes}
use Rattle.aes_cts.proofs.Words.{word_of_xor}
use Rattle.aes_cts.proofs.Expansion.{turned_start, turned_half}
use Rattle.aes_cts.proofs.schedule.turned.Goals as goal

pub returns-then-index-stride-eq0 : goal.returns-then-index-stride-eq0
returns-then-index-stride-eq0 c =
    word_of_xor _ _ ∙ ap₂ add_bytes c.sub_turned_word.ensures c.round_constant.ensures
    ∙ sym (turned_start c.args.stride c.args.index (word_bytes c.args.last) (omega arith)
    (omega arith) c.if-index-stride-eq0.true)

pub returns-else-index-stride-eq0 : goal.returns-else-index-stride-eq0
returns-else-index-stride-eq0 c =
    c.sub_word.ensures ∙ sym (turned_half c.args.stride c.args.index (word_bytes c.args.last) (omega arith)
    (omega arith) c.if-index-stride-eq0.false)

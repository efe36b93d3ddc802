use Rattle.std.proofs.lemmas.List.Elements.{recursion_from_All, All-from_recursion}
use Rattle.aes_cts.proofs.OneText.{bytes_of_block, one_text}
use Rattle.aes_cts.proofs.texts_are_told.Goals as goal

pub returns-clause-block : goal.returns-clause-block
returns-clause-block c = λ key block long bytes whole h. All-from_recursion _ _
    (bytes_of_block key long (recursion_from_All _ key bytes) block whole (recursion_from_All _ block h))

pub returns-clause-text : goal.returns-clause-text
returns-clause-text c = λ key a b long bytes ha hb low same.
    one_text key long (recursion_from_All _ key bytes) a b (recursion_from_All _ a ha)
    (recursion_from_All _ b hb) low same

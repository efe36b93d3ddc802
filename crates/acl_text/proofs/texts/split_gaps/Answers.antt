use Rattle.std.proofs.Common.{Ok, rules, tests}
use Rattle.std.proofs.lemmas.Iterator.Consumers.{map_from_collect}
use Rattle.std.proofs.lemmas.Iterator.Splits.{YieldsList-from_slice_split}
use Rattle.acl_text.specs.Texts.{is_gap}
use Rattle.acl_text.proofs.texts.split_gaps.Goals as goal

pub returns : goal.returns
returns c =
    map_from_collect {E = Unit {0}} (Ok c.in_ok-pieces.pieces) c.in_ok-pieces.ensures.ran
    (YieldsList-from_slice_split _ is_gap c.args.text.now c.split.ensures.rest c.split.ensures.done
    c.split.ensures.closure (λ x r q k. search (rules, tests)))

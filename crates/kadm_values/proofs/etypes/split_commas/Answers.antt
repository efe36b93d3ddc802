use Rattle.std.proofs.Common.{Ok, rules, tests}
use Rattle.std.proofs.lemmas.Iterator.Consumers.{map_from_collect}
use Rattle.std.proofs.lemmas.Iterator.Splits.{YieldsList-from_slice_split}
use Rattle.kadm_values.specs.EtypeWords.{is_comma}
use Rattle.kadm_values.proofs.etypes.split_commas.Goals as goal

pub returns : goal.returns
returns c =
    map_from_collect {E = Unit {0}} (Ok c.in_ok-items.items) c.in_ok-items.ensures.ran
    (YieldsList-from_slice_split _ is_comma c.args.text.now c.split.ensures.rest c.split.ensures.done
    c.split.ensures.closure (λ x r q k. search (rules, tests)))

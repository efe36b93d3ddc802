use Rattle.std.proofs.Common.{ap, ◌∙◌}
use Rattle.dump_text.proofs.Orders.{behind_last, behind_none}
use Rattle.dump_text.proofs.progress.is_behind_last.Goals as goal

pub returns-in-Some : goal.returns-in-Some
returns-in-Some g c =
    behind_last g.T.Keyed.key_of c.args.items.now c.args.item.now c.in-Some.last.now c.key.result.now
    c.key-in-Some.result.now c.is_above.result
    c.requires c.in-Some.ensures.value (c.key.ensures ∙ ap g.T.Keyed.key_of c.get.ensures) c.key-in-Some.ensures
    c.is_above.ensures

pub returns-in-None : goal.returns-in-None
returns-in-None g c = behind_none g.T.Keyed.key_of c.args.items.now c.args.item.now c.requires c.in-None.ensures.value

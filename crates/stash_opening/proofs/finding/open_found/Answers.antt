use Rattle.std.proofs.Common.{Err, ap, ◌∙◌}
use Rattle.stash_opening.proofs.Listed.{listed_has}
use Rattle.stash_opening.proofs.finding.open_found.Goals as goal

pub returns-in-Err-StashWrong-clause-complete : goal.returns-in-Err-StashWrong-clause-complete
returns-in-Err-StashWrong-clause-complete c masters o =
    c.open_with.ensures.wrong (c.in-Err-StashWrong.is ∙ ap Err c.in-Err-StashWrong.field-0-is)
    masters o

pub returns-in-Err-StashWrong-clause-wrong : goal.returns-in-Err-StashWrong-clause-wrong
returns-in-Err-StashWrong-clause-wrong c why e masters o = c.open_with.ensures.wrong
    (c.in-Err-StashWrong.is ∙ ap Err c.in-Err-StashWrong.field-0-is) masters o

pub returns-in-Err-UnknownMaster-clause-complete : goal.returns-in-Err-UnknownMaster-clause-complete
returns-in-Err-UnknownMaster-clause-complete c masters o =
    c.open_with.ensures.unknown c.in-Err-UnknownMaster.field-0-0
    (c.in-Err-UnknownMaster.is ∙ ap Err c.in-Err-UnknownMaster.field-0-is)
    (listed_has c.args.entry.now.keys c.args.found.now.version c.requires)

pub returns-in-Err-UnknownMaster-clause-wrong : goal.returns-in-Err-UnknownMaster-clause-wrong
returns-in-Err-UnknownMaster-clause-wrong c why e masters o =
    c.open_with.ensures.unknown c.in-Err-UnknownMaster.field-0-0
    (c.in-Err-UnknownMaster.is ∙ ap Err c.in-Err-UnknownMaster.field-0-is)
    (listed_has c.args.entry.now.keys c.args.found.now.version c.requires)

use Rattle.row_keys.proofs.Judgements.{closed_old, opened_old}
use Rattle.row_keys.proofs.sound.old_opens.Goals as goal

pub returns-in-Closed-clause-no : goal.returns-in-Closed-clause-no
returns-in-Closed-clause-no c masters realm princs is e o =
    closed_old masters realm princs c.args.history.now c.args.sets.now c.are_empty.result c.in-Closed.is is
    c.are_empty.ensures e o

pub returns-in-Opened-clause-no : goal.returns-in-Opened-clause-no
returns-in-Opened-clause-no c masters realm princs is e o =
    c.sets_open.ensures.no e
    (opened_old masters realm princs c.args.history.now c.args.sets.now c.in-Opened.key c.in-Opened.is is o)

use Rattle.run_events.proofs.Completing.{stood_opens}
use Rattle.run_events.proofs.laws.histories_open.Goals as goal

pub returns : goal.returns
returns c = stood_opens (record { later = c.valid_later.ensures.later; point = c.valid_later.ensures.point })
    (record { opens = c.openings_are_events.ensures.masters })

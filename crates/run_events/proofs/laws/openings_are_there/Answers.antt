use Rattle.run_events.proofs.Opened.{opening_there}
use Rattle.run_events.proofs.laws.openings_are_there.Goals as goal

pub returns : goal.returns
returns c = λ s files f size draws. opening_there
    (record { later = c.valid_later.ensures.later; point = c.valid_later.ensures.point }) s files f size draws

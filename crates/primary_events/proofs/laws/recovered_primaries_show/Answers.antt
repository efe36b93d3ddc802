use Rattle.primary_events.proofs.Shown.{image_acknowledged, image_full, image_kept, image_shows}
use Rattle.primary_events.proofs.laws.recovered_primaries_show.Goals as goal
use Rattle.primary_events.specs.Coming.{IsQuiet, IsStop}

pub returns-clause-shows : goal.returns-clause-shows
returns-clause-shows c =
    image_shows IsQuiet (record { later = c.valid_later.ensures.later; point = c.valid_later.ensures.point })

pub returns-clause-full : goal.returns-clause-full
returns-clause-full c =
    image_full IsQuiet (record { later = c.valid_later.ensures.later; point = c.valid_later.ensures.point })

pub returns-clause-acknowledged : goal.returns-clause-acknowledged
returns-clause-acknowledged c = image_acknowledged IsQuiet

pub returns-clause-stopped_shows : goal.returns-clause-stopped_shows
returns-clause-stopped_shows c =
    image_shows IsStop (record { later = c.valid_later.ensures.later; point = c.valid_later.ensures.point })

pub returns-clause-stopped_full : goal.returns-clause-stopped_full
returns-clause-stopped_full c =
    image_full IsStop (record { later = c.valid_later.ensures.later; point = c.valid_later.ensures.point })

pub returns-clause-stopped_acknowledged : goal.returns-clause-stopped_acknowledged
returns-clause-stopped_acknowledged c = image_kept

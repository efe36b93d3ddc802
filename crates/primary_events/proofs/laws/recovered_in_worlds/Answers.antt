use Rattle.primary_events.proofs.Coming.{stop_of}
use Rattle.primary_events.proofs.Shown.{world_acknowledged, world_full, world_kept, world_shows}
use Rattle.primary_events.proofs.laws.recovered_in_worlds.Goals as goal
use Rattle.primary_events.specs.Coming.{IsQuiet, IsStop}
use Rattle.kdb_histories.specs.Bridges.{IsStopOf}

pub returns-clause-shows : goal.returns-clause-shows
returns-clause-shows c = world_shows c.runs_have_histories.ensures IsQuiet
    (record { later = c.valid_later.ensures.later; point = c.valid_later.ensures.point })

pub returns-clause-full : goal.returns-clause-full
returns-clause-full c = world_full c.runs_have_histories.ensures IsQuiet
    (record { later = c.valid_later.ensures.later; point = c.valid_later.ensures.point })

pub returns-clause-acknowledged : goal.returns-clause-acknowledged
returns-clause-acknowledged c = world_acknowledged c.runs_have_histories.ensures IsQuiet

pub returns-clause-stopped_shows : goal.returns-clause-stopped_shows
returns-clause-stopped_shows c = world_shows c.runs_have_histories.ensures IsStop
    (record { later = c.valid_later.ensures.later; point = c.valid_later.ensures.point })

pub returns-clause-stopped_full : goal.returns-clause-stopped_full
returns-clause-stopped_full c = world_full c.runs_have_histories.ensures IsStop
    (record { later = c.valid_later.ensures.later; point = c.valid_later.ensures.point })

pub returns-clause-stopped_acknowledged : goal.returns-clause-stopped_acknowledged
returns-clause-stopped_acknowledged c = world_kept c.runs_have_histories.ensures IsStop (λ event stop. stop)

pub returns-clause-own_shows : goal.returns-clause-own_shows
returns-clause-own_shows c = λ call. world_shows c.runs_have_histories.ensures (IsStopOf call)
    (record { later = c.valid_later.ensures.later; point = c.valid_later.ensures.point })

pub returns-clause-own_full : goal.returns-clause-own_full
returns-clause-own_full c = λ call. world_full c.runs_have_histories.ensures (IsStopOf call)
    (record { later = c.valid_later.ensures.later; point = c.valid_later.ensures.point })

pub returns-clause-own_acknowledged : goal.returns-clause-own_acknowledged
returns-clause-own_acknowledged c = λ call. world_kept c.runs_have_histories.ensures (IsStopOf call) (stop_of call)

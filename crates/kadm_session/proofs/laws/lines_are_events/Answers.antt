use Rattle.kdb_histories.proofs.Growing.{StaysValid}
use Rattle.kadm_session.proofs.Happening.{lines_run, lines_stop}
use Rattle.kadm_session.proofs.laws.lines_are_events.Goals as goal

pub returns-clause-performed : goal.returns-clause-performed
returns-clause-performed c = λ s commands draws at here shows room are.
    let valid : StaysValid = record { later = c.valid_later.ensures.later; point = c.valid_later.ensures.point } in
    lines_run valid commands draws s at here (record { shows = shows; room = room }) are

pub returns-clause-reached : goal.returns-clause-reached
returns-clause-reached c = λ s commands draws at q here shows room reached.
    let valid : StaysValid = record { later = c.valid_later.ensures.later; point = c.valid_later.ensures.point } in
    lines_stop valid commands draws s at q here (record { shows = shows; room = room }) reached

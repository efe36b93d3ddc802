use Rattle.kdb_histories.proofs.Growing.{StaysValid}
use Rattle.kadm_session.proofs.Showing.{reached_shows}
use Rattle.kadm_session.proofs.laws.reached_places_show_states.Goals as goal

pub returns : goal.returns
returns c = λ commands draws at q shows room reached.
    let valid : StaysValid = record { later = c.valid_later.ensures.later; point = c.valid_later.ensures.point } in
    reached_shows valid commands draws at q (record { shows = shows; room = room }) reached

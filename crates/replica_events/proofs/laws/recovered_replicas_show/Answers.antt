use Rattle.replica_events.proofs.Worlds.{fall_in, own_fall_in, replica_held, replica_opened, replica_shows}
use Rattle.replica_events.proofs.laws.recovered_replicas_show.Goals as goal

pub returns-clause-falls : goal.returns-clause-falls
returns-clause-falls c = fall_in

pub returns-clause-shows : goal.returns-clause-shows
returns-clause-shows c =
    λ events w i files p run h is. replica_shows events w i files p run h is c.world_law.ensures.lawful

pub returns-clause-held : goal.returns-clause-held
returns-clause-held c = λ events w i files p run h is.
    replica_held events w i files p run h is
    (record { later = c.valid_later.ensures.later; point = c.valid_later.ensures.point })

pub returns-clause-opened : goal.returns-clause-opened
returns-clause-opened c = λ events w i files p run h is.
    replica_opened events w i files p run h is c.each_listed_master_key_opens_all.ensures.replicas

pub returns-clause-own_falls : goal.returns-clause-own_falls
returns-clause-own_falls c = own_fall_in

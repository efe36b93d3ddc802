use Rattle.kdb_histories.proofs.SiteRuns.{primary_holds}
use Rattle.run_events.proofs.Coming.{history_on}
use Rattle.run_events.proofs.Holding.{stands_full, stands_shown}
use Rattle.run_events.proofs.laws.sites_hold.Goals as goal

pub returns-clause-shows : goal.returns-clause-shows
returns-clause-shows c = λ s files p.
    stands_shown (record { later = c.valid_later.ensures.later; point = c.valid_later.ensures.point }) s files p

pub returns-clause-full : goal.returns-clause-full
returns-clause-full c = λ s files p.
    stands_full (record { later = c.valid_later.ensures.later; point = c.valid_later.ensures.point }) s files p

pub returns-clause-holds : goal.returns-clause-holds
returns-clause-holds c =
    λ s h. primary_holds (record { later = c.valid_later.ensures.later; point = c.valid_later.ensures.point }) h.events
    s h.sent h.run

pub returns-clause-comes : goal.returns-clause-comes
returns-clause-comes c = λ s files h come. history_on s come.new h come.runs

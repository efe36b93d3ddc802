use Rattle.kdb_histories.specs.Sites.{state_of}
use Rattle.primary_events.proofs.Opened.{found_at, opening_returns, opening_stops, own_opening, site_shows}
use Rattle.primary_events.proofs.laws.openings_are_events.Goals as goal

pub returns-clause-returned : goal.returns-clause-returned
returns-clause-returned c = λ o s files f size room clock answer story may opens masters same whole.
    opening_returns s files f size room clock may (record {
      later = c.valid_later.ensures.later;
      point = c.valid_later.ensures.point;
    }) o answer story opens masters same whole

pub returns-clause-stopped : goal.returns-clause-stopped
returns-clause-stopped c =
    λ s files c_ f size room clock may leaves. opening_stops s files f size room clock may c_ leaves

pub returns-clause-stands : goal.returns-clause-stands
returns-clause-stands c = λ s files p. found_at s files p

pub returns-clause-masters : goal.returns-clause-masters
returns-clause-masters c = λ s at text keys found story.
    c.stashed_places_open.ensures.any at.last.place (state_of s) text keys found (site_shows s at story)

pub returns-clause-own : goal.returns-clause-own
returns-clause-own c = λ s files c_ f size room clock may leaves. own_opening s files f size room clock may c_ leaves

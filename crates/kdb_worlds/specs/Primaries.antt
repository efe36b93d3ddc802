-- What of a run of a world is the primary's own.
use Rattle.std.specs.Prelude.{List, [], ◌∷◌}
use Rattle.iprop_truths.specs.Truths.{Message}
use Rattle.kdb_histories.specs.Sites.{SiteEvent, also}
use Rattle.kdb_worlds.specs.Worlds.{AtPrimary, AtReplica, Event}

-- what happens at the primary, in the same order
abbrev pub site_events : List Event → List SiteEvent
site_events [] = []
site_events (AtPrimary event said ∷ events) = event ∷ site_events events
site_events (AtReplica which event said ∷ events) = site_events events

-- what the primary sends of all this, behind what it had sent before
abbrev pub sent_by_primary : List Event → List Message → List Message
sent_by_primary [] before = before
sent_by_primary (AtPrimary event said ∷ events) before = sent_by_primary events (also said before)
sent_by_primary (AtReplica which event said ∷ events) before = sent_by_primary events before

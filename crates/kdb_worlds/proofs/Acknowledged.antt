-- What was acknowledged stands in the history.
use Rattle.std.proofs.Common.{inl, inr, Bool, true, false, List, [], ◌∷◌, Option, refl, sym, subst}
use Rattle.std.specs.Prelude.{take}
use Rattle.iprop_truths.specs.Truths.{Message}
use Rattle.kdb_histories.specs.Sites.{Site, SiteEvent, Creates, Calls, Stops, Crashes}
use Rattle.kdb_histories.specs.Sites.{Ends, Looks, Polls, Dumps, EndsDump, HappensAt}
use Rattle.kdb_histories.specs.Stages.{Stage, onto}
use Rattle.kdb_worlds.specs.Lawful.{IsAmong, acknowledged_at, acknowledged_by, all_acknowledged}
use Rattle.kdb_worlds.specs.Worlds.{AtPrimary, AtReplica, Event, Happens, Run, World}

among_more : (t : Stage) (some all : List Stage) → IsAmong some all → IsAmong some (t ∷ all)
among_more t [] all h = tt
among_more t (u ∷ some) all h = inr h

among_onto : (made some all : List Stage) → IsAmong some all → IsAmong (onto made some) (onto made all)
among_onto [] some all h = h
among_onto (t ∷ made) some all h = among_onto made (t ∷ some) (t ∷ all) (inl (refl, h))

among_under : (made some all : List Stage) → IsAmong some all → IsAmong some (onto made all)
among_under [] some all h = h
among_under (t ∷ made) some all h = among_under made some (t ∷ all) (among_more t some all h)

created_among : (t : Stage) (up : Bool) (before : List Stage) → IsAmong (acknowledged_at (Creates t up) before) (t ∷ [])
created_among t true before = inl (refl, tt)
created_among t false before = tt

site_among : (event : SiteEvent) (old new : Site) (said : Option Message) (before : List Stage)
    → IsAmong before old.history
    → HappensAt event old new said
    → IsAmong (acknowledged_at event before) new.history
site_among (Creates t up) old new said before h e =
    subst (λ (x : Site). IsAmong (acknowledged_at (Creates t up) before) x.history) (sym e.is)
    (created_among t up before)
site_among (Calls call answer made) old new said before h e =
    subst (λ (x : Site). IsAmong (onto made before) x.history) (sym e.is) (among_onto made before old.history h)
site_among (Stops call answer made part) old new said before h e =
    subst (λ (x : Site). IsAmong before x.history) (sym e.is) (among_under (take part made) before old.history h)
site_among Crashes old new said before h e = subst (λ (x : Site). IsAmong before x.history) (sym e.is) h
site_among Ends old new said before h e = tt
site_among Looks old new said before h e = subst (λ (x : Site). IsAmong before x.history) (sym e.is) h
site_among (Polls client access asked) old new said before h e =
    subst (λ (x : Site). IsAmong before x.history) (sym e.is) h
site_among (Dumps client access) old new said before h e = subst (λ (x : Site). IsAmong before x.history) (sym e.is) h
site_among EndsDump old new said before h e = subst (λ (x : Site). IsAmong before x.history) (sym e.is) h

event_among : (event : Event) (old new : World) (before : List Stage) → IsAmong before old.site.history
    → Happens event old new
    → IsAmong (acknowledged_by event before) new.site.history
event_among (AtPrimary event said) old new before h e =
    subst (λ (x : World). IsAmong (acknowledged_at event before) x.site.history) (sym e.is)
    (site_among event old.site e.site said before h e.happens)
event_among (AtReplica which event said) old new before h e =
    subst (λ (x : World). IsAmong before x.site.history) (sym e.is) h

pub run_among : (events : List Event) (old new : World) (before : List Stage) → IsAmong before old.site.history
    → Run old events new
    → IsAmong (all_acknowledged events before) new.site.history
run_among [] old new before h run = subst (λ (x : World). IsAmong before x.site.history) (sym run) h
run_among (event ∷ events) old new before h run =
    run_among events run.0 new (acknowledged_by event before) (event_among event old run.0 before h run.1) run.2

-- A run of a world is one of its primary.
use Rattle.std.proofs.Common.{List, [], ◌∷◌, refl, ap, subst}
use Rattle.iprop_truths.specs.Truths.{Message}
use Rattle.kdb_histories.specs.Sites.{Site, SiteRun, also}
use Rattle.kdb_worlds.specs.Primaries.{sent_by_primary, site_events}
use Rattle.kdb_worlds.specs.Worlds.{AtPrimary, AtReplica, Event, Run, World}

pub site_run : (events : List Event) (old new : World) (sent : List Message) → Run old events new
    → SiteRun old.site sent (site_events events) new.site (sent_by_primary events sent)
site_run [] old new sent run = (ap (λ (w : World). w.site) run, refl)
site_run (AtPrimary event said ∷ events) old new sent run =
    let all = sent_by_primary events (also said sent) in
    let rest = site_run events run.0 new (also said sent) run.2 in
    let site = ap (λ (w : World). w.site) run.1.is in (
      run.1.site,
      said,
      run.1.happens,
      subst (λ (s : Site). SiteRun s (also said sent) (site_events events) new.site all) site rest,
    )
site_run (AtReplica which event said ∷ events) old new sent run =
    let all = sent_by_primary events sent in
    let rest = site_run events run.0 new sent run.2 in
    subst (λ (s : Site). SiteRun s sent (site_events events) new.site all) (ap (λ (w : World). w.site) run.1.is) rest

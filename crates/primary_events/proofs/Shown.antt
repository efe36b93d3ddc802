-- What holds of files that a crash may leave.
use Rattle.std.proofs.Common.{◌≡◌, List, [], ◌∷◌, ◌++◌, Ok, refl, sym, ◌∙◌, ap, subst}
use Rattle.std.specs.List.{All}
use Rattle.std.proofs.lemmas.List.Elements.{All-head, All-tail, All-weaker}
use Rattle.iprop_truths.specs.Truths.{Message}
use Rattle.kdb_disk.specs.Files.{Files}
use Rattle.kdb_histories.proofs.Growing.{StaysValid}
use Rattle.kdb_histories.proofs.SiteRuns.{primary_holds}
use Rattle.kdb_histories.specs.Histories.{IsHeldInFull}
use Rattle.kdb_histories.specs.Sites.{Site, SiteEvent, Creates, Calls, Stops, Crashes, Ends, Looks, Polls}
use Rattle.kdb_histories.specs.Sites.{Dumps, EndsDump, SiteHolds, SiteRun, also, no_site, state_of, story_of}
use Rattle.kdb_histories.specs.Stages.{ShowsAt, Stage, epoch}
use Rattle.kdb_places.specs.Places.{Place, last_entries}
use Rattle.kdb_worlds.proofs.Acknowledged.{run_among}
use Rattle.kdb_worlds.specs.Lawful.{IsAmong, acknowledged_at, all_acknowledged}
use Rattle.kdb_worlds.specs.Primaries.{sent_by_primary, site_events}
use Rattle.kdb_worlds.specs.Worlds.{AtPrimary, AtReplica, Event, Run, World, no_world}
use Rattle.primary_events.proofs.Coming.{run_append}
use Rattle.primary_events.proofs.Opened.{found_at, site_shows}
use Rattle.primary_events.specs.Coming.{ComesBy, IsStop, StopsTo, acknowledged_in}
use Rattle.primary_events.specs.Worlds.{ComesIn}
use Rattle.store_files.specs.Found.{recovers}

-- ---- the rows and the log

full_last : (history others ended : List Stage) (t : Stage) → history ≡ t ∷ others → IsHeldInFull (history ++ ended)
    → t.place.held ≡ last_entries t.place.size (epoch (history ++ ended))
full_last history others ended t is h =
    let here : IsHeldInFull (t ∷ others ++ ended) = subst (λ (x : List Stage). IsHeldInFull (x ++ ended)) is h in
    subst (λ (x : List Stage). t.place.held ≡ last_entries t.place.size (epoch (x ++ ended))) (sym is) here.0

module _ (Kind : SiteEvent → Type 0) (valid : StaysValid) (events : List SiteEvent) (s : Site) (sent : List Message)
    (c : Files) (p : Place)
    (run : SiteRun no_site [] events s sent) (h : ComesBy Kind s c) (is : recovers c ≡ Ok p) where
  new_holds : SiteHolds h.new sent
  new_holds = primary_holds valid (events ++ h.events) h.new sent
      (run_append events h.events no_site s h.new [] sent sent run (h.run sent))

  pub image_shows : ShowsAt p (state_of h.new)
  image_shows =
      let found = found_at h.new c p h.stands is in
      subst (λ (q : Place). ShowsAt q (state_of h.new)) found.is (site_shows h.new found.at new_holds.story)

  pub image_full : p.held ≡ last_entries p.size (epoch (story_of h.new))
  image_full =
      let found = found_at h.new c p h.stands is in
      subst (λ (q : Place). q.held ≡ last_entries q.size (epoch (story_of h.new))) found.is
      (full_last h.new.history found.at.others h.new.ended found.at.last found.at.is new_holds.story.full)

-- ---- a run of a primary is one of a world

pub as_world : (events : List SiteEvent) (w : World) (s : Site) (sent : List Message)
    → SiteRun w.site w.sent events s sent → ComesIn w events s sent
as_world [] w s sent run = record {
  events = [];
  new = w;
  run = refl;
  own_are = refl;
  is = sym run.0;
  replicas = refl;
  sent_are = sym run.1;
}
as_world (event ∷ events) w s sent run =
    let next : World = record { site = run.0; replicas = w.replicas; sent = also run.1 w.sent } in
    let rest = as_world events next s sent run.3 in
    record {
      events = AtPrimary event run.1 ∷ rest.events;
      new = rest.new;
      run = (next, record { site = run.0; happens = run.2; is = refl }, rest.run);
      own_are = ap (λ (own : List SiteEvent). event ∷ own) rest.own_are;
      is = rest.is;
      replicas = rest.replicas;
      sent_are = rest.sent_are;
    }

-- what comes of a primary sends nothing
pub comes_in : (Kind : SiteEvent → Type 0) (w : World) (c : Files) (h : ComesBy Kind w.site c)
    → ComesIn w h.events h.new w.sent
comes_in Kind w c h = as_world h.events w h.new w.sent (h.run w.sent)

acknowledged_own : (events : List Event) (before : List Stage)
    → all_acknowledged events before ≡ acknowledged_in (site_events events) before
acknowledged_own [] before = refl
acknowledged_own (AtPrimary event said ∷ events) before = acknowledged_own events (acknowledged_at event before)
acknowledged_own (AtReplica which event said ∷ events) before = acknowledged_own events before

acknowledged_among : (events : List SiteEvent) (s : Site) (sent : List Message) → SiteRun no_site [] events s sent
    → IsAmong (acknowledged_in events []) s.history
acknowledged_among events s sent run =
    let w = as_world events no_world s sent run in
    let among : IsAmong (all_acknowledged w.events []) w.new.site.history =
    run_among w.events no_world w.new [] tt w.run in
    let own : all_acknowledged w.events [] ≡ acknowledged_in events [] =
    acknowledged_own w.events [] ∙ ap (λ (x : List SiteEvent). acknowledged_in x []) w.own_are in
    subst (λ (x : List Stage). IsAmong x s.history) own
    (subst (λ (x : Site). IsAmong (all_acknowledged w.events []) x.history) w.is among)

-- ---- what was acknowledged

acknowledged_append : (events more : List SiteEvent) (before : List Stage)
    → acknowledged_in (events ++ more) before ≡ acknowledged_in more (acknowledged_in events before)
acknowledged_append [] more before = refl
acknowledged_append (event ∷ events) more before = acknowledged_append events more (acknowledged_at event before)

stop_keeps : (event : SiteEvent) (before : List Stage) → IsStop event → acknowledged_at event before ≡ before
stop_keeps (Creates t up) before h = absurd h
stop_keeps (Calls own answer made) before h = absurd h
stop_keeps (Stops own answer made part) before h = refl
stop_keeps Crashes before h = refl
stop_keeps Ends before h = absurd h
stop_keeps Looks before h = absurd h
stop_keeps (Polls client access asked) before h = absurd h
stop_keeps (Dumps client access) before h = absurd h
stop_keeps EndsDump before h = absurd h

stops_keep : (events : List SiteEvent) (before : List Stage) → All IsStop events
    → acknowledged_in events before ≡ before
stops_keep [] before h = refl
stops_keep (event ∷ events) before h =
    ap (acknowledged_in events) (stop_keeps event before (All-head IsStop event events h))
    ∙ stops_keep events before (All-tail IsStop event events h)

pub image_acknowledged : (Kind : SiteEvent → Type 0) (events : List SiteEvent) (s : Site)
    (sent : List Message) (c : Files)
    → SiteRun no_site [] events s sent → (h : ComesBy Kind s c)
    → IsAmong (acknowledged_in (events ++ h.events) []) h.new.history
image_acknowledged Kind events s sent c run h =
    acknowledged_among (events ++ h.events) h.new sent
    (run_append events h.events no_site s h.new [] sent sent run (h.run sent))

pub image_kept : (events : List SiteEvent) (s : Site) (sent : List Message) (c : Files)
    → SiteRun no_site [] events s sent → (h : StopsTo s c)
    → IsAmong (acknowledged_in events []) h.new.history
image_kept events s sent c run h =
    subst (λ (x : List Stage). IsAmong x h.new.history)
    (acknowledged_append events h.events [] ∙ stops_keep h.events (acknowledged_in events []) h.each)
    (image_acknowledged IsStop events s sent c run h)

-- ---- the primary of a world

module _ (histories : (events : List Event) (w : World) → Run no_world events w
    → SiteRun no_site [] (site_events events) w.site (sent_by_primary events []))
    (Kind : SiteEvent → Type 0) where
  pub world_shows : (valid : StaysValid) (events : List Event) (w : World) (c : Files) (p : Place)
      → Run no_world events w → (h : ComesBy Kind w.site c)
      → recovers c ≡ Ok p → ShowsAt p (state_of h.new)
  world_shows valid events w c p run =
      image_shows Kind valid (site_events events) w.site (sent_by_primary events []) c p (histories events w run)

  pub world_full : (valid : StaysValid) (events : List Event) (w : World) (c : Files) (p : Place)
      → Run no_world events w → (h : ComesBy Kind w.site c)
      → recovers c ≡ Ok p → p.held ≡ last_entries p.size (epoch (story_of h.new))
  world_full valid events w c p run =
      image_full Kind valid (site_events events) w.site (sent_by_primary events []) c p (histories events w run)

  pub world_acknowledged : (events : List Event) (w : World) (c : Files) → Run no_world events w
      → (h : ComesBy Kind w.site c)
      → IsAmong (acknowledged_in h.events (all_acknowledged events [])) h.new.history
  world_acknowledged events w c run h =
      subst (λ (x : List Stage). IsAmong x h.new.history)
      (acknowledged_append (site_events events) h.events []
      ∙ ap (acknowledged_in h.events) (sym (acknowledged_own events [])))
      (image_acknowledged Kind (site_events events) w.site (sent_by_primary events []) c (histories events w run) h)

  -- by stops alone
  pub world_kept : (stops : (event : SiteEvent) → Kind event → IsStop event) (events : List Event) (w : World)
      (c : Files) → Run no_world events w
      → (h : ComesBy Kind w.site c) → IsAmong (all_acknowledged events []) h.new.history
  world_kept stops events w c run h =
      subst (λ (x : List Stage). IsAmong x h.new.history)
      (stops_keep h.events (all_acknowledged events []) (All-weaker Kind IsStop stops h.events h.each))
      (world_acknowledged events w c run h)

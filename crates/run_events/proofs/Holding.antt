-- What holds of files that stand for what stands at a site.
use Rattle.std.proofs.Common.{◌≡◌, List, ◌∷◌, ◌++◌, Ok, sym, subst}
use Rattle.kdb_disk.specs.Files.{Files}
use Rattle.kdb_histories.proofs.Growing.{StaysValid}
use Rattle.kdb_histories.proofs.SiteRuns.{primary_holds}
use Rattle.kdb_histories.specs.Histories.{IsHeldInFull, IsStory}
use Rattle.kdb_histories.specs.Sites.{Site, state_of, story_of}
use Rattle.kdb_histories.specs.Stages.{ShowsAt, Stage, epoch}
use Rattle.kdb_places.specs.Places.{Place, last_entries}
use Rattle.primary_events.proofs.Opened.{found_at, site_shows}
use Rattle.primary_events.specs.At.{StandsFor}
use Rattle.run_events.specs.Coming.{HasHistory}
use Rattle.store_files.specs.Found.{recovers}

full_last : (history others ended : List Stage) (t : Stage) → history ≡ t ∷ others → IsHeldInFull (history ++ ended)
    → t.place.held ≡ last_entries t.place.size (epoch (history ++ ended))
full_last history others ended t is h =
    let here : IsHeldInFull (t ∷ others ++ ended) = subst (λ (x : List Stage). IsHeldInFull (x ++ ended)) is h in
    subst (λ (x : List Stage). t.place.held ≡ last_entries t.place.size (epoch (x ++ ended))) (sym is) here.0

module _ (valid : StaysValid) (s : Site) (c : Files) (p : Place) (h : HasHistory s) (stands : StandsFor s c)
    (is : recovers c ≡ Ok p) where
  story : IsStory (story_of s)
  story = let holds = primary_holds valid h.events s h.sent h.run in holds.story

  pub stands_shown : ShowsAt p (state_of s)
  stands_shown =
      let found = found_at s c p stands is in
      subst (λ (q : Place). ShowsAt q (state_of s)) found.is (site_shows s found.at story)

  pub stands_full : p.held ≡ last_entries p.size (epoch (story_of s))
  stands_full =
      let found = found_at s c p stands is in
      subst (λ (q : Place). q.held ≡ last_entries q.size (epoch (story_of s))) found.is
      (full_last s.history found.at.others s.ended found.at.last found.at.is story.full)

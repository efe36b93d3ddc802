-- An opening that returned, and one that stopped.
use Rattle.std.proofs.Common.{◌≡◌, ◌≢◌, ℕ, inl, inr, Bool, true, false, List, [], ◌∷◌, ◌++◌}
use Rattle.std.proofs.Common.{Option, None, Result, Ok, Err, refl, sym, ◌∙◌, ap, subst}
use Rattle.std.specs.Prelude.{nat_eq, ◌&&◌, if◌then◌else◌}
use Rattle.std.proofs.lemmas.List.Elements.{All-nil}
use Rattle.iprop_truths.specs.Parts.{IsPart, end_of}
use Rattle.iprop_truths.specs.Truths.{IsTrueOf}
use Rattle.kdb_base.specs.Moment.{Moment}
use Rattle.kdb_base.specs.declared.outcomes.Refusal.{Refusal}
use Rattle.kdb_base.specs.declared.outcomes.Refusal.TheVariants.{NotADatabase}
use Rattle.kdb_disk.specs.Files.{Files}
use Rattle.kdb_disk.specs.View.{View}
use Rattle.kdb_histories.proofs.Growing.{StaysValid}
use Rattle.kdb_histories.proofs.SiteRuns.{event_holds, onto_rest}
use Rattle.kdb_histories.specs.Asks.{Answer, Moved}
use Rattle.kdb_histories.specs.Bridges.{IsStopOf}
use Rattle.kdb_histories.specs.Calls.{CallMakes, HasTimeLeft, Open, resized, size_or}
use Rattle.kdb_histories.specs.Histories.{IsFolded, IsStory}
use Rattle.kdb_histories.specs.Seen.{reset_point}
use Rattle.kdb_histories.specs.Sites.{Calls, HappensAt, IsFresh, Site, SiteEvent, SiteHolds}
use Rattle.kdb_histories.specs.Sites.{Stands, after_call, places_of, state_of, story_of}
use Rattle.kdb_histories.specs.Stages.{Anew, ShowsAt, Stage, fold, onto, places, stage}
use Rattle.kdb_places.specs.Places.{Place, log_anew}
use Rattle.primary_core.proofs.Called.{left_at}
use Rattle.primary_core.specs.Opened.{Opened, place_of}
use Rattle.primary_core.specs.Opening.{LeavesOpening, MayOpen, OpensTo, place_found}
use Rattle.primary_events.proofs.Coming.{comes_wider, images_like, own_comes, stop_comes, stops_join}
use Rattle.primary_events.proofs.Returning.{tip_at}
use Rattle.primary_events.specs.At.{LastIn, LeadsTo, StandsAt, StandsFor}
use Rattle.primary_events.specs.Coming.{ComesBy, IsStop, StopsTo}
use Rattle.primary_events.specs.Premises.{MayOpenAt}
use Rattle.rekey_work.specs.declared.works.Settled.TheVariants as settled
use Rattle.store_files.specs.Found.{Found, found_in, place_in, recovers}

-- ---- what is found is the last place

abbrev place_or : Place → Result Place Refusal → Place
place_or p (Ok q) = q
place_or p (Err why) = p

nothing_there : (c : Files) (p : Place) → found_in c ≡ Err NotADatabase → recovers c ≡ Ok p → ⊥
nothing_there c p none is = let both : ◌≡◌ {A = Result Place Refusal} (Err NotADatabase) (Ok p) =
    sym (ap place_in none) ∙ is in absurd cc

last_found : (s : Site) (history : List Stage) (c : Files) (p : Place) → s.history ≡ history → LastIn history c
    → recovers c ≡ Ok p → StandsAt s p
last_found s [] c p same none is = absurd (nothing_there c p none is)
last_found s (t ∷ older) c p same here is =
    record { at = record { last = t; others = older; is = same }; is = ap (place_or p) (sym here ∙ is) }

pub found_at : (s : Site) (c : Files) (p : Place) → StandsFor s c → recovers c ≡ Ok p → StandsAt s p
found_at s c p here is = last_found s s.history c p refl here is

-- ---- what stands behind an opening

anew_masters : (same : Bool) (q : Place) (history : List Stage)
    → (fold (onto (if same then [] else stage q Anew ∷ []) history)).masters ≡ (fold history).masters
anew_masters true q history = refl
anew_masters false q history = refl

pub folded_last : (history others ended : List Stage) (t : Stage) → history ≡ t ∷ others → IsFolded (history ++ ended)
    → ShowsAt t.place (fold (history ++ ended))
folded_last history others ended t is h =
    let here : IsFolded (t ∷ others ++ ended) = subst (λ (x : List Stage). IsFolded (x ++ ended)) is h in
    subst (λ (x : List Stage). ShowsAt t.place (fold (x ++ ended))) (sym is) here.0

-- the rows of the place that stands show what the history comes to
pub site_shows : (s : Site) (at : Stands s) → IsStory (story_of s) → ShowsAt at.last.place (state_of s)
site_shows s at story = folded_last s.history at.others s.ended at.last at.is story.folded

holds_closed : (s : Site) → s.up ≡ false → IsStory (story_of s) → SiteHolds s []
holds_closed s closed story = record {
  fresh = subst (λ (up : Bool). IsFresh up s.history) (sym closed) tt;
  story = story;
  told = All-nil (IsTrueOf (places_of s));
}

-- ---- an opening

abbrev found_or : Found → Result Found Refusal → Found
found_or f (Ok g) = g
found_or f (Err why) = f

module _ (s : Site) (files : Files) (f : Found) (size : Option ℕ) (room : ℕ) (clock : Moment)
    (h : MayOpenAt s files f size room clock) where
  found_there : StandsAt s (place_found f)
  found_there = found_at s files (place_found f) h.stands (ap place_in h.found)

  opening_makes : (answer : Answer) → (resized size clock (place_found f) ≢ [] → HasTimeLeft (place_found f))
      → CallMakes found_there.at.last.place (state_of s) (Open size room clock) answer
      (resized size clock (place_found f))
  opening_makes answer left =
      subst (λ (p : Place). CallMakes p (state_of s) (Open size room clock) answer (resized size clock (place_found f)))
      (sym found_there.is)
      (record { from = h.from; upto = h.upto; some = h.some; left = left; is = refl })

  pub own_opening : (c : Files) → LeavesOpening (place_found f) size clock c
      → ComesBy (IsStopOf (Open size room clock)) s c
  own_opening c leaves =
      let made = resized size clock (place_found f) in
      let l = left_at (place_found f) (places made) c leaves.part in
      let answer : Answer = Moved settled.Gone in
      let part : IsPart found_there.at.last.place (places made) l.place =
      subst (λ (p : Place). IsPart p (places made) l.place) (sym found_there.is) l.part in
      stop_comes s found_there.at (Open size room clock) l.place c h.closed h.moment
      (inr (record { answer = answer; made = made; makes = opening_makes answer leaves.left; part = part })) l.is

  pub opening_stops : (c : Files) → LeavesOpening (place_found f) size clock c → StopsTo s c
  opening_stops c leaves = own_comes (Open size room clock) s c (own_opening c leaves)

  pub opening_returns : (valid : StaysValid) (o : Opened) (answer : Answer) → IsStory (story_of s)
      → OpensTo (found_in files) size clock o
      → o.masters ≡ (state_of s).masters → (o.dumps ≡ 0) × (o.room ≡ room) → o.kept.broken ≡ false
      → LeadsTo s (Calls (Open size room clock) answer (resized size clock (place_found f))) None o
  opening_returns valid o answer story opens masters same whole =
      let p = place_found f in
      let made = resized size clock p in
      let call = Open size room clock in
      let own : f ≡ opens.found_is = ap (found_or f) (sym h.found ∙ opens.is) in
      let left = subst (λ (g : Found). resized size clock (place_found g) ≢ [] → HasTimeLeft (place_found g))
      (sym own) opens.left in
      let place : place_of o ≡ end_of p (places made) =
      subst (λ (g : Found). place_of o ≡ end_of (place_found g) (places (resized size clock (place_found g))))
      (sym own) opens.place_is in
      let new : Site = after_call call made true s in
      let happens : HappensAt (Calls call answer made) s new None =
      record {
        at = found_there.at;
        ready = h.closed;
        clock = h.moment;
        makes = opening_makes answer left;
        is = refl;
        silent = refl;
      } in
      let holds = event_holds valid (Calls call answer made) s new [] None (holds_closed s h.closed story) happens in
      let tip = tip_at s found_there.at made in
      let here = tip.place ∙ ap (λ (q : Place). end_of q (places made)) found_there.is ∙ sym place in
      let shown = folded_last (onto made s.history) tip.others s.ended tip.last tip.is holds.story.folded in
      let kept = anew_masters (nat_eq p.format 2 && nat_eq (size_or size p) p.size)
      (log_anew (reset_point clock p) (size_or size p) p.block p) (story_of s) in
      let behind =
      ap (λ (x : List Stage). (fold x).masters) (sym (onto_rest made s.history s.ended)) ∙ kept ∙ sym masters in
      record {
        new = new;
        happens = happens;
        at = record {
          at = record { last = tip.last; others = tip.others; is = tip.is };
          place = here;
          has = record { shows = subst (λ (q : Place). ShowsAt q (state_of new)) here shown; masters_are = behind };
          up = refl;
          whole = whole;
          dumps = sym same.0;
          room = sym same.1;
        };
      }

-- ---- images of an opening

pub images_opened : (Kind : SiteEvent → Type 0) (weak : (event : SiteEvent) → IsStop event → Kind event) (v : View)
    (s : Site) (files c : Files)
    (h : ComesBy Kind s files) (f : Found) (size : Option ℕ) (room : ℕ) (clock : Moment) (r : Result Found Refusal)
    → r ≡ Ok f
    → ((b : Files) → v.images b → ComesBy Kind s b) → MayOpenAt h.new files f size room clock
    → MayOpen v r size clock c → ComesBy Kind s c
images_opened Kind weak v s files c h f size room clock r is each may leaves =
    by_case (subst (λ (x : Result Found Refusal). MayOpen v x size clock c) is leaves)
  where
    by_case : MayOpen v (Ok f) size clock c → ComesBy Kind s c
    by_case (inl like) = images_like Kind v s c each like
    by_case (inr part) =
        stops_join Kind s files c h
        (comes_wider IsStop Kind weak h.new c (opening_stops h.new files f size room clock may c part))

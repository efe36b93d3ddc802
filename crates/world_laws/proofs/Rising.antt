-- Points rise strictly along a story.
use Rattle.std.proofs.Common.{◌≡◌, ℕ, ◌<◌, inl, List, [], ◌∷◌, ◌++◌, length, Option, refl, sym, ◌∙◌, ap, subst}
use Rattle.std.specs.Prelude.{take}
use Rattle.std.proofs.lemmas.List.Elements.{All-head, All-nil}
use Rattle.iprop_truths.specs.Truths.{IsTrueOf, Message}
use Rattle.kdb_base.specs.Moments.{ComesBefore, micros}
use Rattle.kdb_base.specs.declared.moments.Point.{Point}
use Rattle.kdb_histories.proofs.Growing.{StaysValid, story_grows}
use Rattle.kdb_histories.proofs.Paths.{call_path, path_front}
use Rattle.kdb_histories.proofs.SiteRuns.{event_holds, nothing_holds, onto_rest}
use Rattle.kdb_histories.proofs.Times.{next_behind}
use Rattle.kdb_histories.specs.Asks.{Answer}
use Rattle.kdb_histories.specs.Calls.{Call, CallMakes}
use Rattle.kdb_histories.specs.Histories.{HasRoom, IsCreation, IsStory}
use Rattle.kdb_histories.specs.Moves.{IsLoad, IsPath, IsReset, Moves}
use Rattle.kdb_histories.specs.Sites.{Site, SiteEvent, Creates, Calls, Stops, Crashes, Ends, Looks, Polls}
use Rattle.kdb_histories.specs.Sites.{Dumps, EndsDump, HappensAt, SiteHolds, clock_at, places_of, story_of}
use Rattle.kdb_histories.specs.Stages.{Deed, Filled, Did, Anew, Stashed, ShowsAt, Stage, fold, onto, places}
use Rattle.kdb_model.specs.Laws.{IsMoment}
use Rattle.kdb_places.proofs.Points.{committed_point, first_point}
use Rattle.kdb_places.specs.Places.{Place, base_marker, next_point, no_point, point_of}
use Rattle.kdb_plain.specs.declared.states.State.{State}
use Rattle.kdb_worlds.specs.Worlds.{AtPrimary, AtReplica, Event, Happens, Run, World, no_world}
use Rattle.world_laws.specs.Strict.{IsStrict, Rises, RisesFrom}

-- ---- one deed

-- a place that begins a log stands at the base marker's point, which is later
marked_later : (p q : Place) (base : Point) → micros (point_of p).time < micros base.time → point_of q ≡ base
    → ComesBefore (point_of p) (point_of q)
marked_later p q base later at = subst (λ (x : Point). ComesBefore (point_of p) x) (sym at) (inl later)

load_later : (p q : Place) (state : State) → IsLoad p state q → ComesBefore (point_of p) (point_of q)
load_later p q state h =
    let base : Point = record { sno = 1; time = h.time } in
    marked_later p q base h.later (ap point_of h.is ∙ first_point no_point (base_marker base))

reset_behind : (p q : Place) → IsReset p q → ComesBefore (point_of p) (point_of q)
reset_behind p q h =
    let base : Point = record { sno = 1; time = h.time } in
    marked_later p q base h.later (ap point_of h.is ∙ first_point no_point (base_marker base))

move_leads : (deed : Deed) (p q : Place) (before : State) → 0 < p.size → Moves p before deed q
    → Rises deed (point_of p) (point_of q)
move_leads (Filled state) p q before sized h = load_later p q state h
move_leads (Did ask due point op) p q before sized h =
    let at : point_of q ≡ next_point h.time p = ap point_of h.is ∙ committed_point op h.time p sized in
    subst (λ (x : Point). ComesBefore (point_of p) x) (sym at) (next_behind (point_of p) h.time h.not_before)
move_leads Anew p q before sized h = reset_behind p q h
move_leads Stashed p q before sized h = ap point_of h.is

-- ---- what a call makes

-- all that was, and that it rises
record Strictly (stages : List Stage) : Type 0 where
  story : IsStory stages
  strict : IsStrict stages

path_rises : (valid : StaysValid) (made : List Stage) (t : Stage) (older : List Stage) → Strictly (t ∷ older)
    → IsPath t.place (fold (t ∷ older)) made
    → Strictly (onto made (t ∷ older))
path_rises valid [] t older h path = h
path_rises valid (u ∷ made) t older h path =
    let sized = All-head HasRoom t.place (places older) h.story.good.sized in
    let leads = move_leads u.deed t.place u.place (fold (t ∷ older)) sized path.0 in
    let next : Strictly (u ∷ t ∷ older) =
    record { story = story_grows valid t u older h.story path.0; strict = (leads, h.strict) } in
    path_rises valid made u (t ∷ older) next path.1

front_shows : (t : Stage) (older : List Stage) → IsStory (t ∷ older) → ShowsAt t.place (fold (t ∷ older))
front_shows t older h = let folded = h.folded in folded.0

-- so many of the places that it makes
called_rises : (valid : StaysValid) (history others ended : List Stage) (t : Stage) (call : Call) (answer : Answer)
    (made : List Stage) (part : ℕ)
    → history ≡ t ∷ others → Strictly (history ++ ended) → IsMoment (clock_at call)
    → CallMakes t.place (fold (history ++ ended)) call answer made
    → Strictly (onto (take part made) (history ++ ended))
called_rises valid history others ended t call answer made part is h clock makes =
    let older = others ++ ended in
    let all = t ∷ older in
    let here : Strictly all = subst (λ (x : List Stage). Strictly (x ++ ended)) is h in
    let makes_here : CallMakes t.place (fold all) call answer made =
    subst (λ (x : List Stage). CallMakes t.place (fold (x ++ ended)) call answer made) is makes in
    let sized = All-head HasRoom t.place (places older) here.story.good.sized in
    let whole = call_path t.place (fold all) call answer made clock (front_shows t older here.story) sized makes_here in
    let after : Strictly (onto (take part made) all) =
    path_rises valid (take part made) t older here (path_front t.place (fold all) made part whole) in
    subst (λ (x : List Stage). Strictly (onto (take part made) (x ++ ended))) (sym is) after

whole_is : (made : List Stage) → take (length made) made ≡ made
whole_is [] = refl
whole_is (t ∷ made) = ap (λ (x : List Stage). t ∷ x) (whole_is made)

-- ---- a creation

filled_leads : (deed : Deed) (state : State) (old new : Point) → deed ≡ Filled state → ComesBefore old new
    → Rises deed old new
filled_leads deed state old new is later = subst (λ (x : Deed). Rises x old new) (sym is) later

created_leads : (t : Stage) (older : List Stage) → IsCreation (places older) t → RisesFrom older t
created_leads t [] c = tt
created_leads t (u ∷ older) c =
    let at : point_of t.place ≡ c.point = ap point_of c.is ∙ first_point no_point (base_marker c.point) in
    let later =
    All-head (λ (p : Place). micros (point_of p).time < micros c.point.time) u.place (places older) c.later in
    filled_leads t.deed c.state (point_of u.place) (point_of t.place) c.deed
    (marked_later u.place t.place c.point later at)

-- ---- events

module _ (valid : StaysValid) where
  strict_by : (event : SiteEvent) (old new : Site) (said : Option Message) → Strictly (story_of old)
      → HappensAt event old new said
      → IsStrict (story_of new)
  strict_by (Creates t up) old new said h e =
      let ended : IsStrict old.ended = subst (λ (x : List Stage). IsStrict (x ++ old.ended)) e.none h.strict in
      subst (λ (x : Site). IsStrict (story_of x)) (sym e.is) (created_leads t old.ended e.creation, ended)
  strict_by (Calls call answer made) old new said h e =
      let part = called_rises valid old.history e.at.others old.ended e.at.last call answer made
      (length made) e.at.is h e.clock e.makes in
      let whole : IsStrict (onto made (old.history ++ old.ended)) =
      subst (λ (x : List Stage). IsStrict (onto x (old.history ++ old.ended))) (whole_is made) part.strict in
      subst (λ (x : Site). IsStrict (story_of x)) (sym e.is)
      (subst IsStrict (onto_rest made old.history old.ended) whole)
  strict_by (Stops call answer made part) old new said h e =
      let front =
      called_rises valid old.history e.at.others old.ended e.at.last call answer made part e.at.is h e.clock e.makes in
      subst (λ (x : Site). IsStrict (story_of x)) (sym e.is)
      (subst IsStrict (onto_rest (take part made) old.history old.ended) front.strict)
  strict_by Crashes old new said h e = subst (λ (x : Site). IsStrict (story_of x)) (sym e.is) h.strict
  strict_by Ends old new said h e = subst (λ (x : Site). IsStrict (story_of x)) (sym e.is) h.strict
  strict_by Looks old new said h e = subst (λ (x : Site). IsStrict (story_of x)) (sym e.is) h.strict
  strict_by (Polls client access asked) old new said h e =
      subst (λ (x : Site). IsStrict (story_of x)) (sym e.is) h.strict
  strict_by (Dumps client access) old new said h e = subst (λ (x : Site). IsStrict (story_of x)) (sym e.is) h.strict
  strict_by EndsDump old new said h e = subst (λ (x : Site). IsStrict (story_of x)) (sym e.is) h.strict

  -- ---- runs of a world

  -- what is sent does not matter here
  record SiteRises (s : Site) : Type 0 where
    holds : SiteHolds s []
    strict : IsStrict (story_of s)

  site_rises : (event : SiteEvent) (old new : Site) (said : Option Message) → SiteRises old
      → HappensAt event old new said → SiteRises new
  site_rises event old new said h e =
      let after = event_holds valid event old new [] said h.holds e in
      record {
        holds = record { fresh = after.fresh; story = after.story; told = All-nil (IsTrueOf (places_of new)) };
        strict = strict_by event old new said (record { story = h.holds.story; strict = h.strict }) e;
      }

  world_rises : (event : Event) (old new : World) → SiteRises old.site → Happens event old new → SiteRises new.site
  world_rises (AtPrimary event said) old new h e =
      subst (λ (x : World). SiteRises x.site) (sym e.is) (site_rises event old.site e.site said h e.happens)
  world_rises (AtReplica which event said) old new h e = subst (λ (x : World). SiteRises x.site) (sym e.is) h

  run_rises : (events : List Event) (old new : World) → SiteRises old.site → Run old events new → SiteRises new.site
  run_rises [] old new h run = subst (λ (x : World). SiteRises x.site) (sym run) h
  run_rises (event ∷ events) old new h run = run_rises events run.0 new (world_rises event old run.0 h run.1) run.2

  pub rises : (events : List Event) (w : World) → Run no_world events w → IsStrict (story_of w.site)
  rises events w run = (run_rises events no_world w (record { holds = nothing_holds; strict = tt }) run).strict

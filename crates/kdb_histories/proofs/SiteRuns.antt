-- What holds of a primary after every run.
use Rattle.std.proofs.Common.{◌≡◌, ℕ, ◌<◌, inl, Bool, List, [], ◌∷◌, ◌++◌, length}
use Rattle.std.proofs.Common.{Option, Some, None, refl, sym, ◌∙◌, ap, subst}
use Rattle.std.specs.Prelude.{take}
use Rattle.std.proofs.lemmas.List.Elements.{All-cons, All-head, All-nil, All-tail, All-weaker}
use Rattle.std.specs.List.{All}
use Rattle.iprop_truths.proofs.Leading.{true_more}
use Rattle.iprop_truths.proofs.Members.{contains_first}
use Rattle.iprop_truths.proofs.Polling.{poll_true}
use Rattle.iprop_truths.specs.Polls.{poll_reply}
use Rattle.iprop_truths.specs.Pulling.{denies_pull}
use Rattle.iprop_truths.specs.Truths.{AreTrue, Dumped, HoldsFrom, IsTrueOf, Message, Reply}
use Rattle.kdb_base.specs.Moment.{Moment}
use Rattle.kdb_base.specs.Moments.{ComesBefore, micros}
use Rattle.kdb_base.specs.declared.moments.Point.{Point}
use Rattle.kdb_histories.proofs.Entries.{one_entry}
use Rattle.kdb_histories.proofs.Formats.{site_fresh}
use Rattle.kdb_histories.proofs.Growing.{StaysValid, all_hold_more, story_grows}
use Rattle.kdb_histories.proofs.Paths.{call_path, path_front}
use Rattle.kdb_histories.specs.Asks.{Answer}
use Rattle.kdb_histories.specs.Calls.{Call, CallMakes}
use Rattle.kdb_histories.specs.Histories.{HasRoom, HoldsUpTo, IsCreation, IsLater, IsStory, all_seen}
use Rattle.kdb_histories.specs.Moves.{IsPath}
use Rattle.kdb_histories.specs.Seen.{Seen, seen}
use Rattle.kdb_histories.specs.Sites.{Site, SiteEvent, Creates, Calls, Stops, Crashes, Ends}
use Rattle.kdb_histories.specs.Sites.{Looks, Polls, Dumps, EndsDump, HappensAt, SiteHolds}
use Rattle.kdb_histories.specs.Sites.{SiteRun, also, clock_at, is_busy, no_site, story_of}
use Rattle.kdb_histories.specs.Stages.{Filled, ShowsAt, Stage, fold, onto, places, stage}
use Rattle.kdb_model.specs.Laws.{IsMoment}
use Rattle.kdb_places.proofs.Points.{first_point}
use Rattle.kdb_places.specs.Places.{Place, base_marker, contents_of, created, last_entries, no_point, point_of}
use Rattle.kdb_plain.specs.States.{IsValid}

-- ---- what a path makes of a story

-- all that was, and what was said of it
record Told (stages : List Stage) (sent : List Message) : Type 0 where
  story : IsStory stages
  told : AreTrue (places stages) sent

told_more : (q : Place) (older : List Place) (sent : List Message) → AreTrue older sent → AreTrue (q ∷ older) sent
told_more q older sent h = All-weaker (IsTrueOf older) (IsTrueOf (q ∷ older)) (λ m is. true_more q older m is) sent h

path_told : (valid : StaysValid) (made : List Stage) (t : Stage) (older : List Stage) (sent : List Message)
    → Told (t ∷ older) sent
    → IsPath t.place (fold (t ∷ older)) made
    → Told (onto made (t ∷ older)) sent
path_told valid [] t older sent h path = h
path_told valid (u ∷ made) t older sent h path =
    let next : Told (u ∷ t ∷ older) sent =
    record {
      story = story_grows valid t u older h.story path.0;
      told = told_more u.place (t.place ∷ places older) sent h.told;
    } in
    path_told valid made u (t ∷ older) sent next path.1

pub onto_rest : (made history ended : List Stage) → onto made (history ++ ended) ≡ onto made history ++ ended
onto_rest [] history ended = refl
onto_rest (t ∷ made) history ended = onto_rest made (t ∷ history) ended

-- the state and the size of the last place
last_shows : (t : Stage) (older : List Stage) → IsStory (t ∷ older) → ShowsAt t.place (fold (t ∷ older))
last_shows t older h = let folded = h.folded in folded.0

last_sized : (t : Stage) (older : List Stage) → IsStory (t ∷ older) → 0 < t.place.size
last_sized t older h = All-head HasRoom t.place (places older) h.good.sized

last_holds : (t : Stage) (older : List Stage) → IsStory (t ∷ older)
    → HoldsFrom (places (t ∷ older)) t.place.held (contents_of t.place)
last_holds t older h = All-head (HoldsUpTo (places (t ∷ older))) t.place (places older) h.good.held

-- ---- a call

-- so many of the places that it makes
called : (valid : StaysValid) (history others ended : List Stage) (t : Stage) (sent : List Message) (call : Call)
    (answer : Answer)
    (made : List Stage) (part : ℕ)
    → history ≡ t ∷ others → Told (history ++ ended) sent → IsMoment (clock_at call)
    → CallMakes t.place (fold (history ++ ended)) call answer made
    → Told (onto (take part made) history ++ ended) sent
called valid history others ended t sent call answer made part is h clock makes =
    let older = others ++ ended in
    let all = t ∷ older in
    let here : Told all sent = subst (λ (x : List Stage). Told (x ++ ended) sent) is h in
    let makes_here : CallMakes t.place (fold all) call answer made =
    subst (λ (x : List Stage). CallMakes t.place (fold (x ++ ended)) call answer made) is makes in
    let whole = call_path t.place (fold all) call answer made clock (last_shows t older here.story)
    (last_sized t older here.story) makes_here in
    let path = path_front t.place (fold all) made part whole in
    let after : Told (onto (take part made) all) sent = path_told valid (take part made) t older sent here path in
    subst (λ (x : List Stage). Told (onto (take part made) x ++ ended) sent) (sym is)
    (subst (λ (x : List Stage). Told x sent) (onto_rest (take part made) (t ∷ others) ended) after)

whole_is : (made : List Stage) → take (length made) made ≡ made
whole_is [] = refl
whole_is (t ∷ made) = ap (λ (x : List Stage). t ∷ x) (whole_is made)

-- ---- a creation

seen_before : (stages : List Stage) (time : Moment) → All (λ p. micros (point_of p).time < micros time) (places stages)
    → All (λ (a : Seen). micros (point_of a.place).time < micros time) (all_seen stages)
seen_before [] time h = All-nil (λ (a : Seen). micros (point_of a.place).time < micros time)
seen_before (t ∷ older) time h =
    All-cons (λ (a : Seen). micros (point_of a.place).time < micros time) (seen t.place (fold (t ∷ older)))
    (all_seen older)
    (All-head (λ p. micros (point_of p).time < micros time) t.place (places older) h)
    (seen_before older time (All-tail (λ p. micros (point_of p).time < micros time) t.place (places older) h))

created_told : (t : Stage) (older : List Stage) (sent : List Message) → IsCreation (places older) t → Told older sent
    → Told (t ∷ older) sent
created_told t older sent c h =
    let q = created c.realm c.rows c.point c.size c.block c.stash c.format in
    let at : point_of q ≡ c.point = first_point no_point (base_marker c.point) in
    let s : Stage = stage q (Filled c.state) in
    let same : t ≡ s = ap (λ (x : Place). stage x t.deed) c.is ∙ ap (stage q) c.deed in
    let good = h.story.good in
    let holds : HoldsFrom (q ∷ places older) q.held (contents_of q) =
    record {
      from = contents_of q;
      has = record { place = q; there = contains_first q (places older); is = refl };
      at = at;
      leads = refl;
    } in
    let valid : IsValid (point_of q).time c.state = subst (λ (x : Point). IsValid x.time c.state) (sym at) c.valid in
    let shown : ShowsAt q c.state = record { realm = c.same; at = c.at ∙ sym at; shows = c.shows; valid = valid } in
    let marked = ap (λ (x : Point). last_entries c.size (base_marker x ∷ [])) (sym at) in
    let full : q.held ≡ last_entries c.size (base_marker (point_of q) ∷ []) =
    sym (one_entry c.size (base_marker c.point) c.some) ∙ marked in
    let IsBefore : Seen → Type 0 = λ a. micros (point_of a.place).time < micros c.point.time in
    let new : Told (s ∷ older) sent = record {
      story = record {
        rising = (
          All-weaker IsBefore (λ a. IsLater a (seen q c.state))
              (λ a lt. inl (subst (λ (x : Point). ComesBefore (point_of a.place) x) (sym at) (inl lt)))
              (all_seen older) (seen_before older c.point.time c.later),
          h.story.rising,
        );
        good = record {
          held = All-cons (HoldsUpTo (q ∷ places older)) q (places older) holds
              (all_hold_more q (places older) (places older) good.held);
          sized = All-cons HasRoom q (places older) c.some good.sized;
        };
        folded = (shown, h.story.folded);
        full = (full, h.story.full);
      };
      told = told_more q (places older) sent h.told;
    } in
    subst (λ (x : Stage). Told (x ∷ older) sent) (sym same) new

-- ---- what is sent

sent_poll : (history others ended : List Stage) (t : Stage) (denied busy : Bool) (asked : Point) → history ≡ t ∷ others
    → IsStory (history ++ ended)
    → IsTrueOf (places (history ++ ended)) (Reply (poll_reply denied busy asked t.place.held))
sent_poll history others ended t denied busy asked is h =
    let here : IsStory (t ∷ others ++ ended) = subst (λ (x : List Stage). IsStory (x ++ ended)) is h in
    subst (λ (x : List Stage). IsTrueOf (places (x ++ ended)) (Reply (poll_reply denied busy asked t.place.held)))
    (sym is)
    (poll_true (places (t ∷ others ++ ended)) denied busy asked t.place.held (contents_of t.place)
    (last_holds t (others ++ ended) here))

sent_dump : (history others ended : List Stage) (t : Stage) → history ≡ t ∷ others
    → IsTrueOf (places (history ++ ended)) (Dumped (contents_of t.place))
sent_dump history others ended t is =
    subst (λ (x : List Stage). IsTrueOf (places (x ++ ended)) (Dumped (contents_of t.place))) (sym is)
    (record { place = t.place; there = contains_first t.place (places (others ++ ended)); is = refl })

say : (stages : List Stage) (sent : List Message) (said : Option Message) (m : Message) → said ≡ Some m
    → Told stages sent
    → IsTrueOf (places stages) m → Told stages (also said sent)
say stages sent said m is h true_ = subst (λ (x : Option Message). Told stages (also x sent)) (sym is)
    (record { story = h.story; told = All-cons (IsTrueOf (places stages)) m sent true_ h.told })

silent : (stages : List Stage) (sent : List Message) (said : Option Message) → said ≡ None → Told stages sent
    → Told stages (also said sent)
silent stages sent said is h = subst (λ (x : Option Message). Told stages (also x sent)) (sym is) h

-- ---- events

event_told : (valid : StaysValid) (event : SiteEvent) (old new : Site) (sent : List Message) (said : Option Message)
    → Told (story_of old) sent
    → HappensAt event old new said
    → Told (story_of new) (also said sent)
event_told valid (Creates t up) old new sent said h e =
    let ended : Told old.ended sent = subst (λ (x : List Stage). Told (x ++ old.ended) sent) e.none h in
    silent (story_of new) sent said e.silent
    (subst (λ (x : Site). Told (story_of x) sent) (sym e.is) (created_told t old.ended sent e.creation ended))
event_told valid (Calls call answer made) old new sent said h e =
    let part : Told (onto (take (length made) made) old.history ++ old.ended) sent =
    called valid old.history e.at.others old.ended e.at.last sent call answer made
    (length made) e.at.is h e.clock e.makes in
    let after : Told (onto made old.history ++ old.ended) sent =
    subst (λ (x : List Stage). Told (onto x old.history ++ old.ended) sent) (whole_is made) part in
    silent (story_of new) sent said e.silent (subst (λ (x : Site). Told (story_of x) sent) (sym e.is) after)
event_told valid (Stops call answer made part) old new sent said h e =
    silent (story_of new) sent said e.silent (subst (λ (x : Site). Told (story_of x) sent) (sym e.is)
    (called valid old.history e.at.others old.ended e.at.last sent call answer made part e.at.is h e.clock e.makes))
event_told valid Crashes old new sent said h e =
    silent (story_of new) sent said e.silent (subst (λ (x : Site). Told (story_of x) sent) (sym e.is) h)
event_told valid Ends old new sent said h e =
    silent (story_of new) sent said e.silent (subst (λ (x : Site). Told (story_of x) sent) (sym e.is) h)
event_told valid Looks old new sent said h e =
    silent (story_of new) sent said e.silent (subst (λ (x : Site). Told (story_of x) sent) (sym e.is) h)
event_told valid (Polls client access asked) old new sent said h e =
    let denied = denies_pull access client in
    let busy = is_busy old in
    let m = Reply (poll_reply denied busy asked e.at.last.place.held) in
    subst (λ (x : Site). Told (story_of x) (also said sent)) (sym e.is)
    (say (story_of old) sent said m e.says h
    (sent_poll old.history e.at.others old.ended e.at.last denied busy asked e.at.is h.story))
event_told valid (Dumps client access) old new sent said h e =
    let m = Dumped (contents_of e.at.last.place) in
    subst (λ (x : Site). Told (story_of x) (also said sent)) (sym e.is)
    (say (story_of old) sent said m e.says h (sent_dump old.history e.at.others old.ended e.at.last e.at.is))
event_told valid EndsDump old new sent said h e =
    silent (story_of new) sent said e.silent (subst (λ (x : Site). Told (story_of x) sent) (sym e.is) h)

-- ---- runs

pub event_holds : (valid : StaysValid) (event : SiteEvent) (old new : Site) (sent : List Message)
    (said : Option Message) → SiteHolds old sent
    → HappensAt event old new said
    → SiteHolds new (also said sent)
event_holds valid event old new sent said h e =
    let after = event_told valid event old new sent said (record { story = h.story; told = h.told }) e in
    record { fresh = site_fresh event old new said h.fresh e; story = after.story; told = after.told }

run_holds : (valid : StaysValid) (events : List SiteEvent) (old new : Site) (sent all : List Message)
    → SiteHolds old sent
    → SiteRun old sent events new all → SiteHolds new all
run_holds valid [] old new sent all h run =
    subst (λ (x : Site). SiteHolds x all) (sym run.0) (subst (λ (x : List Message). SiteHolds old x) (sym run.1) h)
run_holds valid (event ∷ events) old new sent all h run =
    run_holds valid events run.0 new (also run.1 sent) all (event_holds valid event old run.0 sent run.1 h run.2) run.3

pub nothing_holds : SiteHolds no_site []
nothing_holds = record {
  fresh = tt;
  story = record {
    rising = tt;
    good = record { held = All-nil (HoldsUpTo []); sized = All-nil HasRoom };
    folded = tt;
    full = tt;
  };
  told = All-nil (IsTrueOf []);
}

pub primary_holds : (valid : StaysValid) (events : List SiteEvent) (s : Site) (sent : List Message)
    → SiteRun no_site [] events s sent
    → SiteHolds s sent
primary_holds valid events s sent run = run_holds valid events no_site s [] sent nothing_holds run

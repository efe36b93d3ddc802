-- What a stop leaves, and what comes of several of them.
use Rattle.std.proofs.Common.{◌≡◌, inl, inr, true, false, List, [], ◌∷◌, ◌++◌, None, Ok, refl, sym, ◌∙◌, ap, subst}
use Rattle.std.proofs.lemmas.List.Elements.{All-append, All-cons, All-nil, All-weaker}
use Rattle.iprop_truths.specs.Truths.{Message}
use Rattle.kdb_disk.specs.Files.{Files}
use Rattle.kdb_disk.specs.View.{View}
use Rattle.kdb_histories.proofs.Bridging.{stopped}
use Rattle.kdb_histories.specs.Asks.{Answer}
use Rattle.kdb_histories.specs.Bridges.{IsStopOf}
use Rattle.kdb_histories.specs.Calls.{Call, CallMakes}
use Rattle.kdb_histories.specs.Leaving.{MayReach}
use Rattle.kdb_histories.specs.Sites.{Site, SiteEvent, Creates, Calls, Stops, Crashes, Ends}
use Rattle.kdb_histories.specs.Sites.{Looks, Polls, Dumps, EndsDump, HappensAt, SiteRun, Stands}
use Rattle.kdb_histories.specs.Sites.{also, clock_at, fallen, state_of, wants_open, with_ended}
use Rattle.kdb_histories.specs.Stages.{Stage, places}
use Rattle.kdb_model.specs.Laws.{IsMoment}
use Rattle.kdb_places.specs.Places.{Place}
use Rattle.primary_core.proofs.Called.{call_leaves}
use Rattle.primary_core.specs.Ending.{MayEnd}
use Rattle.primary_core.specs.Opened.{MayLeave, Opened, place_of}
use Rattle.primary_events.specs.At.{IsAt, LastIn, StandsFor}
use Rattle.primary_events.specs.Coming.{ComesBy, ComesTo, IsQuiet, IsStop, StopsTo}
use Rattle.store_files.specs.Found.{found_in, place_in, recovers}
use Rattle.store_files.specs.Recovery.{Destroys, HasNone, IsLike, LeavesPart, RecoversTo}

-- ---- kinds

pub stop_of : (call : Call) (event : SiteEvent) → IsStopOf call event → IsStop event
stop_of call (Creates t up) h = absurd h
stop_of call (Calls own answer made) h = absurd h
stop_of call (Stops own answer made part) h = tt
stop_of call Crashes h = tt
stop_of call Ends h = absurd h
stop_of call Looks h = absurd h
stop_of call (Polls client access asked) h = absurd h
stop_of call (Dumps client access) h = absurd h
stop_of call EndsDump h = absurd h

pub stop_quiet : (event : SiteEvent) → IsStop event → IsQuiet event
stop_quiet (Creates t up) h = absurd h
stop_quiet (Calls own answer made) h = absurd h
stop_quiet (Stops own answer made part) h = tt
stop_quiet Crashes h = tt
stop_quiet Ends h = absurd h
stop_quiet Looks h = absurd h
stop_quiet (Polls client access asked) h = absurd h
stop_quiet (Dumps client access) h = absurd h
stop_quiet EndsDump h = absurd h

-- what comes by one kind of events comes by a wider one
pub comes_wider : (Own Kind : SiteEvent → Type 0) (wider : (event : SiteEvent) → Own event → Kind event) (s : Site)
    (c : Files) → ComesBy Own s c
    → ComesBy Kind s c
comes_wider Own Kind wider s c h = record {
  events = h.events;
  each = All-weaker Own Kind wider h.events h.each;
  new = h.new;
  run = h.run;
  stands = h.stands;
  closed = h.closed;
}

pub comes_quiet : (s : Site) (c : Files) → StopsTo s c → ComesTo s c
comes_quiet = comes_wider IsStop IsQuiet stop_quiet

pub own_comes : (call : Call) (s : Site) (c : Files) → ComesBy (IsStopOf call) s c → StopsTo s c
own_comes call = comes_wider (IsStopOf call) IsStop (stop_of call)

-- ---- one event

pub one_event : (Kind : SiteEvent → Type 0) (s new : Site) (event : SiteEvent) (c : Files) → Kind event
    → HappensAt event s new None
    → new.up ≡ false → StandsFor new c → ComesBy Kind s c
one_event Kind s new event c kind happens closed stands = record {
  events = event ∷ [];
  each = All-cons Kind event [] kind (All-nil Kind);
  new = new;
  run = λ sent. (new, None, happens, (refl, refl));
  stands = stands;
  closed = closed;
}

-- the files recover to the place at which a site stands
pub stands_at : (s : Site) (at : Stands s) (q : Place) (c : Files) → at.last.place ≡ q → recovers c ≡ Ok q
    → StandsFor s c
stands_at s at q c here is = subst (λ (h : List Stage). LastIn h c) (sym at.is) (is ∙ ap Ok (sym here))

-- ---- a stop inside a call, a crash between two, and an end

pub stop_comes : (s : Site) (at : Stands s) (call : Call) (q : Place) (c : Files) → s.up ≡ wants_open call
    → IsMoment (clock_at call)
    → MayReach at.last.place (state_of s) call q → recovers c ≡ Ok q → ComesBy (IsStopOf call) s c
stop_comes s at call q c ready clock may is =
    let e = stopped s at call q ready clock may in
    one_event (IsStopOf call) s e.new e.event c e.stops e.happens e.closed (stands_at e.new e.at q c e.is is)

pub crash_comes : (s : Site) (c : Files) → StandsFor s c → StopsTo s c
crash_comes s c stands = one_event IsStop s (fallen s) Crashes c tt (record { is = refl; silent = refl }) refl stands

pub end_comes : (s : Site) (c : Files) → Stands s → HasNone c → ComesTo s c
end_comes s c at none =
    one_event IsQuiet s (with_ended s) Ends c tt (record { at = at; is = refl; silent = refl }) refl none

-- ---- of an open primary

pub own_stops : (o : Opened) (s : Site) (call : Call) (c : Files) → IsAt o s → wants_open call ≡ true
    → IsMoment (clock_at call)
    → MayLeave (place_of o) (state_of s) call c → ComesBy (IsStopOf call) s c
own_stops o s call c h open_ clock left =
    let may = subst (λ (p : Place). MayReach p (state_of s) call left.place) (sym h.place) left.may in
    stop_comes s h.at call left.place c (h.up ∙ sym open_) clock may left.is

pub call_stops : (o : Opened) (s : Site) (call : Call) (c : Files) → IsAt o s → wants_open call ≡ true
    → IsMoment (clock_at call)
    → MayLeave (place_of o) (state_of s) call c → StopsTo s c
call_stops o s call c h open_ clock left = own_comes call s c (own_stops o s call c h open_ clock left)

-- what is left of the places that it makes
pub made_stops : (o : Opened) (s : Site) (call : Call) (answer : Answer) (made : List Stage) (c : Files) → IsAt o s
    → wants_open call ≡ true
    → IsMoment (clock_at call) → CallMakes (place_of o) (state_of s) call answer made
    → LeavesPart (place_of o) (places made) c → ComesBy (IsStopOf call) s c
made_stops o s call answer made c h open_ clock makes leaves =
    own_stops o s call c h open_ clock (call_leaves (place_of o) (state_of s) call answer made makes c leaves)

pub may_end : (o : Opened) (s : Site) (c : Files) → IsAt o s → MayEnd (place_of o) c → ComesTo s c
may_end o s c h (inl is) = comes_quiet s c (crash_comes s c (stands_at s h.at (place_of o) c h.place is))
may_end o s c h (inr none) = end_comes s c h.at none

-- ---- what the files stand for is all that counts

last_like : (history : List Stage) (c b : Files) → found_in c ≡ found_in b → LastIn history b → LastIn history c
last_like [] c b same h = same ∙ h
last_like (t ∷ older) c b same h = ap place_in same ∙ h

pub like_comes : (Kind : SiteEvent → Type 0) (s : Site) (c b : Files) → found_in c ≡ found_in b → ComesBy Kind s b
    → ComesBy Kind s c
like_comes Kind s c b same h = record {
  events = h.events;
  each = h.each;
  new = h.new;
  run = h.run;
  stands = last_like h.new.history c b same h.stands;
  closed = h.closed;
}

-- ---- one stop after another

pub run_append : (events more : List SiteEvent) (a b d : Site) (x y z : List Message) → SiteRun a x events b y
    → SiteRun b y more d z
    → SiteRun a x (events ++ more) d z
run_append [] more a b d x y z run rest =
    subst (λ (s : Site). SiteRun s x more d z) run.0 (subst (λ (m : List Message). SiteRun b m more d z) run.1 rest)
run_append (event ∷ events) more a b d x y z run rest =
    (run.0, run.1, run.2, run_append events more run.0 b d (also run.1 x) y z run.3 rest)

pub stops_join : (Kind : SiteEvent → Type 0) (s : Site) (b c : Files) (h : ComesBy Kind s b) → ComesBy Kind h.new c
    → ComesBy Kind s c
stops_join Kind s b c h k = record {
  events = h.events ++ k.events;
  each = All-append Kind h.events k.events h.each k.each;
  new = k.new;
  run = λ sent. run_append h.events k.events s h.new k.new sent sent sent (h.run sent) (k.run sent);
  stands = k.stands;
  closed = k.closed;
}

-- ---- images

pub images_like : (Kind : SiteEvent → Type 0) (v : View) (s : Site) (c : Files)
    → ((b : Files) → v.images b → ComesBy Kind s b) → IsLike v c
    → ComesBy Kind s c
images_like Kind v s c each like = like_comes Kind s c like.before like.same (each like.before like.was)

pub images_kept : (v : View) (o : Opened) (s : Site) (c : Files) → IsAt o s → RecoversTo (place_of o) v
    → v.images c → StopsTo s c
images_kept v o s c h recovered image = crash_comes s c (stands_at s h.at (place_of o) c h.place (recovered c image))

pub images_end : (v : View) (s : Site) (c : Files) → Stands s → ((b : Files) → v.images b → ComesTo s b)
    → Destroys v c → ComesTo s c
images_end v s c at each (inl like) = images_like IsQuiet v s c each like
images_end v s c at each (inr none) = end_comes s c at none

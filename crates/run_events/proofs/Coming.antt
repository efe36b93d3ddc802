-- How files come of a site.
use Rattle.std.proofs.Common.{◌≡◌, false, List, [], ◌∷◌, ◌++◌, Result, Ok, Err, refl, sym, ◌∙◌, ap}
use Rattle.kadm_session.specs.Runs.{IsOpenAt, RunsOn, RunsToStop}
use Rattle.kdb_base.specs.declared.outcomes.Refusal.{Refusal}
use Rattle.kdb_base.specs.declared.outcomes.Refusal.TheVariants.{NotADatabase}
use Rattle.kdb_disk.specs.Files.{Files}
use Rattle.kdb_disk.specs.View.{View}
use Rattle.kdb_histories.specs.Seen.{Seen}
use Rattle.kdb_histories.specs.Sites.{Site, SiteEvent, no_site}
use Rattle.kdb_histories.specs.Stages.{Stage}
use Rattle.kdb_places.specs.Places.{Place}
use Rattle.primary_events.proofs.Coming.{crash_comes, run_append, stands_at}
use Rattle.primary_events.specs.At.{LastIn, StandsFor}
use Rattle.primary_events.specs.Coming.{ComesBy, IsStop}
use Rattle.run_events.specs.Coming.{HasCome, HasHistory, RestsAt}
use Rattle.store_files.specs.Found.{found_in, place_in, recovers}
use Rattle.store_files.specs.Recovery.{HasNone, IsLike}

-- ---- runs of events

pub runs_then : (a b d : Site) → RunsOn a b → RunsOn b d → RunsOn a d
runs_then a b d one two = record {
  events = one.events ++ two.events;
  run = λ sent. run_append one.events two.events a b d sent sent sent (one.run sent) (two.run sent);
}

pub history_on : (s new : Site) → HasHistory s → RunsOn s new → HasHistory new
history_on s new h r = record {
  events = h.events ++ r.events;
  sent = h.sent;
  run = run_append h.events r.events no_site s new [] h.sent h.sent h.run (r.run h.sent);
}

-- ---- files

-- by what comes of one call
pub come : (Kind : SiteEvent → Type 0) (s : Site) (c : Files) → ComesBy Kind s c → HasCome s c
come Kind s c h =
    record { new = h.new; runs = record { events = h.events; run = h.run }; closed = h.closed; stands = h.stands }

-- nothing happened
pub stays : (s : Site) (c : Files) → s.up ≡ false → StandsFor s c → HasCome s c
stays s c closed stands =
    record { new = s; runs = record { events = []; run = λ sent. (refl, refl) }; closed = closed; stands = stands }

last_like : (history : List Stage) (c b : Files) → found_in c ≡ found_in b → LastIn history b → LastIn history c
last_like [] c b same h = same ∙ h
last_like (t ∷ older) c b same h = ap place_in same ∙ h

pub stands_like : (s : Site) (old : View) (c : Files) → ((b : Files) → old.images b → StandsFor s b) → IsLike old c
    → StandsFor s c
stands_like s old c stands like = last_like s.history c like.before like.same (stands like.before like.was)

pub like_comes : (s : Site) (old : View) (c : Files) → RestsAt s old → IsLike old c → HasCome s c
like_comes s old c rests like =
    let h = rests.each like.before like.was in
    record {
      new = h.new;
      runs = h.runs;
      closed = h.closed;
      stands = last_like h.new.history c like.before like.same h.stands;
    }

-- one behind another
pub comes_behind : (s new : Site) (c : Files) → RunsOn s new → HasCome new c → HasCome s c
comes_behind s new c runs h =
    record { new = h.new; runs = runs_then s new h.new runs h.runs; closed = h.closed; stands = h.stands }

pub stop_comes_down : (s : Site) (q : Place) (c : Files) → RunsToStop s q → recovers c ≡ Ok q → HasCome s c
stop_comes_down s q c stop is = record {
  new = stop.new;
  runs = stop.runs;
  closed = stop.closed;
  stands = stands_at stop.new stop.stands q c stop.is is;
}

-- an open primary crashes
pub falls : (s : Site) (at : Seen) (c : Files) → IsOpenAt s at → recovers c ≡ Ok at.place → HasCome s c
falls s at c here is = come IsStop s c (crash_comes s c (stands_at s here.stands at.place c here.place is))

-- ---- what files stand for

pub nothing_there : (c : Files) (p : Place) → found_in c ≡ Err NotADatabase → recovers c ≡ Ok p → ⊥
nothing_there c p none is = let both : ◌≡◌ {A = Result Place Refusal} (Err NotADatabase) (Ok p) =
    sym (ap place_in none) ∙ is in absurd cc

-- there is no history where the files stand for no database
pub no_history : (history : List Stage) (c : Files) → LastIn history c → found_in c ≡ Err NotADatabase → history ≡ []
no_history [] c h none = refl
no_history (t ∷ older) c h none = absurd (nothing_there c t.place none h)

-- files that recover to one place stand for the same
pub last_same : (history : List Stage) (p : Place) (b c : Files) → LastIn history b → recovers b ≡ Ok p
    → recovers c ≡ Ok p → LastIn history c
last_same [] p b c h at is = absurd (nothing_there b p h at)
last_same (t ∷ older) p b c h at is = is ∙ sym at ∙ h

pub last_none : (history : List Stage) (b c : Files) → LastIn history b → HasNone b → HasNone c → LastIn history c
last_none [] b c h at none = none
last_none (t ∷ older) b c h at none = absurd (nothing_there b t.place at h)

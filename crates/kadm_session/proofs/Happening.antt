-- The lines of a session are events of the primary's history.
use Rattle.std.proofs.Common.{◌≡◌, ◌∙◌, ℕ, List, [], ◌∷◌, ◌++◌, Bool, true, false}
use Rattle.std.proofs.Common.{if◌then◌else◌, refl, ap, sym, subst, inl, inr}
use Rattle.std.specs.Prelude.{Option, Some, None, ⊤}
use Rattle.iprop_truths.specs.Parts.{end_of}
use Rattle.iprop_truths.specs.Truths.{Message}
use Rattle.kadm_commands.specs.declared.replies.Reply.TheVariants as reply
use Rattle.kadm_session.proofs.Showing.{HasShown, ask_shows, line_shows}
use Rattle.kadm_session.specs.Events.{AreRekeyings, ArePerformed, EventsReach, IfGoesOn, IsDone}
use Rattle.kadm_session.specs.Events.{IsPerformed, IsReached, LineReaches, RekeyingsReach, ask_next}
use Rattle.kadm_session.specs.Rekeying.{Progress, begun, one_more, rekeyed, unless_refused}
use Rattle.kadm_session.specs.Renewing.{after_reset, is_at_time_end, renewed, renewed_place}
use Rattle.kadm_session.specs.Runs.{IsOpenAt, RunsOn, RunsTo, RunsToStop}
use Rattle.kadm_session.specs.Steps.{ask_of, draws_after, said, seen_after}
use Rattle.kadm_session.specs.declared.intake.Asked.{Asked}
use Rattle.kadm_session.specs.declared.intake.Asked.TheVariants.{Nothing, Refused, Does, Rekeys, ResetsLog, WritesDump}
use Rattle.kdb_base.specs.Moment.{Moment}
use Rattle.kdb_base.specs.declared.moments.Point.{Point}
use Rattle.kdb_base.specs.declared.outcomes.Refusal.{Refusal}
use Rattle.kdb_histories.proofs.Bridging.{stopped}
use Rattle.kdb_histories.proofs.Growing.{StaysValid}
use Rattle.kdb_histories.proofs.Paths.{ask_state}
use Rattle.kdb_histories.proofs.SiteRuns.{onto_rest}
use Rattle.kdb_histories.specs.Asks.{Answer, Ask, Replied, clock_of}
use Rattle.kdb_histories.specs.Calls.{Call, CallMakes, Perform, Performs, ResetLog, Resets}
use Rattle.kdb_histories.specs.Leaving.{MayReach}
use Rattle.kdb_histories.specs.Seen.{Seen, after_ask, answer_at, made_at, outcome_at, reset_point, seen}
use Rattle.kdb_histories.specs.Sites.{Calls, Crashes, HappensAt, Site, SiteEvent, SiteRun, Stands}
use Rattle.kdb_histories.specs.Sites.{after_call, also, clock_at, fallen, state_of, story_of, wants_open}
use Rattle.kdb_histories.specs.Stages.{Anew, ShowsAt, Stage, fold, onto, places, stage}
use Rattle.kdb_model.specs.Laws.{IsMoment, at_point}
use Rattle.kdb_places.proofs.Points.{first_point}
use Rattle.kdb_places.specs.Places.{Place, base_marker, no_point}
use Rattle.kdb_plain.specs.Lists.{princ_names}
use Rattle.kdb_plain.specs.declared.states.State.{State}
use Rattle.primary_answers.specs.Listing.{names_told}
use Rattle.session_base.specs.Draws.{Draws, moment_in}

-- ---- runs

run_append : (events more : List SiteEvent) (a b d : Site) (x y z : List Message) → SiteRun a x events b y
    → SiteRun b y more d z → SiteRun a x (events ++ more) d z
run_append [] more a b d x y z run rest =
    subst (λ (s : Site). SiteRun s x more d z) run.0 (subst (λ (m : List Message). SiteRun b m more d z) run.1 rest)
run_append (event ∷ events) more a b d x y z run rest =
    (run.0, run.1, run.2, run_append events more run.0 b d (also run.1 x) y z run.3 rest)

runs_none : (s : Site) → RunsOn s s
runs_none s = record { events = []; run = λ sent. (refl, refl) }

runs_one : (event : SiteEvent) (s new : Site) → HappensAt event s new None → RunsOn s new
runs_one event s new happens = record { events = event ∷ []; run = λ sent. (new, None, happens, (refl, refl)) }

runs_then : (a b d : Site) → RunsOn a b → RunsOn b d → RunsOn a d
runs_then a b d one two = record {
  events = one.events ++ two.events;
  run = λ sent. run_append one.events two.events a b d sent sent sent (one.run sent) (two.run sent);
}

runs_still : (s : Site) (at : Seen) → IsOpenAt s at → RunsTo s at
runs_still s at here = record { new = s; runs = runs_none s; stays = here }

runs_on : (s : Site) (at later : Seen) (one : RunsTo s at) → RunsTo one.new later → RunsTo s later
runs_on s at later one two =
    record { new = two.new; runs = runs_then s one.new two.new one.runs two.runs; stays = two.stays }

runs_stop : (s : Site) (at : Seen) (q : Place) (one : RunsTo s at) → RunsToStop one.new q → RunsToStop s q
runs_stop s at q one stop = record {
  new = stop.new;
  runs = runs_then s one.new stop.new one.runs stop.runs;
  stands = stop.stands;
  is = stop.is;
  closed = stop.closed;
}

-- ---- a call that returned

-- the last of a history
record Tip (stages : List Stage) (q : Place) : Type 0 where
  last : Stage
  others : List Stage
  is : stages ≡ last ∷ others
  place : last.place ≡ q

tip_of : (made : List Stage) (t : Stage) (older : List Stage)
    → Tip (onto made (t ∷ older)) (end_of t.place (places made))
tip_of [] t older = record { last = t; others = older; is = refl; place = refl }
tip_of (u ∷ made) t older = tip_of made u (t ∷ older)

tip_at : (s : Site) (at : Stands s) (made : List Stage) → Tip (onto made s.history) (end_of at.last.place (places made))
tip_at s at made =
    let tip = tip_of made at.last at.others in
    record { last = tip.last; others = tip.others; is = ap (onto made) at.is ∙ tip.is; place = tip.place }

call_runs : (s : Site) (at later : Seen) (call : Call) (answer : Answer) (made : List Stage) → IsOpenAt s at
    → wants_open call ≡ true → IsMoment (clock_at call)
    → CallMakes at.place at.state call answer made → later.place ≡ end_of at.place (places made)
    → fold (onto made (story_of s)) ≡ later.state → RunsTo s later
call_runs s at later call answer made here open_ clock makes place state =
    let tip = tip_at s here.stands made in
    let own : CallMakes here.stands.last.place (state_of s) call answer made =
    subst (λ (x : State). CallMakes here.stands.last.place x call answer made) (sym here.state)
    (subst (λ (p : Place). CallMakes p at.state call answer made) (sym here.place) makes) in
    let new = after_call call made true s in
    record {
      new = new;
      runs = runs_one (Calls call answer made) s new (record {
        at = here.stands;
        ready = here.up ∙ sym open_;
        clock = clock;
        makes = own;
        is = refl;
        silent = refl;
      });
      stays = record {
        stands = record { last = tip.last; others = tip.others; is = tip.is };
        place = tip.place ∙ ap (λ (p : Place). end_of p (places made)) here.place ∙ sym place;
        state = ap fold (sym (onto_rest made s.history s.ended)) ∙ state;
        up = refl;
      };
    }

-- what the history comes to behind an ask is the ask's outcome
story_state : (history others ended : List Stage) (t : Stage) (p : Place) (ask : Ask) (answer : Answer)
    (made : List Stage) → history ≡ t ∷ others
    → t.place ≡ p → ShowsAt p (fold (history ++ ended)) → Performs p (fold (history ++ ended)) ask answer made
    → fold (onto made (history ++ ended)) ≡ (outcome_at ask (seen p (fold (history ++ ended)))).state
story_state history others ended t p ask answer made is here =
    subst (λ (x : List Stage). ShowsAt p (fold (x ++ ended)) → Performs p (fold (x ++ ended)) ask answer made
    → fold (onto made (x ++ ended)) ≡ (outcome_at ask (seen p (fold (x ++ ended)))).state) (sym is)
    (subst (λ (q : Place). ShowsAt q (fold (t ∷ others ++ ended))
    → Performs q (fold (t ∷ others ++ ended)) ask answer made
    → fold (onto made (t ∷ others ++ ended)) ≡ (outcome_at ask (seen q (fold (t ∷ others ++ ended)))).state) here
    (ask_state t (others ++ ended) ask answer made))

ask_runs : (s : Site) (ask : Ask) (at : Seen) → IsMoment (clock_of ask) → IsOpenAt s at → HasShown at → IsDone ask at
    → RunsTo s (after_ask ask at)
ask_runs s ask at moment here has done =
    let answer = answer_at ask at in
    let made = made_at ask at in
    let shows : ShowsAt at.place (state_of s) = subst (λ (x : State). ShowsAt at.place x) (sym here.state) has.shows in
    let performs : Performs at.place (state_of s) ask answer made =
    subst (λ (x : State). Performs at.place x ask answer made) (sym here.state) done in
    call_runs s at (after_ask ask at) (Perform ask) answer made here refl moment done refl
    (story_state s.history here.stands.others s.ended here.stands.last at.place ask answer made here.stands.is
    here.place shows performs
    ∙ ap (λ (x : State). (outcome_at ask (seen at.place x)).state) here.state)

reset_runs : (s : Site) (now : Moment) (at : Seen) → IsMoment now → IsOpenAt s at
    → (is_at_time_end at ≡ false → Resets at.place now (stage (renewed_place now at.place) Anew ∷ []))
    → RunsTo s (after_reset now at)
reset_runs s now at moment here resets = by (is_at_time_end at) refl
  where
    by : (b : Bool) → is_at_time_end at ≡ b → RunsTo s (if b then at else renewed now at)
    by true late = runs_still s at here
    by false left =
        let base : Point = reset_point now at.place in
        call_runs s at (renewed now at) (ResetLog now) (Replied (reply.Done base))
        (stage (renewed_place now at.place) Anew ∷ []) here refl moment (resets left) refl
        (ap (λ (x : Point). at_point x (state_of s)) (first_point no_point (base_marker base))
        ∙ ap (at_point base) here.state)

-- ---- a call that stopped

call_stops : (s : Site) (at : Seen) (call : Call) (q : Place) → IsOpenAt s at → wants_open call ≡ true
    → IsMoment (clock_at call) → MayReach at.place at.state call q → RunsToStop s q
call_stops s at call q here open_ clock may =
    let own : MayReach here.stands.last.place (state_of s) call q =
    subst (λ (x : State). MayReach here.stands.last.place x call q) (sym here.state)
    (subst (λ (p : Place). MayReach p at.state call q) (sym here.place) may) in
    let stop = stopped s here.stands call q (here.up ∙ sym open_) clock own in
    record {
      new = stop.new;
      runs = runs_one stop.event s stop.new stop.happens;
      stands = stop.at;
      is = stop.is;
      closed = stop.closed;
    }

-- a crash between two calls
still_stops : (s : Site) (at : Seen) (q : Place) → IsOpenAt s at → q ≡ at.place → RunsToStop s q
still_stops s at q here same = record {
  new = fallen s;
  runs = runs_one Crashes s (fallen s) (record { is = refl; silent = refl });
  stands = record { last = here.stands.last; others = here.stands.others; is = here.stands.is };
  is = here.place ∙ sym same;
  closed = refl;
}

-- ---- one rekeying after another

runs_unless : (why : Option Refusal) (s : Site) (next later : Progress) (Next : Type 0) → RunsTo s next.at
    → (Next → RunsTo s later.at) → IfGoesOn why Next ⊤
    → RunsTo s (unless_refused why next later).at
runs_unless None s next later Next one behind h = behind h
runs_unless (Some why) s next later Next one behind h = one

rekeyings_run : (valid : StaysValid) (words : List (List ℕ)) (clock : Moment) (s : Site) (p : Progress) → IsMoment clock
    → IsOpenAt s p.at → HasShown p.at
    → AreRekeyings words clock p → RunsTo s (rekeyed words clock p).at
unfolding AreRekeyings rekeyed
rekeyings_run valid [] clock s p moment here has are = runs_still s p.at here
rekeyings_run valid (word ∷ words) clock s p moment here has are =
    let ask = ask_next clock word p in
    let next = one_more clock word p in
    let one : RunsTo s next.at = ask_runs s ask p.at moment here has are.0 in
    let shown : HasShown next.at = ask_shows valid ask p.at moment has are.0 in
    runs_unless next.why s next (rekeyed words clock next) (AreRekeyings words clock next) one
    (λ h. runs_on s next.at (rekeyed words clock next).at one
    (rekeyings_run valid words clock one.new next moment one.stays shown h)) are.1

stops_behind : (why : Option Refusal) (s : Site) (q : Place) (Next : Type 0) → (Next → RunsToStop s q)
    → IfGoesOn why Next ⊥ → RunsToStop s q
stops_behind None s q Next behind h = behind h
stops_behind (Some why) s q Next behind h = absurd h

rekeyings_stop : (valid : StaysValid) (words : List (List ℕ)) (clock : Moment) (s : Site) (p : Progress) (q : Place)
    → IsMoment clock → IsOpenAt s p.at → HasShown p.at
    → RekeyingsReach words clock p q → RunsToStop s q
unfolding RekeyingsReach
rekeyings_stop valid [] clock s p q moment here has is = still_stops s p.at q here is
rekeyings_stop valid (word ∷ words) clock s p q moment here has (inl may) =
    call_stops s p.at (Perform (ask_next clock word p)) q here refl moment may
rekeyings_stop valid (word ∷ words) clock s p q moment here has (inr behind) =
    let ask = ask_next clock word p in
    let next = one_more clock word p in
    let one : RunsTo s next.at = ask_runs s ask p.at moment here has behind.0 in
    let shown : HasShown next.at = ask_shows valid ask p.at moment has behind.0 in
    stops_behind next.why s q (RekeyingsReach words clock next q)
    (λ h. runs_stop s next.at q one (rekeyings_stop valid words clock one.new next q moment one.stays shown h)) behind.1

-- ---- one line after another

line_runs : (valid : StaysValid) (asked : Asked) (draws : Draws) (s : Site) (at : Seen) → IsOpenAt s at → HasShown at
    → IsPerformed asked draws at → RunsTo s (seen_after asked draws at)
unfolding seen_after
line_runs valid Nothing draws s at here has done = runs_still s at here
line_runs valid (Refused refusal) draws s at here has done = runs_still s at here
line_runs valid (Does command) draws s at here has done = ask_runs s (ask_of command draws at) at done.0 here has done.1
line_runs valid (Rekeys glob) draws s at here has done =
    rekeyings_run valid (names_told glob (princ_names at.state.princs)) (moment_in draws) s
    (begun at draws.stream) done.0 here has done.1
line_runs valid ResetsLog draws s at here has done = reset_runs s (moment_in draws) at done.0 here done.1
line_runs valid WritesDump draws s at here has done = runs_still s at here

pub lines_run : (valid : StaysValid) (commands : List Asked) (draws : Draws) (s : Site) (at : Seen) → IsOpenAt s at
    → HasShown at → ArePerformed commands draws at
    → RunsTo s (said commands draws at).at
unfolding ArePerformed said
lines_run valid [] draws s at here has are = runs_still s at here
lines_run valid (asked ∷ commands) draws s at here has are =
    let draws' = draws_after asked draws at in
    let next = seen_after asked draws at in
    let one = line_runs valid asked draws s at here has are.0 in
    runs_on s next (said commands draws' next).at one
    (lines_run valid commands draws' one.new next one.stays (line_shows valid asked draws at has are.0) are.1)

events_stop : (valid : StaysValid) (asked : Asked) (draws : Draws) (s : Site) (at : Seen) (q : Place)
    → IsMoment (moment_in draws) → IsOpenAt s at → HasShown at
    → EventsReach asked draws at q → RunsToStop s q
events_stop valid Nothing draws s at q moment here has h = absurd h
events_stop valid (Refused refusal) draws s at q moment here has h = absurd h
events_stop valid (Does command) draws s at q moment here has may =
    call_stops s at (Perform (ask_of command draws at)) q here refl moment may
events_stop valid (Rekeys glob) draws s at q moment here has h =
    rekeyings_stop valid (names_told glob (princ_names at.state.princs)) (moment_in draws) s
    (begun at draws.stream) q moment here has h
events_stop valid ResetsLog draws s at q moment here has h =
    call_stops s at (ResetLog (moment_in draws)) q here refl moment h.1
events_stop valid WritesDump draws s at q moment here has h = absurd h

line_stops : (valid : StaysValid) (asked : Asked) (draws : Draws) (s : Site) (at : Seen) (q : Place) → IsOpenAt s at
    → HasShown at → LineReaches asked draws at q → RunsToStop s q
line_stops valid asked draws s at q here has (inl same) = still_stops s at q here same
line_stops valid asked draws s at q here has (inr h) = events_stop valid asked draws s at q h.0 here has h.1

pub lines_stop : (valid : StaysValid) (commands : List Asked) (draws : Draws) (s : Site) (at : Seen) (q : Place)
    → IsOpenAt s at → HasShown at → IsReached commands draws at q
    → RunsToStop s q
unfolding IsReached
lines_stop valid [] draws s at q here has same = still_stops s at q here same
lines_stop valid (asked ∷ commands) draws s at q here has (inl line) = line_stops valid asked draws s at q here has line
lines_stop valid (asked ∷ commands) draws s at q here has (inr behind) =
    let next = seen_after asked draws at in
    let one = line_runs valid asked draws s at here has behind.0 in
    runs_stop s next q one
    (lines_stop valid commands (draws_after asked draws at) one.new next q one.stays
    (line_shows valid asked draws at has behind.0) behind.1)

-- The rows of each place that the events of lines reach show a valid state.
use Rattle.std.proofs.Common.{◌≡◌, ◌<◌, ◌∙◌, ℕ, List, [], ◌∷◌, Bool, true, false}
use Rattle.std.proofs.Common.{if◌then◌else◌, refl, ap, sym, subst, inl, inr}
use Rattle.std.specs.Prelude.{Option, Some, None, ⊤}
use Rattle.iprop_truths.specs.Blocks.{block_for}
use Rattle.iprop_truths.specs.Parts.{IsPart, end_of}
use Rattle.kadm_session.specs.Events.{AreRekeyings, EventsReach, IfGoesOn, IsDone, IsPerformed}
use Rattle.kadm_session.specs.Events.{IsReached, LineReaches, RekeyingsReach, ShowsSome, ask_next}
use Rattle.kadm_session.specs.Rekeying.{Progress, begun, one_more, rekeyed, unless_refused}
use Rattle.kadm_session.specs.Renewing.{after_reset, is_at_time_end, renewed, renewed_place}
use Rattle.kadm_session.specs.Steps.{ask_of, draws_after, seen_after}
use Rattle.kadm_session.specs.declared.intake.Asked.{Asked}
use Rattle.kadm_session.specs.declared.intake.Asked.TheVariants.{Nothing, Refused, Does, Rekeys, ResetsLog, WritesDump}
use Rattle.kdb_base.specs.Moment.{Moment}
use Rattle.kdb_base.specs.declared.outcomes.Refusal.{Refusal}
use Rattle.kdb_histories.proofs.Growing.{StaysValid}
use Rattle.kdb_histories.specs.Asks.{Ask, clock_of}
use Rattle.kdb_histories.specs.Calls.{Leads, Perform, ResetLog}
use Rattle.kdb_histories.specs.Leaving.{MayReach}
use Rattle.kdb_histories.specs.Moves.{IsLeft}
use Rattle.kdb_histories.specs.Seen.{Keep, Plan, Put, Seen, Write, after_ask, changed, did, entry_point}
use Rattle.kdb_histories.specs.Seen.{is_due, made_by, moment_at, outcome_at, plan_at, reset_for, reset_point}
use Rattle.kdb_histories.specs.Stages.{Anew, ShowsAt, Stage, places, stage}
use Rattle.kdb_model.specs.Laws.{IsMoment, at_point}
use Rattle.kdb_places.specs.Places.{Place, committed, restashed}
use Rattle.kdb_plain.specs.Lists.{princ_names}
use Rattle.kdb_plain.specs.declared.states.State.{State}
use Rattle.primary_core.specs.Changes.{change_places}
use Rattle.primary_answers.specs.Listing.{names_told}
use Rattle.primary_core.proofs.Shown.{end_shows, reset_shows}
use Rattle.princ_rows.specs.declared.entries.Op.{Op}
use Rattle.session_base.specs.Draws.{Draws, moment_in}

-- the rows show the state, and the log may hold some entry
pub record HasShown (at : Seen) : Type 0 where
  pub shows : ShowsAt at.place at.state
  pub room : 0 < at.place.size

same_shown : (at : Seen) (q : Place) → HasShown at → q ≡ at.place → ShowsSome q
same_shown at q has same = subst ShowsSome (sym same) (record { state = at.state; shows = has.shows })

-- ---- what a plan makes

-- behind it the rows show this state, and at each place on the way some
record IsShowing (ask : Ask) (plan : Plan) (p : Place) (t : State) : Type 0 where
  shows : ShowsAt (end_of p (places (made_by ask plan p))) t
  room : 0 < (end_of p (places (made_by ask plan p))).size
  parts : (q : Place) → IsPart p (places (made_by ask plan p)) q → ShowsSome q

restash_shows : (bytes : List ℕ) (p : Place) (s : State) → ShowsAt p s → ShowsAt (restashed bytes p) s
restash_shows bytes p s h = record { realm = h.realm; at = h.at; shows = h.shows; valid = h.valid }

restash_part : (bytes : List ℕ) (p : Place) (s : State) (q : Place) → ShowsAt p s
    → IsPart p (restashed bytes p ∷ []) q → ShowsSome q
restash_part bytes p s q shows (inl is) = subst ShowsSome (sym is) (record { state = s; shows = shows })
restash_part bytes p s q shows (inr is) =
    subst ShowsSome (sym is) (record { state = s; shows = restash_shows bytes p s shows })

places_if : (due : Bool) (a b d : Stage)
    → places (if due then a ∷ b ∷ [] else d ∷ []) ≡ (if due then a.place ∷ b.place ∷ [] else d.place ∷ [])
places_if true a b d = refl
places_if false a b d = refl

size_if : (due : Bool) (p a b d : Place) → b.size ≡ p.size → d.size ≡ p.size
    → (end_of p (if due then a ∷ b ∷ [] else d ∷ [])).size ≡ p.size
size_if true p a b d late early = late
size_if false p a b d late early = early

part_if : (due : Bool) (p a b d : Place) (q : Place) → ShowsSome p → ShowsSome a
    → ShowsSome (end_of p (if due then a ∷ b ∷ [] else d ∷ []))
    → IsPart p (if due then a ∷ b ∷ [] else d ∷ []) q → ShowsSome q
part_if true p a b d q here anew end (inl is) = subst ShowsSome (sym is) here
part_if true p a b d q here anew end (inr (inl is)) = subst ShowsSome (sym is) anew
part_if true p a b d q here anew end (inr (inr is)) = subst ShowsSome (sym is) end
part_if false p a b d q here anew end (inl is) = subst ShowsSome (sym is) here
part_if false p a b d q here anew end (inr is) = subst ShowsSome (sym is) end

changed_places : (ask : Ask) (op : Op) (p : Place) → places (changed ask op p) ≡ change_places (clock_of ask) op p
changed_places ask op p =
    let clock = clock_of ask in
    places_if (is_due op p) (stage (reset_for clock op p) Anew)
    (did ask true op p (committed op (reset_point clock p).time (reset_for clock op p)))
    (did ask false op p (committed op (moment_at clock p) p))

put_shows : (valid : StaysValid) (ask : Ask) (op : Op) (p : Place) (s t : State) → IsMoment (clock_of ask)
    → 0 < p.size → ShowsAt p s
    → IsLeft p.realm (entry_point (clock_of ask) op p) op p.rows t → IsShowing ask (Put op) p t
put_shows valid ask op p s t moment room shows left =
    let clock = clock_of ask in
    let made = change_places clock op p in
    let same = changed_places ask op p in
    let anew = reset_for clock op p in
    let late = committed op (reset_point clock p).time anew in
    let early = committed op (moment_at clock p) p in
    let end : ShowsAt (end_of p made) t = end_shows p clock op t room left in
    record {
      shows = subst (λ (ps : List Place). ShowsAt (end_of p ps) t) (sym same) end;
      room = subst (λ (n : ℕ). 0 < n)
          (sym (ap (λ (ps : List Place). (end_of p ps).size) same ∙ size_if (is_due op p) p anew late early refl refl))
          room;
      parts = λ q part.
          part_if (is_due op p) p anew late early q
          (record { state = s; shows = shows })
          (record {
            state = at_point (reset_point clock p) s;
            shows = reset_shows valid p clock p.size (block_for op p) s moment shows;
          })
          (record { state = t; shows = end })
          (subst (λ (ps : List Place). IsPart p ps q) same part);
    }

plan_shows : (valid : StaysValid) (ask : Ask) (plan : Plan) (p : Place) (s t : State) → IsMoment (clock_of ask)
    → 0 < p.size → ShowsAt p s
    → Leads (clock_of ask) p s t plan → IsShowing ask plan p t
plan_shows valid ask Keep p s t moment room shows same = record {
  shows = subst (λ (x : State). ShowsAt p x) (sym same) shows;
  room = room;
  parts = λ q is. subst ShowsSome (sym is) (record { state = s; shows = shows });
}
plan_shows valid ask (Put op) p s t moment room shows left = put_shows valid ask op p s t moment room shows left
plan_shows valid ask (Write bytes) p s t moment room shows same = record {
  shows = subst (λ (x : State). ShowsAt (restashed bytes p) x) (sym same) (restash_shows bytes p s shows);
  room = room;
  parts = λ q part. restash_part bytes p s q shows part;
}

-- ---- one event

pub ask_shows : (valid : StaysValid) (ask : Ask) (at : Seen) → IsMoment (clock_of ask) → HasShown at → IsDone ask at
    → HasShown (after_ask ask at)
ask_shows valid ask at moment has done =
    let h = plan_shows valid ask (plan_at ask at) at.place at.state
    (outcome_at ask at).state moment has.room has.shows done.leads in
    record { shows = h.shows; room = h.room }

ask_reach : (valid : StaysValid) (ask : Ask) (at : Seen) (q : Place) → IsMoment (clock_of ask) → HasShown at
    → MayReach at.place at.state (Perform ask) q → ShowsSome q
ask_reach valid ask at q moment has (inl same) = same_shown at q has same
ask_reach valid ask at q moment has (inr stops) =
    let h = plan_shows valid ask (plan_at ask at) at.place at.state (outcome_at ask at).state moment has.room has.shows
    stops.makes.leads in
    h.parts q (subst (λ (made : List Stage). IsPart at.place (places made) q) stops.makes.is stops.part)

-- ---- one rekeying after another

only_on : (why : Option Refusal) (Next : Type 0) → IfGoesOn why Next ⊥ → Next
only_on None Next h = h
only_on (Some why) Next h = absurd h

rekeyings_reach : (valid : StaysValid) (words : List (List ℕ)) (clock : Moment) (p : Progress) (q : Place)
    → IsMoment clock → HasShown p.at → RekeyingsReach words clock p q → ShowsSome q
unfolding RekeyingsReach
rekeyings_reach valid [] clock p q moment has is = same_shown p.at q has is
rekeyings_reach valid (word ∷ words) clock p q moment has (inl may) =
    ask_reach valid (ask_next clock word p) p.at q moment has may
rekeyings_reach valid (word ∷ words) clock p q moment has (inr behind) =
    let next = one_more clock word p in
    rekeyings_reach valid words clock next q moment (ask_shows valid (ask_next clock word p) p.at moment has behind.0)
    (only_on next.why (RekeyingsReach words clock next q) behind.1)

shown_unless : (why : Option Refusal) (next later : Progress) (Next : Type 0) → HasShown next.at
    → (Next → HasShown later.at) → IfGoesOn why Next ⊤
    → HasShown (unless_refused why next later).at
shown_unless None next later Next here behind h = behind h
shown_unless (Some why) next later Next here behind h = here

rekeyings_show : (valid : StaysValid) (words : List (List ℕ)) (clock : Moment) (p : Progress) → IsMoment clock
    → HasShown p.at → AreRekeyings words clock p
    → HasShown (rekeyed words clock p).at
unfolding AreRekeyings rekeyed
rekeyings_show valid [] clock p moment has are = has
rekeyings_show valid (word ∷ words) clock p moment has are =
    let next = one_more clock word p in
    let here : HasShown next.at = ask_shows valid (ask_next clock word p) p.at moment has are.0 in
    shown_unless next.why next (rekeyed words clock next) (AreRekeyings words clock next) here
    (λ h. rekeyings_show valid words clock next moment here h) are.1

-- ---- a log begun anew on request

renewed_shown : (valid : StaysValid) (now : Moment) (at : Seen) → IsMoment now → HasShown at → HasShown (renewed now at)
renewed_shown valid now at moment has = record {
  shows = reset_shows valid at.place now at.place.size at.place.block at.state moment has.shows;
  room = has.room;
}

shown_if : (b : Bool) (x y : Seen) → HasShown x → HasShown y → HasShown (if b then x else y)
shown_if true x y first second = first
shown_if false x y first second = second

reset_shown : (valid : StaysValid) (now : Moment) (at : Seen) → IsMoment now → HasShown at
    → HasShown (after_reset now at)
reset_shown valid now at moment has =
    shown_if (is_at_time_end at) at (renewed now at) has (renewed_shown valid now at moment has)

renewed_part : (valid : StaysValid) (now : Moment) (at : Seen) (q : Place) → IsMoment now → HasShown at
    → IsPart at.place (renewed_place now at.place ∷ []) q → ShowsSome q
renewed_part valid now at q moment has (inl is) = same_shown at q has is
renewed_part valid now at q moment has (inr is) =
    same_shown (renewed now at) q (renewed_shown valid now at moment has) is

reset_reach : (valid : StaysValid) (now : Moment) (at : Seen) (q : Place) → IsMoment now → HasShown at
    → MayReach at.place at.state (ResetLog now) q → ShowsSome q
reset_reach valid now at q moment has (inl same) = same_shown at q has same
reset_reach valid now at q moment has (inr stops) =
    renewed_part valid now at q moment has
    (subst (λ (made : List Stage). IsPart at.place (places made) q) stops.makes.is stops.part)

-- ---- one line after another

pub line_shows : (valid : StaysValid) (asked : Asked) (draws : Draws) (at : Seen) → HasShown at
    → IsPerformed asked draws at → HasShown (seen_after asked draws at)
unfolding seen_after
line_shows valid Nothing draws at has done = has
line_shows valid (Refused refusal) draws at has done = has
line_shows valid (Does command) draws at has done = ask_shows valid (ask_of command draws at) at done.0 has done.1
line_shows valid (Rekeys glob) draws at has done =
    rekeyings_show valid (names_told glob (princ_names at.state.princs)) (moment_in draws)
    (begun at draws.stream) done.0 has done.1
line_shows valid ResetsLog draws at has done = reset_shown valid (moment_in draws) at done.0 has
line_shows valid WritesDump draws at has done = has

events_reach : (valid : StaysValid) (asked : Asked) (draws : Draws) (at : Seen) (q : Place) → IsMoment (moment_in draws)
    → HasShown at → EventsReach asked draws at q → ShowsSome q
events_reach valid Nothing draws at q moment has h = absurd h
events_reach valid (Refused refusal) draws at q moment has h = absurd h
events_reach valid (Does command) draws at q moment has may =
    ask_reach valid (ask_of command draws at) at q moment has may
events_reach valid (Rekeys glob) draws at q moment has h =
    rekeyings_reach valid (names_told glob (princ_names at.state.princs)) (moment_in draws)
    (begun at draws.stream) q moment has h
events_reach valid ResetsLog draws at q moment has h = reset_reach valid (moment_in draws) at q moment has h.1
events_reach valid WritesDump draws at q moment has h = absurd h

line_reach : (valid : StaysValid) (asked : Asked) (draws : Draws) (at : Seen) (q : Place) → HasShown at
    → LineReaches asked draws at q → ShowsSome q
line_reach valid asked draws at q has (inl same) = same_shown at q has same
line_reach valid asked draws at q has (inr h) = events_reach valid asked draws at q h.0 has h.1

pub reached_shows : (valid : StaysValid) (commands : List Asked) (draws : Draws) (at : Seen) (q : Place) → HasShown at
    → IsReached commands draws at q → ShowsSome q
unfolding IsReached
reached_shows valid [] draws at q has same = same_shown at q has same
reached_shows valid (asked ∷ commands) draws at q has (inl line) = line_reach valid asked draws at q has line
reached_shows valid (asked ∷ commands) draws at q has (inr behind) =
    reached_shows valid commands (draws_after asked draws at) (seen_after asked draws at) q
    (line_shows valid asked draws at has behind.0) behind.1

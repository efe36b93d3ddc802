-- The places that the events of lines reach are among those that the lines make.
use Rattle.std.proofs.Common.{◌≡◌, ◌∙◌, ℕ, suc, List, [], ◌∷◌, ◌++◌, false, refl, ap, sym, subst, inl, inr, arith}
use Rattle.std.specs.Prelude.{Option, Some, None}
use Rattle.std.specs.List.{Contains}
use Rattle.iprop_truths.specs.Parts.{IsPart, end_of}
use Rattle.kadm_session.proofs.Lines.{line_ends}
use Rattle.kadm_session.proofs.Moving.{end_append, rekeyed_more}
use Rattle.kadm_session.proofs.Renewed.{reset_ends, where_false}
use Rattle.kadm_session.specs.Events.{EventsReach, IfGoesOn, IsReached, LineReaches, RekeyingsReach, ask_next}
use Rattle.kadm_session.specs.Rekeying.{Progress, begun, one_more, rekeyed, unless_refused}
use Rattle.kadm_session.specs.Renewing.{is_at_time_end, places_reset, renewed_place}
use Rattle.kadm_session.specs.Steps.{ask_of, draws_after, places_by, places_made, seen_after}
use Rattle.kadm_session.specs.declared.intake.Asked.{Asked}
use Rattle.kadm_session.specs.declared.intake.Asked.TheVariants.{Nothing, Refused, Does, Rekeys, ResetsLog, WritesDump}
use Rattle.kdb_base.specs.Moment.{Moment}
use Rattle.kdb_base.specs.declared.outcomes.Refusal.{Refusal}
use Rattle.kdb_histories.specs.Asks.{Ask}
use Rattle.kdb_histories.specs.Calls.{Perform, ResetLog}
use Rattle.kdb_histories.specs.Leaving.{MayReach}
use Rattle.kdb_histories.specs.Seen.{Seen, made_at, seen}
use Rattle.kdb_histories.specs.Stages.{Stage, places}
use Rattle.kdb_places.specs.Places.{Place}
use Rattle.kdb_plain.specs.Lists.{princ_names}
use Rattle.kdb_plain.specs.declared.states.State.{State}
use Rattle.primary_answers.specs.Listing.{names_told}
use Rattle.session_base.specs.Draws.{Draws, moment_in}

-- ---- places made one after another

first_part : (p : Place) (made : List Place) → IsPart p made p
first_part p [] = refl
first_part p (n ∷ made) = inl refl

last_part : (p : Place) (made : List Place) → IsPart p made (end_of p made)
last_part p [] = refl
last_part p (n ∷ made) = inr (last_part n made)

part_front : (p : Place) (made more : List Place) (q : Place) → IsPart p made q → IsPart p (made ++ more) q
part_front p [] [] q is = is
part_front p [] (n ∷ more) q is = inl is
part_front p (n ∷ made) more q (inl is) = inl is
part_front p (n ∷ made) more q (inr part) = inr (part_front n made more q part)

part_back : (p : Place) (made more : List Place) (q : Place) → IsPart (end_of p made) more q → IsPart p (made ++ more) q
part_back p [] more q part = part
part_back p (n ∷ made) more q part = inr (part_back n made more q part)

same_part : (p : Place) (made : List Place) (q : Place) → q ≡ p → IsPart p made q
same_part p made q same = subst (λ (x : Place). IsPart p made x) (sym same) (first_part p made)

-- ---- one event, and one rekeying after another

made_part : (ask : Ask) (p : Place) (s : State) (q : Place) → MayReach p s (Perform ask) q
    → IsPart p (places (made_at ask (seen p s))) q
made_part ask p s q (inl same) = same_part p (places (made_at ask (seen p s))) q same
made_part ask p s q (inr stops) = subst (λ (made : List Stage). IsPart p (places made) q) stops.makes.is stops.part

unless_front : (why : Option Refusal) (start : Place) (next later : Progress) (q : Place)
    → ((more : List Place) × (later.made ≡ next.made ++ more)) → IsPart start next.made q
    → IsPart start (unless_refused why next later).made q
unless_front None start next later q more part =
    subst (λ (ps : List Place). IsPart start ps q) (sym more.1) (part_front start next.made more.0 q part)
unless_front (Some why) start next later q more part = part

unless_behind : (why : Option Refusal) (start : Place) (next later : Progress) (q : Place) (Next : Type 0)
    → (Next → IsPart start later.made q) → IfGoesOn why Next ⊥
    → IsPart start (unless_refused why next later).made q
unless_behind None start next later q Next behind h = behind h
unless_behind (Some why) start next later q Next behind h = absurd h

rekeyings_part : (words : List (List ℕ)) (clock : Moment) (start : Place) (p : Progress) (q : Place)
    → p.at.place ≡ end_of start p.made → RekeyingsReach words clock p q
    → IsPart start (rekeyed words clock p).made q
unfolding rekeyed RekeyingsReach
rekeyings_part [] clock start p q here is =
    subst (λ (x : Place). IsPart start p.made x) (sym (is ∙ here)) (last_part start p.made)
rekeyings_part (word ∷ words) clock start p q here (inl may) =
    let next = one_more clock word p in
    let ask = ask_next clock word p in
    let added = places (made_at ask p.at) in
    unless_front next.why start next (rekeyed words clock next) q (rekeyed_more words clock next)
    (part_back start p.made added q
    (subst (λ (x : Place). IsPart x added q) here (made_part ask p.at.place p.at.state q may)))
rekeyings_part (word ∷ words) clock start p q here (inr behind) =
    let next = one_more clock word p in
    let added = places (made_at (ask_next clock word p) p.at) in
    let there : next.at.place ≡ end_of start next.made =
    ap (λ (x : Place). end_of x added) here ∙ sym (end_append start p.made added) in
    unless_behind next.why start next (rekeyed words clock next) q (RekeyingsReach words clock next q)
    (λ h. rekeyings_part words clock start next q there h) behind.1

-- ---- one line

reset_part : (now : Moment) (at : Seen) (q : Place) → is_at_time_end at ≡ false
    → MayReach at.place at.state (ResetLog now) q → IsPart at.place (places_reset now at) q
reset_part now at q left (inl same) = same_part at.place (places_reset now at) q same
reset_part now at q left (inr stops) =
    subst (λ (ps : List Place). IsPart at.place ps q)
    (sym (where_false (is_at_time_end at) [] (renewed_place now at.place ∷ []) left))
    (subst (λ (made : List Stage). IsPart at.place (places made) q) stops.makes.is stops.part)

events_part : (asked : Asked) (draws : Draws) (at : Seen) (q : Place) → EventsReach asked draws at q
    → IsPart at.place (places_by asked draws at) q
unfolding places_by
events_part Nothing draws at q h = absurd h
events_part (Refused refusal) draws at q h = absurd h
events_part (Does command) draws at q may = made_part (ask_of command draws at) at.place at.state q may
events_part (Rekeys glob) draws at q h = rekeyings_part (names_told glob (princ_names at.state.princs))
    (moment_in draws) at.place (begun at draws.stream) q refl h
events_part ResetsLog draws at q h = reset_part (moment_in draws) at q h.0 h.1
events_part WritesDump draws at q h = absurd h

line_part : (asked : Asked) (draws : Draws) (at : Seen) (q : Place) → LineReaches asked draws at q
    → IsPart at.place (places_by asked draws at) q
line_part asked draws at q (inl same) = same_part at.place (places_by asked draws at) q same
line_part asked draws at q (inr h) = events_part asked draws at q h.1

-- a line ends at the last of its places
after_is_last : (asked : Asked) (draws : Draws) (at : Seen)
    → (seen_after asked draws at).place ≡ end_of at.place (places_by asked draws at)
unfolding seen_after places_by
after_is_last Nothing draws at = refl
after_is_last (Refused refusal) draws at = refl
after_is_last (Does command) draws at = refl
after_is_last (Rekeys glob) draws at = line_ends glob draws at
after_is_last ResetsLog draws at = reset_ends (draws.moments 0) at
after_is_last WritesDump draws at = refl

-- ---- one line after another

among_more : (p : Place) (places : List Place) (q : Place) → Contains places q → Contains (p ∷ places) q
among_more p places q h = (suc h.0, omega (arith, h.1), h.2)

among_first : (p : Place) (places : List Place) (q : Place) → q ≡ p → Contains (p ∷ places) q
among_first p places q same = (0, omega arith, sym same)

part_among : (p : Place) (made others : List Place) (q : Place) → IsPart p made q → Contains (p ∷ made ++ others) q
part_among p [] others q is = among_first p others q is
part_among p (n ∷ made) others q (inl is) = among_first p (n ∷ made ++ others) q is
part_among p (n ∷ made) others q (inr part) = among_more p (n ∷ made ++ others) q (part_among n made others q part)

-- the last of the places that are made, or one behind them
among_behind : (p : Place) (made others : List Place) (q : Place) → Contains (end_of p made ∷ others) q
    → Contains (p ∷ made ++ others) q
among_behind p [] others q h = h
among_behind p (n ∷ made) others q h = among_more p (n ∷ made ++ others) q (among_behind n made others q h)

pub reached_made : (commands : List Asked) (draws : Draws) (at : Seen) (q : Place) → IsReached commands draws at q
    → Contains (at.place ∷ places_made commands draws at) q
unfolding IsReached places_made
reached_made [] draws at q same = among_first at.place [] q same
reached_made (asked ∷ commands) draws at q (inl line) =
    part_among at.place (places_by asked draws at)
    (places_made commands (draws_after asked draws at) (seen_after asked draws at)) q (line_part asked draws at q line)
reached_made (asked ∷ commands) draws at q (inr behind) =
    let others = places_made commands (draws_after asked draws at) (seen_after asked draws at) in
    among_behind at.place (places_by asked draws at) others q
    (subst (λ (p : Place). Contains (p ∷ others) q) (after_is_last asked draws at)
    (reached_made commands (draws_after asked draws at) (seen_after asked draws at) q behind.1))

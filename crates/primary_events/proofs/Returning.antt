-- A call that returned leads to an open primary.
use Rattle.std.proofs.Common.{◌≡◌, ℕ, true, false, List, [], ◌∷◌, ◌++◌, Option, None, refl, sym, ◌∙◌, ap, subst}
use Rattle.acl_text.specs.declared.rules.AclLine.{AclLine}
use Rattle.command_plans.specs.KeptEntries.{kept_entry_of}
use Rattle.iprop_truths.specs.Parts.{end_of}
use Rattle.kadm_commands.specs.declared.commands.Command.TheVariants.{Stash as StashLine}
use Rattle.kdb_base.specs.Moment.{Moment}
use Rattle.kdb_base.specs.declared.moments.Point.{Point}
use Rattle.kdb_histories.proofs.Paths.{ask_state}
use Rattle.kdb_histories.proofs.SiteRuns.{onto_rest}
use Rattle.kdb_histories.specs.Asks.{Answer, Ask, Enters, Keeps, Kind, Stashes, clock_of, kept_op}
use Rattle.kdb_histories.specs.Calls.{Call, CallMakes, Leads, Load, Loads, Open, Perform, Performs, ResetLog, Stash}
use Rattle.kdb_histories.specs.Leaving.{Does}
use Rattle.kdb_histories.specs.Seen.{after_ask, moment_at, outcome_at, planned, reset_point, seen, stash_of}
use Rattle.kdb_histories.specs.Sites.{Calls, Site, Stands, after_call, clock_at, dumps_after}
use Rattle.kdb_histories.specs.Sites.{room_after, state_of, story_of, wants_open}
use Rattle.kdb_histories.specs.Stages.{Filled, ShowsAt, Stage, fold, onto, places, stage}
use Rattle.kdb_model.specs.Laws.{IsMoment, at_point}
use Rattle.kdb_places.proofs.Points.{first_point}
use Rattle.kdb_places.specs.Places.{Place, base_marker, no_point}
use Rattle.kdb_plain.specs.declared.states.State.{State}
use Rattle.mkey_admin.specs.KeptMasters.{kept_masters_of}
use Rattle.primary_core.specs.Opened.{HasState, Opened, command_ask, place_of}
use Rattle.primary_events.specs.At.{IsAt, LeadsTo, Returns}
use Rattle.princ_name.specs.Names.{NameParts}
use Rattle.princ_rows.specs.Rows.{RowLists}

-- ---- the last of a history

pub record Tip (stages : List Stage) (q : Place) : Type 0 where
  pub last : Stage
  pub others : List Stage
  pub is : stages ≡ last ∷ others
  pub place : last.place ≡ q

tip_of : (made : List Stage) (t : Stage) (older : List Stage)
    → Tip (onto made (t ∷ older)) (end_of t.place (places made))
tip_of [] t older = record { last = t; others = older; is = refl; place = refl }
tip_of (u ∷ made) t older = tip_of made u (t ∷ older)

pub tip_at : (s : Site) (at : Stands s) (made : List Stage)
    → Tip (onto made s.history) (end_of at.last.place (places made))
tip_at s at made =
    let tip = tip_of made at.last at.others in
    record { last = tip.last; others = tip.others; is = ap (onto made) at.is ∙ tip.is; place = tip.place }

-- ---- any call

dumps_stay : (call : Call) (n : ℕ) → wants_open call ≡ true → dumps_after call n ≡ n
dumps_stay (Perform ask) n h = refl
dumps_stay (Stash clock) n h = refl
dumps_stay (ResetLog clock) n h = refl
dumps_stay (Load rows clock) n h = refl
dumps_stay (Open size room clock) n h = let both : false ≡ true = h in absurd cc

room_stays : (call : Call) (n : ℕ) → wants_open call ≡ true → room_after call n ≡ n
room_stays (Perform ask) n h = refl
room_stays (Stash clock) n h = refl
room_stays (ResetLog clock) n h = refl
room_stays (Load rows clock) n h = refl
room_stays (Open size room clock) n h = let both : false ≡ true = h in absurd cc

pub call_returns : (o new : Opened) (s : Site) (call : Call) (answer : Answer) (made : List Stage) → IsAt o s
    → wants_open call ≡ true
    → IsMoment (clock_at call) → CallMakes (place_of o) (state_of s) call answer made
    → place_of new ≡ end_of (place_of o) (places made)
    → HasState new (fold (onto made (story_of s))) → (new.dumps ≡ o.dumps) × (new.room ≡ o.room)
    → new.kept.broken ≡ false
    → LeadsTo s (Calls call answer made) None new
call_returns o new s call answer made h open_ clock makes place has same whole =
    let tip = tip_at s h.at made in
    let here : CallMakes h.at.last.place (state_of s) call answer made =
    subst (λ (p : Place). CallMakes p (state_of s) call answer made) (sym h.place) makes in
    record {
      new = after_call call made true s;
      happens = record { at = h.at; ready = h.up ∙ sym open_; clock = clock; makes = here; is = refl; silent = refl };
      at = record {
        at = record { last = tip.last; others = tip.others; is = tip.is };
        place = tip.place ∙ ap (λ (p : Place). end_of p (places made)) h.place ∙ sym place;
        has = subst (HasState new) (ap fold (onto_rest made s.history s.ended)) has;
        up = refl;
        whole = whole;
        dumps = dumps_stay call s.dumps open_ ∙ h.dumps ∙ sym same.0;
        room = room_stays call s.room open_ ∙ h.room ∙ sym same.1;
      };
    }

-- ---- a command, a rekeying or a settling

-- what the history comes to behind an ask is the ask's outcome
story_state : (history others ended : List Stage) (t : Stage) (p : Place) (ask : Ask) (answer : Answer)
    (made : List Stage) → history ≡ t ∷ others
    → t.place ≡ p → ShowsAt p (fold (history ++ ended)) → Performs p (fold (history ++ ended)) ask answer made
    → fold (onto made (history ++ ended)) ≡ (outcome_at ask (seen p (fold (history ++ ended)))).state
story_state history others ended t p ask answer made is here =
    subst (λ (x : List Stage). ShowsAt p (fold (x ++ ended)) → Performs p (fold (x ++ ended)) ask answer made
    → fold (onto made (x ++ ended)) ≡ (outcome_at ask (seen p (fold (x ++ ended)))).state) (sym is)
    (subst (λ (q : Place). ShowsAt q (fold (t ∷ others ++ ended))
    → Performs q (fold (t ∷ others ++ ended)) ask answer made
    → fold (onto made (t ∷ others ++ ended)) ≡ (outcome_at ask (seen q (fold (t ∷ others ++ ended)))).state) here
    (ask_state t (others ++ ended) ask answer made))

pub ask_returns : (o new : Opened) (s : Site) (ask : Ask) (answer : Answer) → IsAt o s → IsMoment (clock_of ask)
    → Does (place_of o) (state_of s) (Perform ask) answer (place_of new)
    → HasState new (after_ask ask (seen (place_of o) (state_of s))).state
    → (new.dumps ≡ o.dumps) × (new.room ≡ o.room) → new.kept.broken ≡ false → Returns s (Perform ask) answer new
ask_returns o new s ask answer h clock does has same whole =
    let state = story_state s.history h.at.others s.ended h.at.last
    (place_of o) ask answer does.made h.at.is h.place h.has.shows does.makes in
    record {
      made = does.made;
      leads = call_returns o new s (Perform ask) answer does.made h refl clock does.makes does.is
          (subst (HasState new) (sym state) has) same whole;
    }

-- ---- the command that writes the stash

-- whatever it writes, the state stays
stays_by : (kind : Kind) (clock : Moment) (p : Place) (before after : State) (bytes : List ℕ)
    → Leads clock p before after (planned kind None bytes)
    → after ≡ before
stays_by Keeps clock p before after bytes e = e
stays_by Enters clock p before after bytes e = e
stays_by Stashes clock p before after bytes e = e

line_stays : (p : Place) (s : State) (client : NameParts) (access : Option (List AclLine)) (clock : Moment)
    (random : List ℕ) (answer : Answer)
    (made : List Stage) → Performs p s (command_ask client access StashLine clock random) answer made
    → (outcome_at (command_ask client access StashLine clock random) (seen p s)).state ≡ s
unfolding kept_op kept_entry_of kept_masters_of
line_stays p s client access clock random answer made h =
    let ask = command_ask client access StashLine clock random in
    stays_by (outcome_at ask (seen p s)).kind clock p s (outcome_at ask (seen p s)).state
    (stash_of s (moment_at clock p)) h.leads

pub line_returns : (o new : Opened) (s : Site) (client : NameParts) (access : Option (List AclLine)) (clock : Moment)
    (random : List ℕ)
    (answer : Answer) → IsAt o s → IsMoment clock
    → Does (place_of o) (state_of s) (Perform (command_ask client access StashLine clock random)) answer (place_of new)
    → HasState new (state_of s) → (new.dumps ≡ o.dumps) × (new.room ≡ o.room) → new.kept.broken ≡ false
    → Returns s (Perform (command_ask client access StashLine clock random)) answer new
line_returns o new s client access clock random answer h moment does has same whole =
    let state = line_stays (place_of o) (state_of s) client access clock random answer does.made does.makes in
    ask_returns o new s (command_ask client access StashLine clock random) answer h moment does
    (subst (HasState new) (sym state) has) same whole

-- ---- the other calls

pub stash_returns : (o new : Opened) (s : Site) (clock : Moment) (answer : Answer) → IsAt o s → IsMoment clock
    → Does (place_of o) (state_of s) (Stash clock) answer (place_of new) → HasState new (state_of s)
    → (new.dumps ≡ o.dumps) × (new.room ≡ o.room) → new.kept.broken ≡ false → Returns s (Stash clock) answer new
stash_returns o new s clock answer h moment does has same whole =
    let state : fold (onto does.made (story_of s)) ≡ state_of s =
    ap (λ (made : List Stage). fold (onto made (story_of s))) does.makes.is in
    record {
      made = does.made;
      leads = call_returns o new s (Stash clock) answer does.made h refl moment does.makes does.is
          (subst (HasState new) (sym state) has) same whole;
    }

pub reset_returns : (o new : Opened) (s : Site) (clock : Moment) (answer : Answer) → IsAt o s → IsMoment clock
    → Does (place_of o) (state_of s) (ResetLog clock) answer (place_of new)
    → HasState new (at_point (reset_point clock (place_of o)) (state_of s))
    → (new.dumps ≡ o.dumps) × (new.room ≡ o.room) → new.kept.broken ≡ false → Returns s (ResetLog clock) answer new
reset_returns o new s clock answer h moment does has same whole =
    let base : Point = reset_point clock (place_of o) in
    let state : fold (onto does.made (story_of s)) ≡ at_point base (state_of s) =
    ap (λ (made : List Stage). fold (onto made (story_of s))) does.makes.is
    ∙ ap (λ (x : Point). at_point x (state_of s)) (first_point no_point (base_marker base)) in
    record {
      made = does.made;
      leads =
          call_returns o new s (ResetLog clock) answer does.made h refl moment does.makes does.is
          (subst (HasState new) (sym state) has) same whole;
    }

pub load_returns : (o new : Opened) (s : Site) (rows : RowLists) (clock : Moment) (answer : Answer) (state : State)
    → IsAt o s → IsMoment clock
    → Loads (place_of o) rows clock (stage (place_of new) (Filled state) ∷ []) → HasState new state
    → (new.dumps ≡ o.dumps) × (new.room ≡ o.room) → new.kept.broken ≡ false
    → LeadsTo s (Calls (Load rows clock) answer (stage (place_of new) (Filled state) ∷ [])) None new
load_returns o new s rows clock answer state h moment loads has same whole =
    call_returns o new s (Load rows clock) answer (stage (place_of new) (Filled state) ∷ []) h refl moment loads refl
    has same whole

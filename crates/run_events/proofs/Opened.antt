-- A database that a run opens: what a crash leaves of that, and the open primary behind it.
use Rattle.std.proofs.Common.{◌≡◌, ◌≢◌, ℕ, Bool, true, false, List, [], ◌∷◌, ◌++◌}
use Rattle.std.proofs.Common.{Option, None, refl, sym, ◌∙◌, ap, arith, subst}
use Rattle.std.specs.Prelude.{nat_eq, ◌&&◌, if◌then◌else◌}
use Rattle.std.specs.List.{All}
use Rattle.std.proofs.lemmas.List.Elements.{All-head}
use Rattle.iprop_truths.specs.Parts.{end_of}
use Rattle.kadm_session.specs.Runs.{IsOpenAt, RunsOn, RunsTo}
use Rattle.kadm_top.specs.Openings.{IsOpen}
use Rattle.kdb_base.specs.Moment.{Moment}
use Rattle.kdb_disk.specs.Files.{Files}
use Rattle.kdb_histories.proofs.Growing.{StaysValid}
use Rattle.kdb_histories.proofs.SiteRuns.{event_holds, onto_rest, primary_holds}
use Rattle.kdb_histories.specs.Asks.{Answer, Moved}
use Rattle.kdb_histories.specs.Calls.{Call, CallMakes, HasTimeLeft, IsSize, Open, resized, size_or}
use Rattle.kdb_histories.specs.Histories.{HasRoom}
use Rattle.kdb_histories.specs.Seen.{Seen, reset_point, seen}
use Rattle.kdb_histories.specs.Sites.{Calls, HappensAt, Site, SiteHolds, after_call, state_of, story_of}
use Rattle.kdb_histories.specs.Stages.{Anew, ShowsAt, Stage, fold, onto, places, stage}
use Rattle.kdb_model.specs.Laws.{IsMoment}
use Rattle.kdb_places.specs.Places.{Place, log_anew}
use Rattle.kdb_plain.specs.declared.states.State.{State}
use Rattle.primary_core.specs.Opening.{OpensAt, place_found}
use Rattle.primary_events.proofs.Opened.{folded_last, found_at, opening_stops}
use Rattle.primary_events.proofs.Returning.{Tip, tip_at}
use Rattle.primary_events.specs.At.{StandsAt, StandsFor}
use Rattle.primary_events.specs.Coming.{IsStop}
use Rattle.primary_events.specs.Premises.{MayOpenAt}
use Rattle.princ_rows.specs.Rows.{RowLists}
use Rattle.rekey_work.specs.declared.works.Settled.TheVariants as settled
use Rattle.row_keys.specs.Shows.{Shows}
use Rattle.run_events.proofs.Coming.{come}
use Rattle.run_events.specs.Beginning.{HasMasters, HasOpened}
use Rattle.run_events.specs.Coming.{HasCome, HasHistory}
use Rattle.session_base.specs.Draws.{Draws, moment_in}
use Rattle.store_files.specs.Found.{Found, found_in, place_in}
use Rattle.store_files.specs.Recovery.{LeavesPart}

-- ---- the state that rows show

-- rows show one state of a realm, a point and master keys
pub record ShowOne : Type 0 where
  pub one : (rows : RowLists) (s t : State) → Shows rows s → Shows rows t → s.realm ≡ t.realm → s.point ≡ t.point
      → s.masters ≡ t.masters → s ≡ t

same_state : ShowOne → (p : Place) (s t : State) → ShowsAt p s → ShowsAt p t → s.masters ≡ t.masters → s ≡ t
same_state law p s t a b masters = law.one p.rows s t a.shows b.shows (a.realm ∙ sym b.realm) (a.at ∙ sym b.at) masters

anew_masters : (same : Bool) (q : Place) (history : List Stage)
    → (fold (onto (if same then [] else stage q Anew ∷ []) history)).masters ≡ (fold history).masters
anew_masters true q history = refl
anew_masters false q history = refl

sized_last : (history others ended : List Stage) (t : Stage) → history ≡ t ∷ others
    → All HasRoom (places (history ++ ended)) → HasRoom t.place
sized_last history others ended t is h =
    All-head HasRoom t.place (places (others ++ ended))
    (subst (λ (x : List Stage). All HasRoom (places (x ++ ended))) is h)

-- ---- an opening, as an event

module _ (s : Site) (files : Files) (f : Found) (size : Option ℕ) (now : Moment) (may : MayOpenAt s files f size 1 now)
    (left : resized size now (place_found f) ≢ [] → HasTimeLeft (place_found f)) where
  abbrev first : Place
  first = place_found f

  abbrev stages : List Stage
  stages = resized size now first

  abbrev call : Call
  call = Open size 1 now

  abbrev new : Site
  new = after_call call stages true s

  abbrev behind : Place
  behind = end_of first (places stages)

  answer : Answer
  answer = Moved settled.Gone

  there : StandsAt s first
  there = found_at s files first may.stands (ap place_in may.found)

  makes : CallMakes there.at.last.place (state_of s) call answer stages
  makes =
      subst (λ (p : Place). CallMakes p (state_of s) call answer stages) (sym there.is)
      (record { from = may.from; upto = may.upto; some = may.some; left = left; is = refl })

  happens : HappensAt (Calls call answer stages) s new None
  happens = record { at = there.at; ready = may.closed; clock = may.moment; makes = makes; is = refl; silent = refl }

  holds : StaysValid → (h : HasHistory s) → SiteHolds new h.sent
  holds valid h = event_holds valid (Calls call answer stages) s new h.sent None
      (primary_holds valid h.events s h.sent h.run) happens

  tip : Tip (onto stages s.history) (end_of there.at.last.place (places stages))
  tip = tip_at s there.at stages

  place_there : tip.last.place ≡ behind
  place_there = tip.place ∙ ap (λ (p : Place). end_of p (places stages)) there.is

  pub shown_behind : StaysValid → HasHistory s → ShowsAt behind (state_of new)
  shown_behind valid h =
      subst (λ (p : Place). ShowsAt p (state_of new)) place_there
      (folded_last (onto stages s.history) tip.others s.ended tip.last tip.is (holds valid h).story.folded)

  pub masters_kept : (state_of new).masters ≡ (state_of s).masters
  masters_kept =
      ap (λ (x : List Stage). (fold x).masters) (sym (onto_rest stages s.history s.ended))
      ∙ anew_masters (nat_eq first.format 2 && nat_eq (size_or size first) first.size)
      (log_anew (reset_point now first) (size_or size first) first.block first) (story_of s)

  pub room_behind : StaysValid → HasHistory s → HasRoom behind
  room_behind valid h =
      subst HasRoom place_there
      (sized_last (onto stages s.history) tip.others s.ended tip.last tip.is (holds valid h).story.good.sized)

  pub opening_runs : RunsOn s new
  opening_runs = record { events = Calls call answer stages ∷ []; run = λ sent. (new, None, happens, (refl, refl)) }

  -- it is open there, with whatever state is the one that the history comes to
  pub opened_at : (at : Seen) → at.place ≡ behind → state_of new ≡ at.state → IsOpenAt new at
  opened_at at place state = record {
    stands = record { last = tip.last; others = tip.others; is = tip.is };
    place = place_there ∙ sym place;
    state = state;
    up = refl;
  }

-- ---- the opening of a run

-- Events lead to an open primary that stands there, and its log may hold some entry.
pub record IsReady (s : Site) (at : Seen) : Type 0 where
  pub opened : RunsTo s at
  pub room : HasRoom at.place

module _ (s : Site) (files : Files) (size : Option ℕ) (draws : Option Draws) (begin : Place)
    (made : List Place) (at : Seen)
    (opens : IsOpen size (found_in files) draws begin made at) (some : IsSize size) (closed : s.up ≡ false)
    (stands : StandsFor s files)
    (moment : IsMoment (moment_in opens.told)) where
  abbrev now_told : Moment
  now_told = moment_in opens.told

  abbrev new_told : Site
  new_told = after_call (Open size 1 now_told) (resized size now_told (place_found opens.files)) true s

  may_open : MayOpenAt s files opens.files size 1 now_told
  may_open = record {
    closed = closed;
    stands = stands;
    found = opens.found_is;
    moment = moment;
    some = some;
    from = omega arith;
    upto = omega arith;
  }

  part_found : (c : Files) → LeavesPart begin made c
      → LeavesPart (place_found opens.files) (places (resized size now_told (place_found opens.files))) c
  part_found c part =
      subst (λ (p : Place). LeavesPart p (places (resized size now_told (place_found opens.files))) c) opens.begin_is
      (subst (λ (ps : List Place). LeavesPart begin ps c) opens.made_are part)

  pub opening_comes : (c : Files) → LeavesPart begin made c → HasCome s c
  opening_comes c part =
      come IsStop s c (opening_stops s files opens.files size 1 now_told may_open c (record {
        left = opens.left;
        part = part_found c part;
      }))

  place_behind : at.place ≡ end_of (place_found opens.files) (places (resized size now_told (place_found opens.files)))
  place_behind =
      opens.place_is ∙ ap (end_of begin) opens.made_are
      ∙ ap (λ (p : Place). end_of p (places (resized size now_told (place_found opens.files)))) opens.begin_is

  pub is_ready : StaysValid → ShowOne → HasHistory s → HasMasters s at → IsReady s at
  is_ready valid law history masters =
      let shown : ShowsAt (end_of (place_found opens.files) (places (resized size now_told (place_found opens.files))))
      (state_of new_told) = shown_behind s files opens.files size now_told may_open opens.left valid history in
      let one : state_of new_told ≡ at.state =
      same_state law at.place (state_of new_told) at.state
      (subst (λ (p : Place). ShowsAt p (state_of new_told)) (sym place_behind) shown) opens.shows
      (masters_kept s files opens.files size now_told may_open opens.left ∙ sym masters) in
      record {
        opened = record {
          new = new_told;
          runs = opening_runs s files opens.files size now_told may_open opens.left;
          stays = opened_at s files opens.files size now_told may_open opens.left at place_behind one;
        };
        room = subst HasRoom (sym place_behind)
            (room_behind s files opens.files size now_told may_open opens.left valid history);
      }

-- where the place opens with the master keys that the history comes to, a run has such an opening
pub opening_there : StaysValid → (s : Site) (files : Files) (f : Found) (size : Option ℕ) (draws : Draws) → HasHistory s
    → MayOpenAt s files f size 1 (moment_in draws) → OpensAt (place_found f) (state_of s).masters
    → (resized size (moment_in draws) (place_found f) ≢ [] → HasTimeLeft (place_found f)) → HasOpened s size files draws
opening_there valid s files f size draws history may opens left =
    let now = moment_in draws in
    let p = place_found f in
    let stages = resized size now p in
    let state = state_of (after_call (Open size 1 now) stages true s) in
    let kept : state.masters ≡ (state_of s).masters = masters_kept s files f size now may left in
    record {
      begin = p;
      made = places stages;
      at = seen (end_of p (places stages)) state;
      opens = record {
        told = draws;
        draws_are = refl;
        files = f;
        found_is = may.found;
        masters = (state_of s).masters;
        opens = opens;
        begin_is = refl;
        made_are = refl;
        left = left;
        place_is = refl;
        shows = shown_behind s files f size now may left valid history;
        masters_are = kept;
      };
      masters = kept;
    }

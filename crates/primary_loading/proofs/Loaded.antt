-- What a load makes, as a history has it, and what it may leave.
use Rattle.std.proofs.Common.{◌≡◌, List, [], ◌∷◌, Result, Ok, Err, refl, sym, ap, ◌∙◌, inl, inr}
use Rattle.std.specs.Prelude.{OnOk}
use Rattle.kdb_base.specs.Moment.{Moment}
use Rattle.kdb_base.specs.declared.moments.Point.{Point}
use Rattle.kdb_base.specs.declared.versions.Master.{Master}
use Rattle.kdb_disk.specs.Files.{Files}
use Rattle.kdb_histories.specs.Asks.{Answer, Replied}
use Rattle.kadm_commands.specs.declared.replies.Reply.TheVariants.{Stashed}
use Rattle.kdb_histories.specs.Calls.{HasTimeLeft, Load, Loads}
use Rattle.kdb_histories.specs.Leaving.{Does}
use Rattle.kdb_histories.specs.Seen.{reset_point}
use Rattle.kdb_histories.specs.Stages.{Filled, stage}
use Rattle.kdb_places.specs.Places.{Place, replaced}
use Rattle.kdb_plain.specs.declared.states.State.{State}
use Rattle.primary_core.specs.Opened.{MayLeave, Opened, place_of}
use Rattle.primary_loading.specs.Loading.{HasLoaded, IsFilled}
use Rattle.princ_rows.specs.Rows.{RowLists}
use Rattle.row_keys.specs.Sound.{HasState, ShowsValid, judged}
use Rattle.store_files.specs.Found.{recovers}
use Rattle.store_files.specs.Recovery.{LeavesPart}

module _ (p : Place) (rows : RowLists) (masters : List Master) (base : Point) (clock : Moment)
    (at : base ≡ reset_point clock p) (left : HasTimeLeft p) where
  loads_as : (t : State) (q : Place) → ShowsValid (judged masters p.realm base.time.secs) rows base t
      → q ≡ replaced p.realm rows base p
      → Loads p rows clock (stage q (Filled t) ∷ [])
  loads_as t q is at_place = record {
    left = left;
    state = t;
    realm = is.realm_is;
    at = is.point_is ∙ at;
    shows = is.shows;
    valid = is.valid (reset_point clock p).time (ap (λ (x : Point). x.time.secs) (sym at));
    is = ap (λ (x : Place). stage x (Filled t) ∷ []) (at_place ∙ ap (λ (x : Point). replaced p.realm rows x p) at);
  }

  -- a crash leaves the place before, or the one with the rows
  pub load_leaves : (s : State) (c : Files) → HasState (judged masters p.realm base.time.secs) rows base
      → LeavesPart p (replaced p.realm rows base p ∷ []) c → MayLeave p s (Load rows clock) c
  unfolding LeavesPart
  load_leaves s c has (inl is) = record { place = p; is = is; may = inl refl }
  load_leaves s c has (inr is) = record {
    place = replaced p.realm rows base p;
    is = is;
    may = inr (record {
      answer = Replied Stashed;
      made = stage (replaced p.realm rows base p) (Filled has.state) ∷ [];
      makes = loads_as has.state (replaced p.realm rows base p) has.is refl;
      part = inr refl;
    });
  }

-- what stands as before
pub load_stays : (p : Place) (s : State) (rows : RowLists) (clock : Moment) (c : Files) → recovers c ≡ Ok p
    → MayLeave p s (Load rows clock) c
load_stays p s rows clock c is = record { place = p; is = is; may = inl refl }

pub filled_loads : (old new : Opened) (rows : RowLists) (masters : List Master) (base : Point) (clock : Moment)
    → base ≡ reset_point clock (place_of old)
    → HasTimeLeft (place_of old) → IsFilled old new rows masters base → HasLoaded old new rows clock
filled_loads old new rows masters base clock at left f = record {
  state = f.state;
  has = f.has;
  loads = loads_as (place_of old) rows masters base clock at left f.state (place_of new) f.is f.place;
}

pub load_does : (old new : Opened) (rows : RowLists) (clock : Moment) (s : State) (answer : Answer)
    → HasLoaded old new rows clock
    → Does (place_of old) s (Load rows clock) answer (place_of new)
load_does old new rows clock s answer h =
    record { made = stage (place_of new) (Filled h.state) ∷ []; makes = h.loads; is = refl }

-- ---- by what is answered

pub if_loads : (A E : Type 0) (r : Result A E) (old new : Opened) (rows : RowLists) (masters : List Master)
    (base : Point) (clock : Moment)
    → base ≡ reset_point clock (place_of old) → HasTimeLeft (place_of old) → OnOk r (IsFilled old new rows masters base)
    → OnOk r (HasLoaded old new rows clock)
if_loads A E (Ok a) old new rows masters base clock at left f = filled_loads old new rows masters base clock at left f
if_loads A E (Err e) old new rows masters base clock at left f = tt

pub if_does : (A E : Type 0) (r : Result A E) (old new : Opened) (rows : RowLists) (clock : Moment) (s : State)
    (answer : Answer) → OnOk r (HasLoaded old new rows clock)
    → OnOk r (Does (place_of old) s (Load rows clock) answer (place_of new))
if_does A E (Ok a) old new rows clock s answer h = load_does old new rows clock s answer h
if_does A E (Err e) old new rows clock s answer h = tt

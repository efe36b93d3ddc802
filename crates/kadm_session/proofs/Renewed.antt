-- The log begun anew on request, as the ask of a session.
use Rattle.std.proofs.Common.{◌≡◌, ◌∙◌, ℕ, List, [], ◌∷◌, Bool, true, false}
use Rattle.std.proofs.Common.{if◌then◌else◌, refl, ap, sym, subst, inl, inr}
use Rattle.std.proofs.lemmas.Bool.{true≢false}
use Rattle.std.specs.Prelude.{Option, Some, None, Result, Ok, Err, IfOk, IfSome, OnOk, option_map}
use Rattle.iprop_truths.specs.Parts.{IsPart, end_of}
use Rattle.kadm_commands.specs.declared.replies.Reply.{Reply}
use Rattle.kadm_commands.specs.declared.replies.Reply.TheVariants as reply
use Rattle.kdb_base.specs.Moment.{Moment}
use Rattle.kdb_base.specs.declared.outcomes.Refusal.{Refusal}
use Rattle.kdb_base.specs.declared.outcomes.Refusal.TheVariants.{Closed, TimeEnd}
use Rattle.kdb_disk.specs.Files.{Files}
use Rattle.kdb_disk.specs.Frames.{IsCrashSafe}
use Rattle.kdb_disk.specs.declared.disk.Disk.{Ghosts}
use Rattle.kdb_disk.proofs.Runs.{weaken}
use Rattle.kdb_histories.specs.Asks.{Answer}
use Rattle.kdb_histories.specs.Calls.{HasTimeLeft, ResetLog}
use Rattle.kdb_histories.specs.Leaving.{Does, MayReach}
use Rattle.kdb_histories.specs.Seen.{Seen, reset_point, seen}
use Rattle.kdb_histories.specs.Stages.{Stage, places}
use Rattle.kdb_model.specs.Calls.{is_last}
use Rattle.kdb_model.specs.Laws.{IsMoment, at_point}
use Rattle.kdb_model.specs.Refusals.{when}
use Rattle.kdb_places.specs.Places.{Place, point_of}
use Rattle.kdb_plain.specs.declared.states.State.{State}
use Rattle.kdb_ports.specs.Told.{later_moments}
use Rattle.primary_core.specs.Opened.{HasState, MayLeave, Opened, place_of}
use Rattle.primary_core.specs.Refusing.{reset_refused}
use Rattle.store_files.specs.Found.{recovers}
use Rattle.store_files.specs.Recovery.{LeavesPart}
use Rattle.kadm_session.specs.Deciding.{AreMade, Answers, Decides, IsLineSafe, StandsAt}
use Rattle.session_base.specs.Draws.{told_draws}
use Rattle.kadm_session.specs.Events.{IsPerformed, LineReaches, RecoversWhere}
use Rattle.kadm_session.specs.Renewing.{after_reset, is_at_time_end, places_reset, renewed, renewed_place, reset_reply}
use Rattle.kadm_session.specs.Steps.{draws_after, places_by, reply_to, seen_after}
use Rattle.kadm_session.specs.declared.intake.Asked.TheVariants.{ResetsLog}
use Rattle.session_base.specs.declared.replies.Printed.{Printed}
use Rattle.kadm_session.proofs.Leaving.{leaves_first, part_leaves}

-- ---- whether a later time is left

where_true : {A : Type 0} (b : Bool) (x y : A) → b ≡ true → (if b then x else y) ≡ x
where_true true x y e = refl
where_true false x y e = absurd cc

pub where_false : {A : Type 0} (b : Bool) (x y : A) → b ≡ false → (if b then x else y) ≡ y
where_false true x y e = absurd cc
where_false false x y e = refl

never_by : (broken late : Bool) (why : Refusal) → broken ≡ false → late ≡ false
    → (if broken then Some Closed else when late TimeEnd) ≡ Some why → ⊥
never_by true late why e f is = absurd cc
never_by false true why e f is = absurd cc
never_by false false why e f is = absurd cc

-- an open primary with a later time left does not refuse it
pub never_refused : (o : Opened) (why : Refusal) → o.kept.broken ≡ false → is_last (point_of (place_of o)).time ≡ false
    → reset_refused o ≡ Some why → ⊥
never_refused o why whole left is = never_by o.kept.broken (is_last (point_of (place_of o)).time) why whole left is

-- it ends at the last of its places
pub reset_ends : (now : Moment) (at : Seen) → (after_reset now at).place ≡ end_of at.place (places_reset now at)
reset_ends now at = by (is_at_time_end at)
  where
    by : (b : Bool)
        → (if b then at else renewed now at).place ≡ end_of at.place (if b then [] else renewed_place now at.place ∷ [])
    by true = refl
    by false = refl

-- ---- what the call does

reset_place : (o new : Opened) (s : State) (now : Moment) (answer : Answer)
    → Does (place_of o) s (ResetLog now) answer (place_of new) → place_of new ≡ renewed_place now (place_of o)
reset_place o new s now answer does =
    does.is ∙ ap (λ (made : List Stage). end_of (place_of o) (places made)) does.makes.is

-- what is open stands behind it
pub reset_stands : (o new : Opened) (s : State) (now : Moment) (answer : Answer)
    → Does (place_of o) s (ResetLog now) answer (place_of new)
    → HasState new (at_point (reset_point now (place_of o)) s) → StandsAt new (renewed now (seen (place_of o) s))
reset_stands o new s now answer does has = record { place_is = reset_place o new s now answer does; shows = has }

-- the realm stays
pub reset_realm : (o new : Opened) (s : State) (now : Moment) (answer : Answer)
    → Does (place_of o) s (ResetLog now) answer (place_of new) → new.kept.realm ≡ o.kept.realm
reset_realm o new s now answer does = ap (λ (p : Place). p.realm) (reset_place o new s now answer does)

reached : (p : Place) (s : State) (now : Moment) (q : Place) (c : Files) → MayReach p s (ResetLog now) q
    → recovers c ≡ Ok q → LeavesPart p (renewed_place now p ∷ []) c
reached p s now q c (inl same) found =
    leaves_first p (renewed_place now p ∷ []) c (found ∙ ap (λ (x : Place). Ok x) same)
reached p s now q c (inr stops) found =
    part_leaves p (renewed_place now p ∷ []) q c
    (subst (λ (made : List Stage). IsPart p (places made) q) stops.makes.is stops.part) found

-- a later time is left
pub reset_time : (o new : Opened) (s : State) (now : Moment) (answer : Answer)
    → Does (place_of o) s (ResetLog now) answer (place_of new) → HasTimeLeft (place_of o)
reset_time o new s now answer does = does.makes.left

-- whatever a crash leaves of it
reset_crash : {D : Type 0} (g : Ghosts D) (old new : D) (p : Place) (s : State) (now : Moment)
    → IsCrashSafe g old new (MayLeave p s (ResetLog now))
    → IsCrashSafe g old new (LeavesPart p (renewed_place now p ∷ []))
reset_crash g old new p s now safe = record {
  told = λ tells. weaken (safe.told tells) (λ c leaves. reached p s now leaves.place c leaves.may leaves.is);
}

-- ---- as it is told

performed_told : (moments : Option (ℕ → Moment)) (stream : Option (ℕ → ℕ)) (now : Moment) (at : Seen) → IsMoment now
    → IfSome moments (λ f. now ≡ f 0) → (is_at_time_end at ≡ false → HasTimeLeft at.place)
    → IfSome (told_draws moments stream) (λ draws. IsPerformed ResetsLog draws at)
performed_told None stream now at moment first time = tt
performed_told (Some moments) None now at moment first time = tt
performed_told (Some moments) (Some stream) now at moment first time =
    (subst IsMoment first moment, λ left. record { left = time left; is = refl })

decides_at : (moments moments' : Option (ℕ → Moment)) (stream : Option (ℕ → ℕ)) (now : Moment) (at later : Seen)
    (answer : Reply) (o : Opened)
    → IsMoment now → IfSome moments (λ f. now ≡ f 0) → moments' ≡ option_map later_moments moments
    → (is_at_time_end at ≡ false → HasTimeLeft at.place)
    → answer ≡ reset_reply now at → later ≡ after_reset now at → StandsAt o later
    → Decides ResetsLog (told_draws moments stream) at (Some answer) o (told_draws moments' stream)
unfolding reply_to seen_after draws_after
decides_at moments moments' stream now at later answer o moment first others time answered behind stands = record {
  later = later;
  stands = stands;
  answers = by moments stream first others;
  performed = performed_told moments stream now at moment first time;
}
  where
    by : (m : Option (ℕ → Moment)) (b : Option (ℕ → ℕ)) → IfSome m (λ f. now ≡ f 0)
        → moments' ≡ option_map later_moments m
        → Answers ResetsLog (told_draws m b) at (Some answer) later (told_draws moments' b)
    by None b f o' = ap (λ (m : Option (ℕ → Moment)). told_draws m b) o'
    by (Some moments) None f o' = ap (λ (m : Option (ℕ → Moment)). told_draws m None) o'
    by (Some moments) (Some bytes) f o' = (
      ap (λ (r : Reply). Some r) answered ∙ (λ i. Some (reset_reply (f i) at)),
      behind ∙ (λ i. after_reset (f i) at),
      λ i. told_draws (o' i) (Some bytes),
    )

-- it was begun anew
pub decides_reset : {E : Type 0} (result : Result Printed E) (moments moments' : Option (ℕ → Moment))
    (stream : Option (ℕ → ℕ)) (now : Moment) (at : Seen) (o : Opened)
    → is_at_time_end at ≡ false → IsMoment now → IfSome moments (λ f. now ≡ f 0)
    → moments' ≡ option_map later_moments moments
    → IfOk result (λ printed. printed.reply ≡ reply.Done (reset_point now at.place))
    → OnOk result (StandsAt o (renewed now at)) → OnOk result (HasTimeLeft at.place)
    → IfOk result (λ printed.
    Decides ResetsLog (told_draws moments stream) at (Some printed.reply) o (told_draws moments' stream))
decides_reset (Ok printed) moments moments' stream now at o left moment first others answered stands time =
    decides_at moments moments' stream now at (renewed now at) printed.reply o moment first others (λ e. time)
    (answered
    ∙ sym (where_false (is_at_time_end at) (reply.Refused TimeEnd) (reply.Done (reset_point now at.place)) left))
    (sym (where_false (is_at_time_end at) at (renewed now at) left)) stands
decides_reset (Err halt) moments moments' stream now at o left moment first others answered stands time = tt

-- no later time is left
pub decides_late : (moments moments' : Option (ℕ → Moment)) (stream : Option (ℕ → ℕ)) (now : Moment) (o : Opened)
    (s : State) (answer : Reply)
    → is_at_time_end (seen (place_of o) s) ≡ true → IsMoment now → IfSome moments (λ f. now ≡ f 0)
    → moments' ≡ option_map later_moments moments
    → answer ≡ reply.Refused TimeEnd → HasState o s
    → Decides ResetsLog (told_draws moments stream) (seen (place_of o) s) (Some answer) o (told_draws moments' stream)
decides_late moments moments' stream now o s answer late moment first others answered has =
    let at = seen (place_of o) s in
    decides_at moments moments' stream now at at answer o moment first others (λ e. absurd (true≢false (sym late ∙ e)))
    (answered
    ∙ sym (where_true (is_at_time_end at) (reply.Refused TimeEnd) (reply.Done (reset_point now at.place)) late))
    (sym (where_true (is_at_time_end at) at (renewed now at) late)) (record { place_is = refl; shows = has })

reaches_told : {D : Type 0} (g : Ghosts D) (old new : D) (moments : Option (ℕ → Moment)) (stream : Option (ℕ → ℕ))
    (now : Moment) (p : Place) (s : State)
    → is_at_time_end (seen p s) ≡ false → IsMoment now → IfSome moments (λ f. now ≡ f 0)
    → IsCrashSafe g old new (MayLeave p s (ResetLog now))
    → IfSome (told_draws moments stream)
    (λ draws. IsCrashSafe g old new (RecoversWhere (LineReaches ResetsLog draws (seen p s))))
reaches_told g old new None stream now p s left moment first safe = tt
reaches_told g old new (Some moments) None now p s left moment first safe = tt
reaches_told g old new (Some moments) (Some stream) now p s left moment first safe = record {
  told = λ tells. weaken (safe.told tells) (λ c leaves. record {
    place = leaves.place;
    is = leaves.is;
    reached = inr (
      subst IsMoment first moment,
      (left, subst (λ (m : Moment). MayReach p s (ResetLog m) leaves.place) first leaves.may),
    );
  });
}

pub safe_reset : {D : Type 0} (g : Ghosts D) (old new : D) (moments : Option (ℕ → Moment)) (stream : Option (ℕ → ℕ))
    (now : Moment) (p : Place) (s : State)
    → is_at_time_end (seen p s) ≡ false → IsMoment now → IfSome moments (λ f. now ≡ f 0)
    → IsCrashSafe g old new (MayLeave p s (ResetLog now))
    → IsLineSafe g old new ResetsLog (told_draws moments stream) (seen p s)
unfolding places_by
safe_reset g old new moments stream now p s left moment first safe = record {
  made = renewed_place now p ∷ [];
  are = by moments stream first;
  safe = reset_crash g old new p s now safe;
  reaches = reaches_told g old new moments stream now p s left moment first safe;
}
  where
    by : (m : Option (ℕ → Moment)) (b : Option (ℕ → ℕ)) → IfSome m (λ f. now ≡ f 0)
        → AreMade ResetsLog (told_draws m b) (seen p s) (renewed_place now p ∷ [])
    by None b f = tt
    by (Some moments) None f = tt
    by (Some moments) (Some bytes) f = sym (where_false (is_at_time_end (seen p s)) [] (renewed_place now p ∷ []) left)
        ∙ (λ i. places_reset (f i) (seen p s))

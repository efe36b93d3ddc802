-- What was decided and carried out, as a call of the primary.
use Rattle.std.proofs.Common.{◌≡◌, ◌≢◌, Bool, true, false, List, Option, Some, None}
use Rattle.std.proofs.Common.{Result, Ok, Err, inl, refl, sym, ap, subst, ◌∙◌}
use Rattle.std.specs.Prelude.{[], ◌∷◌, IfOk, OnErr, OnOk, if◌then◌else◌}
use Rattle.iprop_truths.specs.Parts.{IsPart, end_of}
use Rattle.kadm_commands.specs.declared.replies.Reply.{Reply}
use Rattle.kadm_commands.specs.declared.replies.Reply.TheVariants.{Refused}
use Rattle.kdb_base.specs.Moment.{Moment}
use Rattle.kdb_base.specs.declared.outcomes.Halt.{Halt}
use Rattle.kdb_base.specs.declared.outcomes.Halt.TheVariants.{MemoryOut, DiskFault}
use Rattle.kdb_base.specs.declared.outcomes.Refusal.TheVariants.{Closed}
use Rattle.kdb_disk.specs.Files.{Files}
use Rattle.kdb_histories.specs.Asks.{Answer as Answered, Ask, Replied, clock_of}
use Rattle.kdb_histories.specs.Calls.{Perform, Performs}
use Rattle.kdb_histories.specs.Leaving.{Does, MayReach}
use Rattle.kdb_histories.specs.Moves.{IsLeft}
use Rattle.kdb_histories.specs.Seen.{Seen, after_ask, changed, did, entry_point}
use Rattle.kdb_histories.specs.Seen.{is_due, moment_at, reset_for, reset_point, seen}
use Rattle.kdb_histories.specs.Stages.{Anew, Stage, places, stage}
use Rattle.kdb_places.specs.Places.{Place, committed}
use Rattle.kdb_plain.specs.declared.states.State.{State}
use Rattle.performed_plans.proofs.ChangedPlaces.{places_changed}
use Rattle.primary_core.proofs.Asking.{kept, left, mastered}
use Rattle.primary_core.proofs.Called.{call_does, call_reaches, left_at}
use Rattle.princ_rows.specs.declared.entries.Op.{Op}
use Rattle.primary_core.specs.Deciding.{change_of, places_decided, reply_of}
use Rattle.primary_core.specs.Opened.{HasState, IsDecided, MayLeave, MayMake}
use Rattle.primary_core.specs.Opened.{Opened, made_for, masters_behind, place_of}
use Rattle.primary_core.specs.declared.decided.Decided.{Decided}
use Rattle.primary_core.specs.declared.decided.Decided.TheVariants.{Answer, Change}
use Rattle.primary_core.specs.declared.decided.DecidedChange.{DecidedChange}
use Rattle.store_files.specs.Found.{recovers}
use Rattle.store_files.specs.Recovery.{LeavesPart}

places_are : (ask : Ask) (change : Option DecidedChange) (p : Place)
    → places (made_for ask change p) ≡ places_decided (clock_of ask) change p
places_are ask None p = refl
places_are ask (Some change) p = places_changed ask change.op p

-- a change makes a place
changed_some : (ask : Ask) (op : Op) (p : Place) → changed ask op p ≢ []
changed_some ask op p = made_some (is_due op p)
  where
    made_some : (due : Bool)
        → (if due then stage (reset_for (clock_of ask) op p) Anew
        ∷ did ask true op p (committed op (reset_point (clock_of ask) p).time (reset_for (clock_of ask) op p)) ∷ []
        else did ask false op p (committed op (moment_at (clock_of ask) p) p) ∷ []) ≢ []
    made_some true = λ none. cc
    made_some false = λ none. cc

-- so where none is made, no change was decided
pub none_decided : (ask : Ask) (change : Option DecidedChange) (p : Place) (made : List Stage)
    → made_for ask change p ≡ made → made ≡ [] → change ≡ None
none_decided ask None p made is nothing = refl
none_decided ask (Some change) p made is nothing = absurd (changed_some ask change.op p (is ∙ nothing))

-- whatever is answered
module _ (o : Opened) (ask : Ask) (answer : Answered) (change : Option DecidedChange) (s : State)
    (makes : Performs (place_of o) s ask answer (made_for ask change (place_of o))) where
  pub ask_reaches : (q : Place) → IsPart (place_of o) (places_decided (clock_of ask) change (place_of o)) q
      → MayReach (place_of o) s (Perform ask) q
  ask_reaches q part =
      call_reaches (place_of o) s (Perform ask) answer (made_for ask change (place_of o)) makes q
      (subst (λ (x : List Place). IsPart (place_of o) x q) (sym (places_are ask change (place_of o))) part)

  pub ask_leaves : (c : Files) → LeavesPart (place_of o) (places_decided (clock_of ask) change (place_of o)) c
      → MayLeave (place_of o) s (Perform ask) c
  ask_leaves c h =
      let l = left_at (place_of o) (places_decided (clock_of ask) change (place_of o)) c h in
      record { place = l.place; is = l.is; may = ask_reaches l.place l.part }

  pub ask_does : (q : Place) → q ≡ end_of (place_of o) (places_decided (clock_of ask) change (place_of o))
      → Does (place_of o) s (Perform ask) answer q
  ask_does q is =
      call_does (place_of o) s (Perform ask) answer (made_for ask change (place_of o)) makes q
      (is ∙ ap (end_of (place_of o)) (sym (places_are ask change (place_of o))))

module _ (o : Opened) (ask : Ask) (reply : Reply) (change : Option DecidedChange) (d : IsDecided o ask reply change)
    (s : State) (has : HasState o s) where
  pub reaches : (q : Place) → IsPart (place_of o) (places_decided (clock_of ask) change (place_of o)) q
      → MayReach (place_of o) s (Perform ask) q
  reaches = ask_reaches o ask (Replied reply) change s (d.performs s has)

  pub leaves : (c : Files) → LeavesPart (place_of o) (places_decided (clock_of ask) change (place_of o)) c
      → MayLeave (place_of o) s (Perform ask) c
  leaves = ask_leaves o ask (Replied reply) change s (d.performs s has)

  pub does : (q : Place) → q ≡ end_of (place_of o) (places_decided (clock_of ask) change (place_of o))
      → Does (place_of o) s (Perform ask) (Replied reply) q
  does = ask_does o ask (Replied reply) change s (d.performs s has)

-- what stands as before
pub stays : (o : Opened) (s : State) (ask : Ask) (c : Files) → recovers c ≡ Ok (place_of o)
    → MayLeave (place_of o) s (Perform ask) c
stays o s ask c is = record { place = place_of o; is = is; may = inl refl }

-- the state behind it
pub state_behind : (o new : Opened) (ask : Ask) (reply : Reply) (change : Option DecidedChange) (s : State)
    → IsDecided o ask reply change → HasState o s
    → (change ≡ None → new ≡ o)
    → ((made : DecidedChange) (t : State) → change ≡ Some made
    → IsLeft (place_of o).realm (entry_point (clock_of ask) made.op (place_of o)) made.op (place_of o).rows t
    → t.masters ≡ masters_behind o made.masters → HasState new t)
    → HasState new (after_ask ask (seen (place_of o) s)).state
state_behind o new ask reply None s d has same made =
    subst (λ (x : Opened). HasState x (after_ask ask (seen (place_of o) s)).state) (sym (same refl))
    (subst (HasState o) (sym (ap (λ (x : Seen). x.state) (kept o ask reply s d has))) has)
state_behind o new ask reply (Some change) s d has same made =
    made change (after_ask ask (seen (place_of o) s)).state refl (left o ask reply s change d has)
    (mastered o ask reply s (Some change) d has)

-- ---- by what is answered

module _ (o new : Opened) (ask : Ask) (reply : Reply) (change : Option DecidedChange) (d : IsDecided o ask reply change)
    (s : State) (has : HasState o s) (r : Result Reply Halt) where
  pub does_if : IfOk r (λ x. x ≡ reply)
      → OnOk r (place_of new ≡ end_of (place_of o) (places_decided (clock_of ask) change (place_of o)))
      → IfOk r (λ x. Does (place_of o) s (Perform ask) (Replied x) (place_of new))
  does_if same at = on r same at
    where
      on : (x : Result Reply Halt) → IfOk x (λ y. y ≡ reply)
          → OnOk x (place_of new ≡ end_of (place_of o) (places_decided (clock_of ask) change (place_of o)))
          → IfOk x (λ y. Does (place_of o) s (Perform ask) (Replied y) (place_of new))
      on (Ok y) e at = subst (λ (z : Reply). Does (place_of o) s (Perform ask) (Replied z) (place_of new)) (sym e)
          (does o ask reply change d s has (place_of new) at)
      on (Err h) e at = tt

  pub state_if : (change ≡ None → new ≡ o)
      → ((made : DecidedChange) (t : State) → change ≡ Some made
      → IsLeft (place_of o).realm (entry_point (clock_of ask) made.op (place_of o)) made.op (place_of o).rows t
      → t.masters ≡ masters_behind o made.masters → OnOk r (HasState new t))
      → OnOk r (HasState new (after_ask ask (seen (place_of o) s)).state)
  state_if same made = on r made
    where
      on : (x : Result Reply Halt)
          → ((made : DecidedChange) (t : State) → change ≡ Some made
          → IsLeft (place_of o).realm (entry_point (clock_of ask) made.op (place_of o)) made.op (place_of o).rows t
          → t.masters ≡ masters_behind o made.masters → OnOk x (HasState new t))
          → OnOk x (HasState new (after_ask ask (seen (place_of o) s)).state)
      on (Ok y) made = state_behind o new ask reply change s d has same made
      on (Err h) made = tt

-- ---- what was decided is carried out

same_ok : (r : Result Decided Halt) (a b : Decided) → r ≡ Ok a → r ≡ Ok b → a ≡ b
same_ok r a b x y = let both : Ok a ≡ Ok b = sym x ∙ y in cc

pub whole_by : (b : Bool) (r : Result Decided Halt) (d : Decided) → r ≡ Ok d
    → (b ≡ true → r ≡ Ok (Answer (Refused Closed))) → change_of d ≢ None → b ≡ false
whole_by true r d is closed some = absurd (some (ap change_of (same_ok r d (Answer (Refused Closed)) is (closed refl))))
whole_by false r d is closed some = refl

pub whole_at_err : (b : Bool) (r : Result Decided Halt) (h : Halt) → r ≡ Err h
    → (b ≡ true → r ≡ Ok (Answer (Refused Closed))) → b ≡ false
whole_at_err true r h is closed =
    let both : Err h ≡ Ok (Answer (Refused Closed)) = sym is ∙ closed refl in
    absurd cc
whole_at_err false r h is closed = refl

pub may_by : (o : Opened) (clock : Moment) (r : Result Decided Halt) (d : Decided) → r ≡ Ok d
    → ((change : DecidedChange) (reply : Reply) → r ≡ Ok (Change change reply) → MayMake o clock change)
    → (change : DecidedChange) → change_of d ≡ Some change → MayMake o clock change
may_by o clock r (Answer reply) is may change e = absurd cc
may_by o clock r (Change made reply) is may change e = let same : made ≡ change =
    cc in subst (MayMake o clock) same (may made reply is)

pub closed_is : (r : Result Decided Halt) (d : Decided) → r ≡ Ok d → r ≡ Ok (Answer (Refused Closed))
    → d ≡ Answer (Refused Closed)
closed_is r d is closed = same_ok r d (Answer (Refused Closed)) is closed

-- ---- one of the two ways

pub answers_none : (d : Decided) (reply : Reply) → d ≡ Answer reply → change_of d ≡ None
answers_none d reply e = ap change_of e

pub changes_one : (d : Decided) (change : DecidedChange) (reply : Reply) → d ≡ Change change reply
    → change_of d ≡ Some change
changes_one d change reply e = ap change_of e

-- where the primary is closed, the answer is no error
pub reach_by : (A P : Type 0) (b own : Bool) (r : Result A Halt) (x : A) → own ≡ b → (own ≡ true → r ≡ Ok x)
    → (own ≡ false → OnErr r P) → OnErr r P
reach_by A P true own r x e closed opened = subst (λ (y : Result A Halt). OnErr y P) (sym (closed e)) tt
reach_by A P false own r x e closed opened = opened e

pub never_both : (b : Bool) → b ≡ true → b ≡ false → ⊥
never_both b e f = let both : true ≡ false = sym e ∙ f in absurd cc

pub never_fault : (h : Halt) (A : Type 0) → h ≡ MemoryOut → ◌≡◌ {A = Result A Halt} (Err h) (Err DiskFault) → ⊥
never_fault h A e f = let both : ◌≡◌ {A = Result A Halt} (Err MemoryOut) (Err DiskFault) =
    sym (ap Err e) ∙ f in absurd cc

-- a state as it was handed on
pub decided_at_ok : (o : Opened) (ask : Ask) (r : Result Decided Halt) (d : Decided) → r ≡ Ok d
    → IfOk r (λ x. IsDecided o ask (reply_of x) (change_of x))
    → IsDecided o ask (reply_of d) (change_of d)
decided_at_ok o ask r d is h =
    subst (λ (x : Result Decided Halt). IfOk x (λ y. IsDecided o ask (reply_of y) (change_of y))) is h

pub none_some : (d : Decided) (change : DecidedChange) → change_of d ≡ None → change_of d ≡ Some change → ⊥
none_some d change e f = let both : ◌≡◌ {A = Option DecidedChange} None (Some change) = sym e ∙ f in absurd cc

pub change_some : (d : Decided) (change : DecidedChange) (reply : Reply) → d ≡ Change change reply → change_of d ≢ None
change_some d change reply e none = none_some d change none (changes_one d change reply e)

pub same_made : (d : Decided) (change made : DecidedChange) (reply : Reply) → d ≡ Change change reply
    → change_of d ≡ Some made → change ≡ made
same_made d change made reply e f =
    let both : ◌≡◌ {A = Option DecidedChange} (Some change) (Some made) = sym (changes_one d change reply e) ∙ f in cc

pub err_same : (h k : Halt) (A : Type 0) → ◌≡◌ {A = Result A Halt} (Err h) (Err k) → h ≡ k
err_same h k A e = cc

-- What was decided and made, as the ask of a line.
use Rattle.std.proofs.Common.{◌≡◌, ◌∙◌, ℕ, List, [], ◌∷◌, Bool, true, false, if◌then◌else◌, refl, ap, sym, subst, inr}
use Rattle.std.proofs.lemmas.Option.{same_Some}
use Rattle.std.specs.Prelude.{Option, Some, None, Result, Ok, Err, IfOk, IfSome, OnOk, option_map}
use Rattle.iprop_truths.specs.Parts.{end_of}
use Rattle.kadm_commands.specs.declared.commands.Command.{Command}
use Rattle.kadm_commands.specs.declared.replies.Reply.{Reply}
use Rattle.kdb_base.specs.Moment.{Moment}
use Rattle.kdb_disk.specs.Frames.{IsCrashSafe}
use Rattle.kdb_disk.specs.declared.disk.Disk.{Ghosts}
use Rattle.kdb_disk.proofs.Runs.{weaken}
use Rattle.kdb_histories.specs.Asks.{Ask, Replied, clock_of}
use Rattle.kdb_histories.specs.Calls.{Perform}
use Rattle.kdb_histories.specs.Leaving.{MayReach}
use Rattle.kdb_histories.specs.Moves.{IsLeft}
use Rattle.kdb_histories.specs.Seen.{Seen, after_ask, answer_at, changed, entry_point, is_due, made_at, seen}
use Rattle.kdb_histories.specs.Stages.{places}
use Rattle.kdb_model.specs.Laws.{IsMoment}
use Rattle.kdb_places.specs.Places.{Place}
use Rattle.kdb_plain.specs.declared.states.State.{State}
use Rattle.kdb_ports.specs.Told.{later_bytes, later_moments}
use Rattle.primary_core.specs.Changes.{change_places}
use Rattle.primary_core.specs.Opened.{HasState, IsDecided, MayLeave, MayMake, Opened}
use Rattle.primary_core.specs.Opened.{made_for, masters_behind, masters_brought, place_of}
use Rattle.primary_core.specs.declared.decided.DecidedChange.{DecidedChange}
use Rattle.princ_rows.specs.declared.entries.Op.{Op}
use Rattle.store_files.specs.Recovery.{LeavesPart}
use Rattle.kadm_session.specs.Deciding.{AreMade, Answers, Decides, IsLineSafe, StandsAt}
use Rattle.session_base.specs.Draws.{bytes_of, told_draws}
use Rattle.kadm_session.specs.Events.{IsDone, IsPerformed, LineReaches, Performed, RecoversWhere}
use Rattle.kadm_session.specs.Steps.{ask_at, draws_after, places_by, reply_in_answer, reply_to, seen_after}
use Rattle.kadm_session.specs.declared.commands.Judged.{Judged}
use Rattle.session_base.specs.declared.replies.Printed.{Printed}
use Rattle.kadm_session.specs.declared.intake.Asked.TheVariants.{Does}
use Rattle.kadm_session.proofs.Leaving.{crash_made, made_leaves, performed_done, performed_own}

-- ---- nothing is to be made, or a change

-- the change that was judged may be made
pub may_make : {E : Type 0} (r : Result Judged E) (made other : DecidedChange) (o : Opened) (now : Moment)
    → IfOk r (λ j. j.change ≡ Some made) → MayMake o now made
    → IfOk r (λ j. j.change ≡ Some other → MayMake o now other)
may_make (Ok judged) made other o now is may =
    λ same. subst (λ (x : DecidedChange). MayMake o now x) (same_Some made other (sym is ∙ same)) may
may_make (Err fault) made other o now is may = tt

-- what is open stays where it is
pub stands_still : ((o : Opened) (ask : Ask) (reply : Reply) (s : State) → IsDecided o ask reply None → HasState o s
    → after_ask ask (seen (place_of o) s) ≡ seen (place_of o) s)
    → (o : Opened) (ask : Ask) (reply : Reply) (change : Option DecidedChange) (s : State) → change ≡ None
    → IsDecided o ask reply change → HasState o s
    → StandsAt o (after_ask ask (seen (place_of o) s))
stands_still keeps o ask reply change s none is has =
    subst (λ (at : Seen). StandsAt o at)
    (sym (keeps o ask reply s (subst (λ (x : Option DecidedChange). IsDecided o ask reply x) none is) has))
    (record { place_is = refl; shows = has })

-- the places of a change
pub places_are : ((ask : Ask) (op : Op) (p : Place) → places (changed ask op p) ≡ change_places (clock_of ask) op p)
    → (o : Opened) (ask : Ask) (reply : Reply) (change : Option DecidedChange) (made : DecidedChange) (s : State)
    (now : Moment) → clock_of ask ≡ now → change ≡ Some made → IsDecided o ask reply change → HasState o s
    → places (made_at ask (seen (place_of o) s)) ≡ change_places now made.op (place_of o)
places_are law o ask reply change made s now clock some is has =
    ap places (sym (is.performs s has).is)
    ∙ ap (λ (x : Option DecidedChange). places (made_for ask x (place_of o))) some
    ∙ law ask made.op (place_of o)
    ∙ ap (λ (m : Moment). change_places m made.op (place_of o)) clock

-- a crash leaves what it may leave of the ask
pub crash_changing : {D : Type 0} (g : Ghosts D) (old new : D) (o : Opened) (ask : Ask) (reply : Reply)
    (change : Option DecidedChange) (s : State) (made : List Place) → IsDecided o ask reply change → HasState o s
    → places (made_at ask (seen (place_of o) s)) ≡ made → IsCrashSafe g old new (LeavesPart (place_of o) made)
    → IsCrashSafe g old new (MayLeave (place_of o) s (Perform ask))
crash_changing g old new o ask reply change s made is has same safe =
    let p = place_of o in
    made_leaves g old new p s ask (Replied reply) (made_at ask (seen p s))
    (performed_own p s ask (Replied reply) (made_for ask change p) (is.performs s has))
    (subst (λ (ps : List Place). IsCrashSafe g old new (LeavesPart p ps)) (sym same) safe)

-- the reply that was printed is the ask's
pub performed_same : {E : Type 0} (r : Result Printed E) (o : Opened) (ask : Ask) (change : Option DecidedChange)
    (s : State) (given : Printed) → IfOk r (λ printed. printed ≡ given)
    → IsDecided o ask given.reply change → HasState o s
    → IfOk r (λ printed. Performed ask (seen (place_of o) s) (Replied printed.reply))
performed_same (Ok printed) o ask change s given same is has =
    subst (λ (x : Printed). Performed ask (seen (place_of o) s) (Replied x.reply)) (sym same)
    (performed_own (place_of o) s ask (Replied given.reply) (made_for ask change (place_of o)) (is.performs s has))
performed_same (Err halt) o ask change s given same is has = tt

-- what is open has come to the change's place
pub stands_changed :
    ((o : Opened) (ask : Ask) (reply : Reply) (change : Option DecidedChange) (s : State)
    → IsDecided o ask reply change → HasState o s
    → (after_ask ask (seen (place_of o) s)).place ≡ end_of (place_of o) (places (made_for ask change (place_of o))))
    → ((ask : Ask) (op : Op) (p : Place) → places (changed ask op p) ≡ change_places (clock_of ask) op p)
    → (o new : Opened) (ask : Ask) (reply : Reply) (change : Option DecidedChange) (made : DecidedChange) (s : State)
    (now : Moment) → clock_of ask ≡ now → change ≡ Some made → IsDecided o ask reply change → HasState o s
    → place_of new ≡ end_of (place_of o) (change_places now made.op (place_of o))
    → HasState new (after_ask ask (seen (place_of o) s)).state
    → StandsAt new (after_ask ask (seen (place_of o) s))
stands_changed ends law o new ask reply change made s now clock some is has place shows = record {
  place_is =
      place
      ∙ ap (λ (m : Moment). end_of (place_of o) (change_places m made.op (place_of o))) (sym clock)
      ∙ ap (end_of (place_of o)) (sym (law ask made.op (place_of o)))
      ∙ ap (λ (x : Option DecidedChange). end_of (place_of o) (places (made_for ask x (place_of o)))) (sym some)
      ∙ sym (ends o ask reply change s is has);
  shows = shows;
}

-- it shows the state behind the change
pub shows_changed :
    ((o : Opened) (ask : Ask) (reply : Reply) (change : DecidedChange) (s : State) → IsDecided o ask reply (Some change)
    → HasState o s
    → IsLeft (place_of o).realm (entry_point (clock_of ask) change.op (place_of o)) change.op (place_of o).rows
    (after_ask ask (seen (place_of o) s)).state)
    → ((o : Opened) (ask : Ask) (reply : Reply) (change : Option DecidedChange) (s : State)
    → IsDecided o ask reply change → HasState o s
    → (after_ask ask (seen (place_of o) s)).state.masters ≡ masters_behind o (masters_brought change))
    → (o new : Opened) (ask : Ask) (reply : Reply) (change : Option DecidedChange) (made : DecidedChange) (s : State)
    (now : Moment) → clock_of ask ≡ now → change ≡ Some made → IsDecided o ask reply change → HasState o s
    → ((t : State) → IsLeft (place_of o).realm (entry_point now made.op (place_of o)) made.op (place_of o).rows t
    → t.masters ≡ masters_behind o made.masters → HasState new t)
    → HasState new (after_ask ask (seen (place_of o) s)).state
shows_changed leaves masters o new ask reply change made s now clock some is has shows =
    let t = (after_ask ask (seen (place_of o) s)).state in
    shows t
    (subst (λ (m : Moment). IsLeft (place_of o).realm (entry_point m made.op (place_of o)) made.op (place_of o).rows t)
    clock
    (leaves o ask reply made s (subst (λ (x : Option DecidedChange). IsDecided o ask reply x) some is) has))
    (masters o ask reply change s is has ∙ ap (λ (x : Option DecidedChange). masters_behind o (masters_brought x)) some)

realm_by : (due : Bool) (p first second other : Place) → second.realm ≡ p.realm → other.realm ≡ p.realm
    → (end_of p (if due then first ∷ second ∷ [] else other ∷ [])).realm ≡ p.realm
realm_by true p first second other late early = late
realm_by false p first second other late early = early

-- a change keeps the realm
pub change_realm : (clock : Moment) (op : Op) (p : Place) → (end_of p (change_places clock op p)).realm ≡ p.realm
change_realm clock op p = realm_by (is_due op p) p _ _ _ refl refl

-- ---- as it is told

-- where it was done at this moment with these bytes
performed_told : (cmd : Command) (moments : Option (ℕ → Moment)) (stream : Option (ℕ → ℕ)) (now : Moment)
    (random : List ℕ) (at : Seen) → IsMoment now
    → IfSome moments (λ f. now ≡ f 0) → IfSome stream (λ f. random ≡ bytes_of 2048 f)
    → IsDone (ask_at cmd now random at) at
    → IfSome (told_draws moments stream) (λ draws. IsPerformed (Does cmd) draws at)
performed_told cmd None stream now random at moment first bytes done = tt
performed_told cmd (Some moments) None now random at moment first bytes done = tt
performed_told cmd (Some moments) (Some stream) now random at moment first bytes done =
    (subst IsMoment first moment, subst (λ (ask : Ask). IsDone ask at) (λ i. ask_at cmd (first i) (bytes i) at) done)

-- a command that was done so
pub decides_done : (cmd : Command) (moments moments' : Option (ℕ → Moment)) (stream stream' : Option (ℕ → ℕ))
    (now : Moment) (random : List ℕ) (p : Place) (s : State) (answer : Reply) (o : Opened)
    → IsMoment now → IfSome moments (λ f. now ≡ f 0) → moments' ≡ option_map later_moments moments
    → IfSome stream (λ f. random ≡ bytes_of 2048 f) → stream' ≡ option_map (later_bytes 2048) stream
    → Performed (ask_at cmd now random (seen p s)) (seen p s) (Replied answer)
    → StandsAt o (after_ask (ask_at cmd now random (seen p s)) (seen p s))
    → Decides (Does cmd) (told_draws moments stream) (seen p s) (Some answer) o (told_draws moments' stream')
unfolding reply_to seen_after draws_after
decides_done cmd moments moments' stream stream' now random p s answer o moment first others bytes rest performs
    stands = record {
      later = after_ask (ask_at cmd now random (seen p s)) (seen p s);
      stands = stands;
      answers = by moments stream first others bytes rest;
      performed = performed_told cmd moments stream now random (seen p s) moment first bytes
          (performed_done (ask_at cmd now random (seen p s)) p s (Replied answer) performs);
    }
  where
    by : (m : Option (ℕ → Moment)) (b : Option (ℕ → ℕ)) → IfSome m (λ f. now ≡ f 0)
        → moments' ≡ option_map later_moments m
        → IfSome b (λ f. random ≡ bytes_of 2048 f) → stream' ≡ option_map (later_bytes 2048) b
        → Answers (Does cmd) (told_draws m b) (seen p s) (Some answer)
        (after_ask (ask_at cmd now random (seen p s)) (seen p s)) (told_draws moments' stream')
    by None b f o' g r = ap (λ (m : Option (ℕ → Moment)). told_draws m stream') o'
    by (Some moments) None f o' g r = λ i. told_draws (o' i) (r i)
    by (Some moments) (Some bytes) f o' g r = (
      ap reply_in_answer performs.answers
          ∙ (λ i. reply_in_answer (answer_at (ask_at cmd (f i) (g i) (seen p s)) (seen p s))),
      λ i. after_ask (ask_at cmd (f i) (g i) (seen p s)) (seen p s),
      λ i. told_draws (o' i) (r i),
    )

-- where it was done
pub decides_drawn : {E : Type 0} (result : Result Printed E) (cmd : Command) (moments moments' : Option (ℕ → Moment))
    (stream stream' : Option (ℕ → ℕ)) (now : Moment) (random : List ℕ) (p : Place) (s : State) (o : Opened)
    → IsMoment now → IfSome moments (λ f. now ≡ f 0) → moments' ≡ option_map later_moments moments
    → IfSome stream (λ f. random ≡ bytes_of 2048 f) → stream' ≡ option_map (later_bytes 2048) stream
    → IfOk result (λ printed. Performed (ask_at cmd now random (seen p s)) (seen p s) (Replied printed.reply))
    → OnOk result (StandsAt o (after_ask (ask_at cmd now random (seen p s)) (seen p s)))
    → IfOk result (λ printed.
    Decides (Does cmd) (told_draws moments stream) (seen p s) (Some printed.reply) o (told_draws moments' stream'))
decides_drawn (Ok printed) cmd moments moments' stream stream' now random p s o moment first others bytes rest
    performs stands =
    decides_done cmd moments moments' stream stream' now random p s printed.reply o moment first others bytes rest
    performs stands
decides_drawn (Err halt) cmd moments moments' stream stream' now random p s o moment first others bytes rest
    performs stands = tt

pub bytes_seen : (stream : Option (ℕ → ℕ)) (drawn random : List ℕ) (n : ℕ) → random ≡ drawn
    → IfSome stream (λ f. drawn ≡ bytes_of n f) → IfSome stream (λ f. random ≡ bytes_of n f)
bytes_seen None drawn random n same is = tt
bytes_seen (Some f) drawn random n same is = same ∙ is

reaches_told : {D : Type 0} (g : Ghosts D) (old new : D) (cmd : Command) (moments : Option (ℕ → Moment))
    (stream : Option (ℕ → ℕ)) (now : Moment) (random : List ℕ) (p : Place) (s : State)
    → IsMoment now → IfSome moments (λ f. now ≡ f 0) → IfSome stream (λ f. random ≡ bytes_of 2048 f)
    → IsCrashSafe g old new (MayLeave p s (Perform (ask_at cmd now random (seen p s))))
    → IfSome (told_draws moments stream)
    (λ draws. IsCrashSafe g old new (RecoversWhere (LineReaches (Does cmd) draws (seen p s))))
reaches_told g old new cmd None stream now random p s moment first bytes safe = tt
reaches_told g old new cmd (Some moments) None now random p s moment first bytes safe = tt
reaches_told g old new cmd (Some moments) (Some stream) now random p s moment first bytes safe = record {
  told = λ tells.
      let at = seen p s in
      weaken (safe.told tells) (λ c leaves. record {
        place = leaves.place;
        is = leaves.is;
        reached = inr (
          subst IsMoment first moment,
          subst (λ (ask : Ask). MayReach p s (Perform ask) leaves.place)
              (λ i. ask_at cmd (first i) (bytes i) at) leaves.may,
        );
      });
}

pub safe_done : {D : Type 0} (g : Ghosts D) (old new : D) (cmd : Command) (moments : Option (ℕ → Moment))
    (stream : Option (ℕ → ℕ)) (now : Moment) (random : List ℕ) (p : Place) (s : State)
    → IsMoment now → IfSome moments (λ f. now ≡ f 0) → IfSome stream (λ f. random ≡ bytes_of 2048 f)
    → IsCrashSafe g old new (MayLeave p s (Perform (ask_at cmd now random (seen p s))))
    → IsLineSafe g old new (Does cmd) (told_draws moments stream) (seen p s)
unfolding places_by
safe_done g old new cmd moments stream now random p s moment first bytes safe = record {
  made = places (made_at (ask_at cmd now random (seen p s)) (seen p s));
  are = by moments stream first bytes;
  safe = crash_made g old new (ask_at cmd now random (seen p s)) p s safe;
  reaches = reaches_told g old new cmd moments stream now random p s moment first bytes safe;
}
  where
    by : (m : Option (ℕ → Moment)) (b : Option (ℕ → ℕ)) → IfSome m (λ f. now ≡ f 0)
        → IfSome b (λ f. random ≡ bytes_of 2048 f)
        → AreMade (Does cmd) (told_draws m b) (seen p s)
        (places (made_at (ask_at cmd now random (seen p s)) (seen p s)))
    by None b f g' = tt
    by (Some moments) None f g' = tt
    by (Some moments) (Some bytes) f g' = λ i. places (made_at (ask_at cmd (f i) (g' i) (seen p s)) (seen p s))

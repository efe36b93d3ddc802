-- What a crash leaves of one ask, and of a line where nothing is done.
use Rattle.std.proofs.Common.{◌≡◌, ◌∙◌, List, [], ◌∷◌, refl, ap, sym, subst, inl, inr}
use Rattle.std.specs.Prelude.{Option, Some, None, Ok, IfSome}
use Rattle.iprop_truths.specs.Parts.{IsPart}
use Rattle.kadm_session.specs.Deciding.{AreMade, IsLineSafe}
use Rattle.kadm_session.specs.Events.{IsDone, LineReaches, Performed, RecoversWhere}
use Rattle.kadm_session.specs.Steps.{places_by}
use Rattle.kadm_session.specs.declared.intake.Asked.{Asked}
use Rattle.kdb_disk.proofs.Runs.{started, weaken}
use Rattle.kdb_disk.specs.Files.{Files}
use Rattle.kdb_disk.specs.Frames.{IsCrashSafe}
use Rattle.kdb_disk.specs.Moments.{LeavesOnly}
use Rattle.kdb_disk.specs.declared.disk.Disk.{Ghosts}
use Rattle.kdb_histories.specs.Asks.{Answer, Ask}
use Rattle.kdb_histories.specs.Calls.{Call, Perform, Performs}
use Rattle.kdb_histories.specs.Leaving.{MayReach}
use Rattle.kdb_histories.specs.Seen.{Seen, made_at, seen}
use Rattle.kdb_histories.specs.Stages.{Stage, places}
use Rattle.kdb_places.specs.Places.{Place}
use Rattle.kdb_plain.specs.declared.states.State.{State}
use Rattle.primary_core.specs.Opened.{MayLeave}
use Rattle.session_base.specs.Draws.{Draws}
use Rattle.store_files.specs.Found.{recovers}
use Rattle.store_files.specs.Recovery.{LeavesPart, RecoversTo}

-- ---- one of the places

pub leaves_first : (p : Place) (places : List Place) (c : Files) → recovers c ≡ Ok p → LeavesPart p places c
unfolding LeavesPart
leaves_first p [] c is = is
leaves_first p (q ∷ places) c is = inl is

pub part_leaves : (p : Place) (made : List Place) (q : Place) (c : Files) → IsPart p made q → recovers c ≡ Ok q
    → LeavesPart p made c
unfolding LeavesPart
part_leaves p [] q c is found = found ∙ ap (λ (x : Place). Ok x) is
part_leaves p (n ∷ others) q c (inl is) found = inl (found ∙ ap (λ (x : Place). Ok x) is)
part_leaves p (n ∷ others) q c (inr later) found = inr (part_leaves n others q c later found)

part_found : (p : Place) (made : List Place) (c : Files) → LeavesPart p made c
    → (q : Place) × (recovers c ≡ Ok q) × IsPart p made q
unfolding LeavesPart
part_found p [] c is = (p, is, refl)
part_found p (n ∷ others) c (inl is) = (p, is, inl refl)
part_found p (n ∷ others) c (inr later) = let found = part_found n others c later in (found.0, found.1, inr found.2)

-- ---- one ask

-- its own answer and its own places
pub done_own : (p : Place) (s : State) (ask : Ask) (answer : Answer) (made : List Stage) → Performs p s ask answer made
    → IsDone ask (seen p s)
done_own p s ask answer made h = record { answers = refl; leads = h.leads; fit = h.fit; is = refl }

pub performed_own : (p : Place) (s : State) (ask : Ask) (answer : Answer) (made : List Stage)
    → Performs p s ask answer made → Performed ask (seen p s) answer
performed_own p s ask answer made h = record { answers = h.answers; leads = h.leads; fit = h.fit; is = refl }

pub performed_done : (ask : Ask) (p : Place) (s : State) (answer : Answer) → Performed ask (seen p s) answer
    → IsDone ask (seen p s)
performed_done ask p s answer h = done_own p s ask answer (made_at ask (seen p s)) h

reached : (ask : Ask) (p : Place) (s : State) (q : Place) (c : Files) → MayReach p s (Perform ask) q → recovers c ≡ Ok q
    → LeavesPart p (places (made_at ask (seen p s))) c
reached ask p s q c (inl same) found =
    leaves_first p (places (made_at ask (seen p s))) c (found ∙ ap (λ (x : Place). Ok x) same)
reached ask p s q c (inr stops) found =
    part_leaves p (places (made_at ask (seen p s))) q c
    (subst (λ (made : List Stage). IsPart p (places made) q) stops.makes.is stops.part) found

-- whatever a crash leaves of one event is one of its places
pub crash_made : {D : Type 0} (g : Ghosts D) (old new : D) (ask : Ask) (p : Place) (s : State)
    → IsCrashSafe g old new (MayLeave p s (Perform ask))
    → IsCrashSafe g old new (LeavesPart p (places (made_at ask (seen p s))))
crash_made g old new ask p s safe = record {
  told = λ tells. weaken (safe.told tells) (λ c leaves. reached ask p s leaves.place c leaves.may leaves.is);
}

made_left : (p : Place) (s : State) (ask : Ask) (answer : Answer) (made : List Stage) (c : Files)
    → Performs p s ask answer made → LeavesPart p (places made) c → MayLeave p s (Perform ask) c
made_left p s ask answer made c h part =
    let found = part_found p (places made) c part in
    record {
      place = found.0;
      is = found.1;
      may = inr (record { answer = answer; made = made; makes = h; part = found.2 });
    }

-- and one of its places is what a crash may leave of it
pub made_leaves : {D : Type 0} (g : Ghosts D) (old new : D) (p : Place) (s : State) (ask : Ask) (answer : Answer)
    (made : List Stage) → Performs p s ask answer made
    → IsCrashSafe g old new (LeavesPart p (places made)) → IsCrashSafe g old new (MayLeave p s (Perform ask))
made_leaves g old new p s ask answer made h safe =
    record { told = λ tells. weaken (safe.told tells) (λ c part. made_left p s ask answer made c h part) }

-- ---- a crash leaves the place where nothing is done

pub crash_still : {D : Type 0} (g : Ghosts D) (old new : D) (p : Place) (places : List Place) → new ≡ old
    → (g.tells → RecoversTo p (g.view old)) → IsCrashSafe g old new (LeavesPart p places)
crash_still {D} g old new p places same recovered = record {
  told = λ tells.
      subst (λ (x : D). LeavesOnly (g.view old) (g.view x) (LeavesPart p places)) (sym same)
      (started (g.view old) (LeavesPart p places) (λ c image. leaves_first p places c (recovered tells c image)));
}

pub may_still : {D : Type 0} (g : Ghosts D) (old new : D) (p : Place) (s : State) (call : Call) → new ≡ old
    → (g.tells → RecoversTo p (g.view old)) → IsCrashSafe g old new (MayLeave p s call)
may_still {D} g old new p s call same recovered = record {
  told = λ tells.
      subst (λ (x : D). LeavesOnly (g.view old) (g.view x) (MayLeave p s call)) (sym same)
      (started (g.view old) (MayLeave p s call)
      (λ c image. record { place = p; is = recovered tells c image; may = inl refl }));
}

reaches_still : {D : Type 0} (g : Ghosts D) (old new : D) (asked : Asked) (told : Option Draws) (at : Seen) → new ≡ old
    → (g.tells → RecoversTo at.place (g.view old))
    → IfSome told (λ draws. IsCrashSafe g old new (RecoversWhere (LineReaches asked draws at)))
reaches_still g old new asked None at same recovered = tt
reaches_still {D} g old new asked (Some draws) at same recovered = record {
  told = λ tells.
      subst (λ (x : D). LeavesOnly (g.view old) (g.view x) (RecoversWhere (LineReaches asked draws at))) (sym same)
      (started (g.view old) (RecoversWhere (LineReaches asked draws at))
      (λ c image. record { place = at.place; is = recovered tells c image; reached = inl refl }));
}

made_told : Asked → Option Draws → Seen → List Place
made_told asked None at = []
made_told asked (Some draws) at = places_by asked draws at

made_so : (asked : Asked) (told : Option Draws) (at : Seen) → AreMade asked told at (made_told asked told at)
unfolding made_told
made_so asked None at = tt
made_so asked (Some draws) at = refl

pub safe_still : {D : Type 0} (g : Ghosts D) (old new : D) (asked : Asked) (told : Option Draws) (at : Seen) → new ≡ old
    → (g.tells → RecoversTo at.place (g.view old)) → IsLineSafe g old new asked told at
safe_still g old new asked told at same recovered = record {
  made = made_told asked told at;
  are = made_so asked told at;
  safe = crash_still g old new at.place (made_told asked told at) same recovered;
  reaches = reaches_still g old new asked told at same recovered;
}

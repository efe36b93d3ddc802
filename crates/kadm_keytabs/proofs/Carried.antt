-- What was judged and carried out, as an ask.
use Rattle.std.proofs.Common.{◌≡◌, ◌∙◌, ℕ, List, [], ◌∷◌, refl, ap, sym, subst, inl}
use Rattle.std.proofs.lemmas.Option.{same_Some}
use Rattle.std.specs.Prelude.{Option, Some, None, Ok, IfSome}
use Rattle.iprop_truths.specs.Parts.{end_of}
use Rattle.kadm_commands.specs.declared.replies.Reply.{Reply}
use Rattle.kadm_keytabs.specs.Renewals.{IsOpenAt}
use Rattle.kdb_base.specs.Moment.{Moment}
use Rattle.kdb_disk.specs.Files.{Files}
use Rattle.kdb_disk.specs.Frames.{IsCrashSafe}
use Rattle.kdb_disk.specs.Moments.{LeavesOnly}
use Rattle.kdb_disk.specs.declared.disk.Disk.{Ghosts}
use Rattle.kdb_disk.proofs.Runs.{started}
use Rattle.kdb_histories.specs.Asks.{Ask, clock_of}
use Rattle.kdb_histories.specs.Moves.{IsLeft}
use Rattle.kdb_histories.specs.Seen.{Seen, after_ask, changed, entry_point, made_at, seen}
use Rattle.kdb_histories.specs.Stages.{places}
use Rattle.kdb_places.specs.Places.{Place}
use Rattle.kdb_plain.specs.declared.states.State.{State}
use Rattle.primary_core.specs.Changes.{change_places}
use Rattle.primary_core.specs.Opened.{HasState, IsDecided, MayMake, Opened, made_for}
use Rattle.primary_core.specs.Opened.{masters_behind, masters_brought, place_of}
use Rattle.primary_core.specs.declared.decided.DecidedChange.{DecidedChange}
use Rattle.princ_rows.specs.declared.entries.Op.{Op}
use Rattle.session_base.specs.Draws.{bytes_of}
use Rattle.store_files.specs.Found.{recovers}
use Rattle.store_files.specs.Recovery.{LeavesPart, RecoversTo}

pub leaves_first : (p : Place) (places : List Place) (c : Files) → recovers c ≡ Ok p → LeavesPart p places c
unfolding LeavesPart
leaves_first p [] c is = is
leaves_first p (q ∷ places) c is = inl is

pub crash_still : {D : Type 0} (g : Ghosts D) (old new : D) (p : Place) (places : List Place) → new ≡ old
    → (g.tells → RecoversTo p (g.view old)) → IsCrashSafe g old new (LeavesPart p places)
crash_still {D} g old new p places same recovered = record {
  told = λ tells.
      subst (λ (x : D). LeavesOnly (g.view old) (g.view x) (LeavesPart p places)) (sym same)
      (started (g.view old) (LeavesPart p places) (λ c image. leaves_first p places c (recovered tells c image)));
}

-- the change that was judged may be made
pub may_make : (made other : DecidedChange) (o : Opened) (now : Moment) → MayMake o now made
    → ◌≡◌ {A = Option DecidedChange} (Some made) (Some other) → MayMake o now other
may_make made other o now may same = subst (λ (x : DecidedChange). MayMake o now x) (same_Some made other same) may

-- what is open stays where it is
pub stands_still : ((o : Opened) (ask : Ask) (reply : Reply) (s : State) → IsDecided o ask reply None → HasState o s
    → after_ask ask (seen (place_of o) s) ≡ seen (place_of o) s)
    → (o : Opened) (ask : Ask) (reply : Reply) (change : Option DecidedChange) (s : State) → change ≡ None
    → IsDecided o ask reply change → HasState o s
    → IsOpenAt o (after_ask ask (seen (place_of o) s))
stands_still keeps o ask reply change s none is has =
    subst (λ (at : Seen). IsOpenAt o at)
    (sym (keeps o ask reply s (subst (λ (x : Option DecidedChange). IsDecided o ask reply x) none is) has))
    (record { place_is = refl; shows = has })

-- the places of a change
pub places_are : ((ask : Ask) (op : Op) (p : Place) → places (changed ask op p) ≡ change_places (clock_of ask) op p)
    → (o : Opened) (ask : Ask) (reply : Reply) (change : Option DecidedChange) (made : DecidedChange) (s : State)
    (now : Moment) → clock_of ask ≡ now → change ≡ Some made → IsDecided o ask reply change → HasState o s
    → places (made_at ask (seen (place_of o) s)) ≡ change_places now made.op (place_of o)
places_are law o ask reply change made s now clock some is has =
    ap places (sym (is.performs s has).is)
    ∙ ap (λ (x : Option DecidedChange). places (made_for ask x (place_of o))) some
    ∙ law ask made.op (place_of o)
    ∙ ap (λ (m : Moment). change_places m made.op (place_of o)) clock

-- a crash leaves the place of before, or one of the change
pub crash_changing : {D : Type 0} (g : Ghosts D) (old new : D) (p : Place) (made others : List Place) → others ≡ made
    → IsCrashSafe g old new (LeavesPart p made) → IsCrashSafe g old new (LeavesPart p others)
crash_changing g old new p made others same safe =
    subst (λ (places : List Place). IsCrashSafe g old new (LeavesPart p places)) (sym same) safe

-- what is open has come to the change's place
pub stands_changed :
    ((o : Opened) (ask : Ask) (reply : Reply) (change : Option DecidedChange) (s : State)
    → IsDecided o ask reply change → HasState o s
    → (after_ask ask (seen (place_of o) s)).place ≡ end_of (place_of o) (places (made_for ask change (place_of o))))
    → ((ask : Ask) (op : Op) (p : Place) → places (changed ask op p) ≡ change_places (clock_of ask) op p)
    → (o new : Opened) (ask : Ask) (reply : Reply) (change : Option DecidedChange) (made : DecidedChange) (s : State)
    (now : Moment) → clock_of ask ≡ now → change ≡ Some made → IsDecided o ask reply change → HasState o s
    → place_of new ≡ end_of (place_of o) (change_places now made.op (place_of o))
    → HasState new (after_ask ask (seen (place_of o) s)).state
    → IsOpenAt new (after_ask ask (seen (place_of o) s))
stands_changed ends law o new ask reply change made s now clock some is has place shows = record {
  place_is =
      place
      ∙ ap (λ (m : Moment). end_of (place_of o) (change_places m made.op (place_of o))) (sym clock)
      ∙ ap (end_of (place_of o)) (sym (law ask made.op (place_of o)))
      ∙ ap (λ (x : Option DecidedChange). end_of (place_of o) (places (made_for ask x (place_of o)))) (sym some)
      ∙ sym (ends o ask reply change s is has);
  shows = shows;
}

-- it shows the state behind the change
pub shows_changed :
    ((o : Opened) (ask : Ask) (reply : Reply) (change : DecidedChange) (s : State) → IsDecided o ask reply (Some change)
    → HasState o s
    → IsLeft (place_of o).realm (entry_point (clock_of ask) change.op (place_of o)) change.op (place_of o).rows
    (after_ask ask (seen (place_of o) s)).state)
    → ((o : Opened) (ask : Ask) (reply : Reply) (change : Option DecidedChange) (s : State)
    → IsDecided o ask reply change → HasState o s
    → (after_ask ask (seen (place_of o) s)).state.masters ≡ masters_behind o (masters_brought change))
    → (o new : Opened) (ask : Ask) (reply : Reply) (change : Option DecidedChange) (made : DecidedChange) (s : State)
    (now : Moment) → clock_of ask ≡ now → change ≡ Some made → IsDecided o ask reply change → HasState o s
    → ((t : State) → IsLeft (place_of o).realm (entry_point now made.op (place_of o)) made.op (place_of o).rows t
    → t.masters ≡ masters_behind o made.masters → HasState new t)
    → HasState new (after_ask ask (seen (place_of o) s)).state
shows_changed leaves masters o new ask reply change made s now clock some is has shows =
    let t = (after_ask ask (seen (place_of o) s)).state in
    shows t
    (subst (λ (m : Moment). IsLeft (place_of o).realm (entry_point m made.op (place_of o)) made.op (place_of o).rows t)
    clock
    (leaves o ask reply made s (subst (λ (x : Option DecidedChange). IsDecided o ask reply x) some is) has))
    (masters o ask reply change s is has ∙ ap (λ (x : Option DecidedChange). masters_behind o (masters_brought x)) some)

pub bytes_seen : (stream : Option (ℕ → ℕ)) (drawn random : List ℕ) (n : ℕ) → random ≡ drawn
    → IfSome stream (λ f. drawn ≡ bytes_of n f) → IfSome stream (λ f. random ≡ bytes_of n f)
bytes_seen None drawn random n same is = tt
bytes_seen (Some f) drawn random n same is = same ∙ is

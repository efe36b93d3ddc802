-- What was found out, as a call of the primary that answers or stores.
use Rattle.std.proofs.Common.{◌≡◌, Option, Some, None, refl, sym, ap, subst, ◌∙◌}
use Rattle.iprop_truths.specs.Parts.{IsPart, end_of}
use Rattle.kdb_base.specs.Moment.{Moment}
use Rattle.kdb_disk.specs.Files.{Files}
use Rattle.kdb_histories.specs.Asks.{Answer, Ask, clock_of}
use Rattle.kdb_histories.specs.Calls.{Perform}
use Rattle.kdb_histories.specs.Leaving.{Does, MayReach}
use Rattle.kdb_histories.specs.Moves.{IsLeft}
use Rattle.kdb_histories.specs.Seen.{Seen, after_ask, entry_point, seen}
use Rattle.kdb_places.specs.Places.{Place}
use Rattle.kdb_plain.specs.declared.states.State.{State}
use Rattle.primary_core.specs.Changes.{change_places}
use Rattle.primary_core.proofs.Asking.{kept_so, left_so, mastered_so}
use Rattle.primary_core.proofs.Carried.{ask_does, ask_leaves, ask_reaches}
use Rattle.primary_core.specs.Deciding.{rows_changed}
use Rattle.primary_core.specs.Opened.{HasState, IsAnswered, MayLeave, Opened, place_of}
use Rattle.princ_rows.specs.declared.entries.Op.{Op}
use Rattle.store_files.specs.Recovery.{LeavesPart}

module _ (o : Opened) (ask : Ask) (answer : Answer) (s : State) (has : HasState o s) where
  -- nothing is made
  pub answers_does : IsAnswered o ask answer None → Does (place_of o) s (Perform ask) answer (place_of o)
  answers_does d = ask_does o ask answer None s (d.performs s has) (place_of o) refl

  pub answers_state : IsAnswered o ask answer None → HasState o (after_ask ask (seen (place_of o) s)).state
  answers_state d = subst (HasState o) (sym (ap (λ (x : Seen). x.state) (kept_so o ask answer s d has))) has

  -- a change is made
  module _ (clock : Moment) (op : Op) (at : clock_of ask ≡ clock)
      (d : IsAnswered o ask answer (Some (rows_changed op))) where
    pub stores_does : (q : Place) → q ≡ end_of (place_of o) (change_places clock op (place_of o))
        → Does (place_of o) s (Perform ask) answer q
    stores_does q is =
        ask_does o ask answer (Some (rows_changed op)) s (d.performs s has) q
        (is ∙ ap (λ (c : Moment). end_of (place_of o) (change_places c op (place_of o))) (sym at))

    pub stores_state : (new : Opened)
        → ((t : State) → IsLeft (place_of o).realm (entry_point clock op (place_of o)) op (place_of o).rows t
        → t.masters ≡ o.masters → HasState new t)
        → HasState new (after_ask ask (seen (place_of o) s)).state
    stores_state new made =
        made (after_ask ask (seen (place_of o) s)).state
        (subst (λ (c : Moment). IsLeft (place_of o).realm (entry_point c op (place_of o)) op (place_of o).rows
        (after_ask ask (seen (place_of o) s)).state) at
        (left_so o ask answer s (rows_changed op) d has))
        (mastered_so o ask answer s (Some (rows_changed op)) d has)

    pub stores_leaves : (c : Files) → LeavesPart (place_of o) (change_places clock op (place_of o)) c
        → MayLeave (place_of o) s (Perform ask) c
    stores_leaves c h =
        ask_leaves o ask answer (Some (rows_changed op)) s (d.performs s has) c
        (subst (λ (m : Moment). LeavesPart (place_of o) (change_places m op (place_of o)) c) (sym at) h)

    pub stores_reaches : (q : Place) → IsPart (place_of o) (change_places clock op (place_of o)) q
        → MayReach (place_of o) s (Perform ask) q
    stores_reaches q part =
        ask_reaches o ask answer (Some (rows_changed op)) s (d.performs s has) q
        (subst (λ (m : Moment). IsPart (place_of o) (change_places m op (place_of o)) q) (sym at) part)

-- ---- by what is answered

pub same_answer : (a b : Answer) → ◌≡◌ {A = Option Answer} (Some a) (Some b) → a ≡ b
same_answer a b e = cc

pub never_answered : (answer : Answer) → ◌≡◌ {A = Option Answer} None (Some answer) → ⊥
never_answered answer e = absurd cc

-- What was decided, as the ask comes to it.
use Rattle.std.proofs.Common.{◌≡◌, Bool, true, false, List, [], ◌∷◌, Option, Some, None, refl, sym, ap, subst, ◌∙◌}
use Rattle.std.specs.Prelude.{if◌then◌else◌}
use Rattle.iprop_truths.specs.Parts.{end_of}
use Rattle.kadm_commands.specs.declared.replies.Reply.{Reply}
use Rattle.kdb_histories.proofs.Changed.{made_anew, made_next}
use Rattle.kdb_histories.specs.Asks.{Answer, Ask, Replied, clock_of}
use Rattle.kdb_histories.specs.Calls.{Leads, Performs}
use Rattle.kdb_histories.specs.Moves.{IsLeft}
use Rattle.kdb_histories.specs.Seen.{Keep, Plan, Put, Write, after_ask, answer_at, changed}
use Rattle.kdb_histories.specs.Seen.{entry_point, is_due, made_by, outcome_at, plan_at, seen}
use Rattle.kdb_histories.specs.Stages.{Anew, Deed, Did, Filled, Stage, Stashed, places}
use Rattle.kdb_places.specs.Places.{Place}
use Rattle.kdb_plain.specs.declared.states.State.{State}
use Rattle.primary_core.specs.Opened.{HasState, IsAnswered, IsDecided, Opened, made_for}
use Rattle.primary_core.specs.Opened.{masters_behind, masters_brought, place_of}
use Rattle.primary_core.specs.declared.decided.DecidedChange.{DecidedChange}
use Rattle.princ_rows.specs.declared.entries.Op.{Op}

-- ---- which plan makes a change

abbrev op_in : Deed → Option Op
op_in (Filled state) = None
op_in (Did ask due point op) = Some op
op_in Anew = None
op_in Stashed = None

abbrev last_op : List Stage → Option Op
last_op [] = None
last_op (t ∷ []) = op_in t.deed
last_op (t ∷ u ∷ made) = last_op (u ∷ made)

abbrev planned_op : Plan → Option Op
planned_op Keep = None
planned_op (Put op) = Some op
planned_op (Write bytes) = None

changed_op : (ask : Ask) (op : Op) (p : Place) → last_op (changed ask op p) ≡ Some op
changed_op ask op p = by (is_due op p)
  where
    by : (due : Bool) → last_op (if due then made_anew ask op p else made_next ask op p) ≡ Some op
    by true = refl
    by false = refl

made_op : (ask : Ask) (plan : Plan) (p : Place) → last_op (made_by ask plan p) ≡ planned_op plan
made_op ask Keep p = refl
made_op ask (Put op) p = changed_op ask op p
made_op ask (Write bytes) p = refl

put_by : (plan : Plan) (op : Op) → planned_op plan ≡ Some op → plan ≡ Put op
put_by Keep op e = absurd cc
put_by (Put made) op e = cc
put_by (Write bytes) op e = absurd cc

is_put : (ask : Ask) (plan : Plan) (p : Place) (op : Op) → changed ask op p ≡ made_by ask plan p → plan ≡ Put op
is_put ask plan p op e = put_by plan op (sym (made_op ask plan p) ∙ ap last_op (sym e) ∙ changed_op ask op p)

is_kept : (ask : Ask) (plan : Plan) (p : Place) → [] ≡ made_by ask plan p → plan ≡ Keep
is_kept ask Keep p e = refl
is_kept ask (Put op) p e =
    let none : None ≡ Some op = ap last_op e ∙ changed_op ask op p in
    absurd cc
is_kept ask (Write bytes) p e = absurd cc

-- what is performed without a place leaves the state
pub stays : (p : Place) (s : State) (ask : Ask) (answer : Answer) → Performs p s ask answer []
    → (outcome_at ask (seen p s)).state ≡ s
stays p s ask answer h =
    let plan : plan_at ask (seen p s) ≡ Keep = is_kept ask (plan_at ask (seen p s)) p h.is in
    subst (Leads (clock_of ask) p s (outcome_at ask (seen p s)).state) plan h.leads

-- what is performed by a change leads to the state behind it
pub leads_on : (p : Place) (s : State) (ask : Ask) (answer : Answer) (op : Op)
    → Performs p s ask answer (changed ask op p)
    → IsLeft p.realm (entry_point (clock_of ask) op p) op p.rows (outcome_at ask (seen p s)).state
leads_on p s ask answer op h =
    let plan : plan_at ask (seen p s) ≡ Put op = is_put ask (plan_at ask (seen p s)) p op h.is in
    subst (Leads (clock_of ask) p s (outcome_at ask (seen p s)).state) plan h.leads

-- ---- what was answered

module _ (o : Opened) (ask : Ask) (answer : Answer) (s : State) where
  pub placed_so : (change : Option DecidedChange) → IsAnswered o ask answer change → HasState o s
      → (after_ask ask (seen (place_of o) s)).place ≡ end_of (place_of o) (places (made_for ask change (place_of o)))
  placed_so change d has = ap (λ (made : List Stage). end_of (place_of o) (places made)) (sym (d.performs s has).is)

  pub kept_so : IsAnswered o ask answer None → HasState o s → after_ask ask (seen (place_of o) s) ≡ seen (place_of o) s
  kept_so d has =
      let h = d.performs s has in
      let after = (outcome_at ask (seen (place_of o) s)).state in
      ap (λ (made : List Stage). seen (end_of (place_of o) (places made)) after) (sym h.is)
      ∙ ap (seen (place_of o)) (stays (place_of o) s ask answer h)

  pub left_so : (change : DecidedChange) → IsAnswered o ask answer (Some change) → HasState o s
      → IsLeft (place_of o).realm (entry_point (clock_of ask) change.op (place_of o)) change.op (place_of o).rows
      (after_ask ask (seen (place_of o) s)).state
  left_so change d has = leads_on (place_of o) s ask answer change.op (d.performs s has)

  pub mastered_so : (change : Option DecidedChange) → IsAnswered o ask answer change → HasState o s
      → (after_ask ask (seen (place_of o) s)).state.masters ≡ masters_behind o (masters_brought change)
  mastered_so change d has = d.masters s has

-- ---- what was decided

module _ (o : Opened) (ask : Ask) (reply : Reply) (s : State) where
  pub answered : (change : Option DecidedChange) → IsDecided o ask reply change → HasState o s
      → answer_at ask (seen (place_of o) s) ≡ Replied reply
  answered change d has = sym (d.performs s has).answers

  pub placed : (change : Option DecidedChange) → IsDecided o ask reply change → HasState o s
      → (after_ask ask (seen (place_of o) s)).place ≡ end_of (place_of o) (places (made_for ask change (place_of o)))
  placed change d has = placed_so o ask (Replied reply) s change d has

  pub kept : IsDecided o ask reply None → HasState o s → after_ask ask (seen (place_of o) s) ≡ seen (place_of o) s
  kept d has = kept_so o ask (Replied reply) s d has

  pub left : (change : DecidedChange) → IsDecided o ask reply (Some change) → HasState o s
      → IsLeft (place_of o).realm (entry_point (clock_of ask) change.op (place_of o)) change.op (place_of o).rows
      (after_ask ask (seen (place_of o) s)).state
  left change d has = left_so o ask (Replied reply) s change d has

  pub mastered : (change : Option DecidedChange) → IsDecided o ask reply change → HasState o s
      → (after_ask ask (seen (place_of o) s)).state.masters ≡ masters_behind o (masters_brought change)
  mastered change d has = mastered_so o ask (Replied reply) s change d has

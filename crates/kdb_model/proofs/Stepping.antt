-- Steps by their refusals and their changes.
use Rattle.std.proofs.Common.{◌≡◌, ℕ, ◌+◌, ◌<◌, ◌≤◌, Bool, true, false, List, [], ◌∷◌, ◌++◌}
use Rattle.std.proofs.Common.{Option, Some, None, refl, sym, ap, subst, ◌∙◌, ◌⊎◌, inl, inr}
use Rattle.std.specs.Option.{option_or}
use Rattle.kadm_commands.specs.declared.replies.Reply.TheVariants as reply
use Rattle.kdb_base.specs.Moments.{later_moment}
use Rattle.kdb_base.specs.declared.outcomes.Refusal.{Refusal}
use Rattle.kdb_model.specs.Calls.{Call, change_point, next_moment, point_after}
use Rattle.kdb_model.specs.Entries.{entry}
use Rattle.kdb_model.specs.Refusals.{causes_with, ended, first, refusal}
use Rattle.kdb_model.specs.Steps.{Outcome, Ran, answered, behind, committed, fold}
use Rattle.kdb_model.specs.Steps.{performed, reading, step, unless_refused}
use Rattle.kdb_plain.specs.Changes.{effect_on}
use Rattle.kdb_plain.specs.declared.changes.PlainOp.{PlainOp}
use Rattle.kdb_plain.specs.declared.changes.PlainOp.TheVariants.{PutPrinc, DropPrinc, Rename}
use Rattle.kdb_plain.specs.declared.changes.PlainOp.TheVariants.{PutPolicy, DropPolicy, PutMasters}
use Rattle.kdb_plain.specs.declared.states.State.{State}

pub truth : (b : Bool) → (b ≡ true) ⊎ (b ≡ false)
truth true = inl refl
truth false = inr refl

pub either_way : {A : Type 0} (o : Option A) → ((x : A) × (o ≡ Some x)) ⊎ (o ≡ None)
either_way None = inr refl
either_way (Some x) = inl (x, refl)

pub step_refused : (s : State) (call : Call) (why : Refusal) → refusal s call ≡ Some why
    → step s call ≡ answered s (reply.Refused why)
unfolding step unless_refused
step_refused s call why e = rw e refl

pub step_reads : (s : State) (call : Call) → refusal s call ≡ None → entry s call ≡ None
    → step s call ≡ answered s (reading s call)
unfolding step unless_refused performed
step_reads s call accepted e = rw (accepted, e) refl

pub step_commits : (s : State) (call : Call) (op : PlainOp) → refusal s call ≡ None → entry s call ≡ Some op
    → step s call ≡ committed s call op
unfolding step unless_refused performed
step_commits s call op accepted e = rw (accepted, e) refl

pub step_keeps : (s : State) (call : Call) → entry s call ≡ None → (step s call).state ≡ s
step_keeps s call e = elim (either_way (refusal s call)) [
  | inl refused ↦ ap (λ (o : Outcome). o.state) (step_refused s call refused.0 refused.1)
  | inr accepted ↦ ap (λ (o : Outcome). o.state) (step_reads s call accepted e)
]

effect_realm : (op : PlainOp) (s : State) → (effect_on op s).realm ≡ s.realm
unfolding effect_on
effect_realm (PutPrinc q) s = refl
effect_realm (DropPrinc name) s = refl
effect_realm (Rename old q) s = refl
effect_realm (PutPolicy p) s = refl
effect_realm (DropPolicy name) s = refl
effect_realm (PutMasters q masters activations) s = refl

pub step_realm : (s : State) (call : Call) → (step s call).state.realm ≡ s.realm
step_realm s call = elim (either_way (refusal s call)) [
  | inl refused ↦ ap (λ (o : Outcome). o.state.realm) (step_refused s call refused.0 refused.1)
  | inr accepted ↦
      elim (either_way (entry s call)) [
        | inl change ↦ ap (λ (o : Outcome). o.state.realm) (step_commits s call change.0 accepted change.1)
            ∙ effect_realm change.0 s
        | inr none ↦ ap (λ (o : Outcome). o.state.realm) (step_reads s call accepted none)
      ]
]

pub point_next : (s : State) (call : Call) → call.due ≡ false
    → change_point s call ≡ record { sno = s.point.sno + 1; time = later_moment s.point.time call.moment }
unfolding point_after
point_next s call due = rw due refl

pub point_anew : (s : State) (call : Call) → call.due ≡ true
    → change_point s call ≡ record { sno = 2; time = later_moment call.moment (next_moment s.point.time) }
unfolding point_after
point_anew s call due = rw due refl

-- ---- causes

pub first_last : (causes : List (Option Refusal)) (last : Option Refusal)
    → first (causes ++ last ∷ []) ≡ option_or (first causes) last
unfolding first
first_last [] None = refl
first_last [] (Some r) = refl
first_last (None ∷ causes) last = first_last causes last
first_last (Some r ∷ causes) last = refl

-- the end of time is the last cause
pub refusal_split : (s : State) (call : Call)
    → refusal s call ≡ option_or (first (causes_with s call (entry s call))) (ended s call (entry s call))
unfolding refusal
refusal_split s call = first_last (causes_with s call (entry s call)) (ended s call (entry s call))

or_none : (a b : Option Refusal) → option_or a b ≡ None → (a ≡ None) × (b ≡ None)
or_none None b e = (refl, e)
or_none (Some r) b e = absurd cc

pub accepted_parts : (s : State) (call : Call) → refusal s call ≡ None
    → (first (causes_with s call (entry s call)) ≡ None) × (ended s call (entry s call) ≡ None)
accepted_parts s call e =
    or_none (first (causes_with s call (entry s call))) (ended s call (entry s call)) (sym (refusal_split s call) ∙ e)

-- ---- lists of commands

abbrev pub joined : Ran → Ran → Ran
joined a b = record { replies = a.replies ++ b.replies; state = b.state }

pub fold_joins : (s : State) (calls others : List Call)
    → fold s (calls ++ others) ≡ joined (fold s calls) (fold (fold s calls).state others)
unfolding fold
fold_joins s [] others = refl
fold_joins s (call ∷ calls) others = ap (behind (step s call).reply) (fold_joins (step s call).state calls others)

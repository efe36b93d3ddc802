-- Why a log begins anew.
use Rattle.std.proofs.Common.{◌≡◌, ◌≢◌, ℕ, ◌⊎◌, inl, inr, Bool, true, false, ◌&&◌, List}
use Rattle.std.proofs.Common.{[], ◌∷◌, Option, Some, None, refl, sym, ◌∙◌, subst}
use Rattle.std.specs.Prelude.{nat_eq, if◌then◌else◌}
use Rattle.std.proofs.lemmas.Bool.{eq-eqb, true≢false}
use Rattle.std.proofs.lemmas.List.Elements.{All-cons, All-nil}
use Rattle.std.specs.List.{All}
use Rattle.kdb_base.specs.Moment.{Moment}
use Rattle.kdb_histories.proofs.Changed.{made_anew, made_due, made_next}
use Rattle.kdb_histories.specs.Asks.{Answer, Ask, clock_of}
use Rattle.kdb_histories.specs.Calls.{Call, Perform, Stash, ResetLog, Load, Open, CallMakes, ResetCause, size_or}
use Rattle.kdb_histories.specs.Seen.{Keep, Plan, Put, Write, did, is_due, made_by, moment_at}
use Rattle.kdb_histories.specs.Seen.{plan_at, reset_for, reset_point, seen, stash_of}
use Rattle.kdb_histories.specs.Stages.{Anew, Filled, Stage, Stashed, stage}
use Rattle.kdb_places.specs.Places.{Place, committed, log_anew, replaced, restashed}
use Rattle.kdb_plain.specs.declared.states.State.{State}
use Rattle.princ_rows.specs.declared.entries.Op.{Op}

-- each stage that begins the log anew has this cause
abbrev AreCaused : Type 0 → List Stage → Type 0
AreCaused Cause made = All (λ (t : Stage). t.deed ≡ Anew → Cause) made

none_made : (Cause : Type 0) → AreCaused Cause []
none_made Cause = All-nil (λ (t : Stage). t.deed ≡ Anew → Cause)

one_made : (Cause : Type 0) (t : Stage) → (t.deed ≡ Anew → Cause) → AreCaused Cause (t ∷ [])
one_made Cause t cause = All-cons (λ (u : Stage). u.deed ≡ Anew → Cause) t [] cause (none_made Cause)

changed_cause : (Cause : Type 0) (ask : Ask) (op : Op) (p : Place) (due : Bool) → (due ≡ true → Cause)
    → AreCaused Cause (if due then made_anew ask op p else made_next ask op p)
changed_cause Cause ask op p true cause =
    All-cons (λ (u : Stage). u.deed ≡ Anew → Cause) (stage (reset_for (clock_of ask) op p) Anew)
    (made_due ask op p ∷ []) (λ e. cause refl)
    (one_made Cause (made_due ask op p) (λ e. cause refl))
changed_cause Cause ask op p false cause =
    one_made Cause (did ask false op p (committed op (moment_at (clock_of ask) p) p)) (λ e. absurd cc)

opened_cause : (p : Place) (size : Option ℕ) (room : ℕ) (clock : Moment) (made : List Stage) (same : Bool)
    → (nat_eq p.format 2 && nat_eq (size_or size p) p.size) ≡ same
    → AreCaused (ResetCause p (Open size room clock) made)
    (if same then [] else stage (log_anew (reset_point clock p) (size_or size p) p.block p) Anew ∷ [])
opened_cause p size room clock made true is = none_made (ResetCause p (Open size room clock) made)
opened_cause p size room clock made false is =
    one_made (ResetCause p (Open size room clock) made)
    (stage (log_anew (reset_point clock p) (size_or size p) p.block p) Anew)
    (λ e. why size (nat_eq p.format 2) refl is)
  where
    why : (given : Option ℕ) (newer : Bool) → nat_eq p.format 2 ≡ newer
        → (newer && nat_eq (size_or given p) p.size) ≡ false
        → (p.format ≢ 2) ⊎ ((n : ℕ) × (given ≡ Some n) × (n ≢ p.size))
    why given false old is = inl (λ e. true≢false (sym (eq-eqb p.format 2 e) ∙ old))
    why None true old is = absurd (true≢false (sym (eq-eqb p.size p.size refl) ∙ is))
    why (Some n) true old is = inr (n, refl, λ e. true≢false (sym (eq-eqb n p.size e) ∙ is))

pub caused : (p : Place) (s : State) (call : Call) (answer : Answer) (made : List Stage)
    → CallMakes p s call answer made
    → AreCaused (ResetCause p call made) made
caused p s (Perform ask) answer made h =
    subst (AreCaused (ResetCause p (Perform ask) made)) (sym h.is) (by_plan (plan_at ask (seen p s)) h.is)
  where
    by_plan : (plan : Plan) → made ≡ made_by ask plan p
        → AreCaused (ResetCause p (Perform ask) made) (made_by ask plan p)
    by_plan Keep is = none_made (ResetCause p (Perform ask) made)
    by_plan (Put op) is = changed_cause (ResetCause p (Perform ask) made) ask op p (is_due op p) (λ due. (op, is, due))
    by_plan (Write bytes) is =
        one_made (ResetCause p (Perform ask) made) (stage (restashed bytes p) Stashed) (λ e. absurd cc)
caused p s (Stash clock) answer made h =
    subst (AreCaused ⊥) (sym h.is)
    (one_made ⊥ (stage (restashed (stash_of s (moment_at clock p)) p) Stashed) (λ e. absurd cc))
caused p s (ResetLog clock) answer made h =
    subst (AreCaused (Unit {0})) (sym h.is)
    (one_made (Unit {0}) (stage (log_anew (reset_point clock p) p.size p.block p) Anew) (λ e. tt))
caused p s (Load rows clock) answer made h =
    subst (AreCaused ⊥) (sym h.is)
    (one_made ⊥ (stage (replaced p.realm rows (reset_point clock p) p) (Filled h.state)) (λ e. absurd cc))
caused p s (Open size room clock) answer made h =
    subst (AreCaused (ResetCause p (Open size room clock) made)) (sym h.is)
    (opened_cause p size room clock made (nat_eq p.format 2 && nat_eq (size_or size p) p.size) refl)

-- An ask by its outcome: what is kept, made or written, as what a primary performs.
use Rattle.std.proofs.Common.{◌≡◌, [], ◌∷◌, Option, Some, sym, ap, subst, ◌∙◌}
use Rattle.kdb_histories.specs.Asks.{Answer, Ask, Enters, Outcome, Stashes, clock_of, entered, kept, kept_op, outcome}
use Rattle.kdb_histories.specs.Calls.{IsFit, Leads, MayBeFit, Performs}
use Rattle.kdb_histories.specs.Seen.{Keep, Plan, Put, Write, changed, due_at, made_by}
use Rattle.kdb_histories.specs.Seen.{moment_at, plan_at, planned, seen, stash_of}
use Rattle.kdb_histories.specs.Stages.{Stashed, stage}
use Rattle.kdb_places.specs.Places.{Place, restashed}
use Rattle.kdb_plain.specs.declared.states.State.{State}
use Rattle.princ_rows.specs.declared.entries.Op.{Op}

-- nothing is made
pub ask_keeps : (p : Place) (s : State) (ask : Ask) (answer : Answer)
    → outcome p.rows ask (due_at ask (seen p s)) s ≡ kept s answer → Performs p s ask answer []
ask_keeps p s ask answer e =
    let plan : plan_at ask (seen p s) ≡ Keep =
    ap (λ (o : Outcome). planned o.kind (kept_op p.rows s ask) (stash_of s (moment_at (clock_of ask) p))) e in
    record {
      answers = sym (ap (λ (o : Outcome). o.answer) e);
      leads = subst (λ (x : Plan). Leads (clock_of ask) p s (outcome p.rows ask (due_at ask (seen p s)) s).state x)
          (sym plan) (ap (λ (o : Outcome). o.state) e);
      fit = subst (MayBeFit p) (sym plan) tt;
      is = sym (ap (λ (x : Plan). made_by ask x p) plan);
    }

-- a change
pub ask_puts : (p : Place) (s : State) (ask : Ask) (answer : Answer) (op : Op) (after : State)
    → outcome p.rows ask (due_at ask (seen p s)) s ≡ entered after answer
    → kept_op p.rows s ask ≡ Some op → Leads (clock_of ask) p s after (Put op) → IsFit p op
    → Performs p s ask answer (changed ask op p)
ask_puts p s ask answer op after e is leads fit =
    let kind : plan_at ask (seen p s)
    ≡ planned Enters (kept_op p.rows s ask) (stash_of s (moment_at (clock_of ask) p)) =
    ap (λ (o : Outcome). planned o.kind (kept_op p.rows s ask) (stash_of s (moment_at (clock_of ask) p))) e in
    let plan : plan_at ask (seen p s) ≡ Put op =
    kind ∙ ap (λ (o : Option Op). planned Enters o (stash_of s (moment_at (clock_of ask) p))) is in
    record {
      answers = sym (ap (λ (o : Outcome). o.answer) e);
      leads = subst (λ (x : Plan). Leads (clock_of ask) p s (outcome p.rows ask (due_at ask (seen p s)) s).state x)
          (sym plan)
          (subst (λ (x : State). Leads (clock_of ask) p s x (Put op)) (sym (ap (λ (o : Outcome). o.state) e)) leads);
      fit = subst (MayBeFit p) (sym plan) fit;
      is = sym (ap (λ (x : Plan). made_by ask x p) plan);
    }

-- what is made is the stash
pub ask_writes : (p : Place) (s : State) (ask : Ask) (answer : Answer)
    → outcome p.rows ask (due_at ask (seen p s)) s ≡ record { state = s; answer = answer; kind = Stashes }
    → Performs p s ask answer (stage (restashed (stash_of s (moment_at (clock_of ask) p)) p) Stashed ∷ [])
ask_writes p s ask answer e =
    let plan : plan_at ask (seen p s) ≡ Write (stash_of s (moment_at (clock_of ask) p)) =
    ap (λ (o : Outcome). planned o.kind (kept_op p.rows s ask) (stash_of s (moment_at (clock_of ask) p))) e in
    record {
      answers = sym (ap (λ (o : Outcome). o.answer) e);
      leads = subst (λ (x : Plan). Leads (clock_of ask) p s (outcome p.rows ask (due_at ask (seen p s)) s).state x)
          (sym plan) (ap (λ (o : Outcome). o.state) e);
      fit = subst (MayBeFit p) (sym plan) tt;
      is = sym (ap (λ (x : Plan). made_by ask x p) plan);
    }

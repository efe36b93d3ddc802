-- What rows that show a state tell of it, and how a plan is put together.
use Rattle.std.proofs.Common.{◌≡◌, ℕ, false, List, Option, Some, None, refl, sym, ap, subst, ◌∙◌}
use Rattle.std.specs.Prelude.{Ok, Err, is_none, option_map}
use Rattle.acl_text.specs.declared.rules.AclLine.{AclLine}
use Rattle.kadm_commands.specs.declared.commands.Command.{Command}
use Rattle.kadm_commands.specs.declared.replies.Reply.{Reply}
use Rattle.command_plans.specs.Causes.{is_locked_record}
use Rattle.command_plans.specs.Given.{IsAnswer, IsApplied, IsChange, IsGiven, IsJudged}
use Rattle.command_plans.specs.KeptEntries.{kept_entry}
use Rattle.command_plans.specs.declared.given.Given.{Given}
use Rattle.command_plans.specs.declared.planned.Planned.TheVariants.{Answer, Change}
use Rattle.kdb_base.specs.Key.{Key}
use Rattle.kdb_base.specs.Moment.{Moment}
use Rattle.kdb_base.specs.declared.outcomes.Refusal.{Refusal}
use Rattle.kdb_base.specs.declared.versions.Master.{Master}
use Rattle.kdb_model.specs.Calls.{Call, call_of}
use Rattle.kdb_model.specs.Entries.{entry}
use Rattle.kdb_model.specs.Fields.{has_bit, lockdown_keys}
use Rattle.kdb_model.specs.Refusals.{first, is_locked, refusal}
use Rattle.kdb_model.specs.Steps.{reading}
use Rattle.kdb_plain.specs.States.{history_key, princ_named}
use Rattle.kdb_plain.specs.declared.changes.PlainOp.{PlainOp}
use Rattle.kdb_plain.specs.declared.princs.PlainPrinc.{PlainPrinc}
use Rattle.kdb_plain.specs.declared.states.State.{State}
use Rattle.princ_rows.specs.declared.entries.Op.{Op}
use Rattle.princ_record.specs.declared.princs.Princ.{Princ}
use Rattle.princ_rows.specs.Rows.{RowLists}
use Rattle.row_keys.proofs.Names.{found_alike}
use Rattle.row_keys.specs.Lookups.{record_named}
use Rattle.row_keys.specs.ShownChanges.{ShowsOp}
use Rattle.row_keys.specs.Shows.{ShowsPrinc}
use Rattle.row_keys.specs.Sides.{AreBoth}

-- ---- the call that a command stands for

abbrev pub access_of : Given → Option (List AclLine)
access_of g = option_map (λ acl. acl.now) g.acl

abbrev pub told_at : Given → Command → Moment → Call
told_at g cmd clock = call_of g.client.now (access_of g) cmd clock g.random.now false

-- the whole list of causes comes to these, in whatever state the rows show
abbrev pub ComesTo : Given → Command → List (Option Refusal) → Type 0
ComesTo g cmd causes = (s : State) (call : Call) → IsGiven g cmd s call → refusal s call ≡ first causes

pub comes : (g : Given) (cmd : Command) (causes : List (Option Refusal))
    → ((s : State) (call : Call) (given : IsGiven g cmd s call)
    → refusal s (told_at g cmd given.called.clock) ≡ first causes) → ComesTo g cmd causes
comes g cmd causes each s call given = ap (refusal s) given.called.call_is ∙ each s call given

-- ---- plans

-- the call makes an entry that this change shows, and the change is the one that is kept
pub record MakesChange (rows : RowLists) (s : State) (call : Call) (op : Op) : Type 0 where
  pub plain : PlainOp
  pub entry_is : entry s call ≡ Some plain
  pub shown : (history : Key) → history_key s.realm s.princs ≡ Some history → ShowsOp s.masters history op plain
  pub exact : kept_entry rows s call ≡ Some op

module _ (g : Given) (cmd : Command) (causes : List (Option Refusal)) (to : ComesTo g cmd causes)
    (found : Option Refusal) (found_is : found ≡ first causes) where
  pub refused : (why : Refusal) → found ≡ Some why → IsJudged g cmd (Err why)
  refused why is = record { plan_is = λ s call given. to s call given ∙ sym found_is ∙ is; applies = tt }

  pub answered : (reply : Reply) → found ≡ None
      → ((s : State) (call : Call) (given : IsGiven g cmd s call)
      → (entry s (told_at g cmd given.called.clock) ≡ None) × (reply ≡ reading s (told_at g cmd given.called.clock)))
      → IsJudged g cmd (Ok (Answer reply))
  answered reply none each = record {
    plan_is = λ s call given. subst (λ (c : Call). IsAnswer s c reply) (sym given.called.call_is) (record {
      accepted = ap (refusal s) (sym given.called.call_is) ∙ to s call given ∙ sym found_is ∙ none;
      no_entry = (each s call given).0;
      reply_is = (each s call given).1;
    });
    applies = tt;
  }

  pub changed : (op : Op) → found ≡ None → IsApplied g.rows.now op
      → ((s : State) (call : Call) (given : IsGiven g cmd s call)
      → MakesChange g.rows.now s (told_at g cmd given.called.clock) op)
      → IsJudged g cmd (Ok (Change op))
  changed op none applies each = record {
    plan_is = λ s call given. subst (λ (c : Call). IsChange g.rows.now s c op) (sym given.called.call_is) (record {
      accepted = ap (refusal s) (sym given.called.call_is) ∙ to s call given ∙ sym found_is ∙ none;
      plain = (each s call given).plain;
      entry_is = (each s call given).entry_is;
      shown = (each s call given).shown;
      exact = (each s call given).exact;
    });
    applies = applies;
  }

-- ---- what is found by a name

module _ (g : Given) (cmd : Command) (s : State) (call : Call) (given : IsGiven g cmd s call) where
  pub found_both : (name text : List ℕ) (found : Option Princ) → text ≡ name
      → found ≡ record_named text g.rows.now.princs
      → AreBoth (ShowsPrinc s.masters given.seen.shows.history) found (princ_named name s.princs)
  found_both name text found same is =
      subst (λ (o : Option Princ). AreBoth (ShowsPrinc s.masters given.seen.shows.history) o
      (princ_named name s.princs)) (sym (is ∙ ap (λ (n : List ℕ). record_named n g.rows.now.princs) same))
      (found_alike s.masters given.seen.shows.history g.rows.now.princs s.princs given.seen.shows.princs name)

module _ (masters : List Master) (history : Key) where
  pub absent_alike : (p : Option Princ) (q : Option PlainPrinc) → AreBoth (ShowsPrinc masters history) p q
      → is_none p ≡ is_none q
  absent_alike None None h = refl
  absent_alike (Some p) (Some q) h = refl
  absent_alike None (Some q) h = absurd h
  absent_alike (Some p) None h = absurd h

  pub locked_alike : (p : Option Princ) (q : Option PlainPrinc) → AreBoth (ShowsPrinc masters history) p q
      → is_locked_record p ≡ is_locked q
  locked_alike None None h = refl
  locked_alike (Some p) (Some q) h = ap (λ (x : Princ). has_bit lockdown_keys x.attributes) h.under.fields
  locked_alike None (Some q) h = absurd h
  locked_alike (Some p) None h = absurd h

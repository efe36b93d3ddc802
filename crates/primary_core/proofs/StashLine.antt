-- The command that writes the stash, as what a primary performs.
use Rattle.std.proofs.Common.{◌≡◌, ℕ, Bool, false, List, [], ◌∷◌, Option, Some}
use Rattle.std.proofs.Common.{None, Result, Ok, Err, refl, sym, ap, subst, ◌∙◌}
use Rattle.std.specs.Prelude.{IfOk}
use Rattle.acl_text.specs.declared.rules.AclLine.{AclLine}
use Rattle.command_plans.specs.Causes.{denial_of}
use Rattle.kadm_commands.specs.declared.commands.Command.TheVariants as command
use Rattle.kadm_commands.specs.declared.replies.Reply.{Reply}
use Rattle.kadm_commands.specs.declared.replies.Reply.TheVariants as reply
use Rattle.kdb_base.specs.Moment.{Moment}
use Rattle.kdb_base.specs.declared.outcomes.Halt.{Halt}
use Rattle.kdb_base.specs.declared.outcomes.Refusal.{Refusal}
use Rattle.kdb_base.specs.declared.outcomes.Stop.{Stop}
use Rattle.kdb_base.specs.declared.outcomes.Stop.TheVariants as stop
use Rattle.kdb_base.specs.declared.versions.Master.{Master}
use Rattle.kdb_histories.specs.Asks.{Ask, Outcome, Replied, Stashes, commanded, kept, kind_of, outcome}
use Rattle.kdb_histories.specs.Calls.{Perform, Performs}
use Rattle.kdb_histories.specs.Leaving.{Does}
use Rattle.kdb_histories.specs.Seen.{due_at, moment_at, seen, stash_of}
use Rattle.kdb_histories.specs.Stages.{Stashed, stage}
use Rattle.kdb_model.specs.Access.{asking, asks, denied_in, master_parts, setting}
use Rattle.kdb_model.specs.Calls.{Call, call_of}
use Rattle.kdb_model.specs.Entries.{entry_of}
use Rattle.kdb_model.specs.Laws.{told}
use Rattle.kdb_model.specs.Refusals.{bytes_put, causes_with, first, refusal, target}
use Rattle.kdb_model.specs.Steps as steps
use Rattle.kdb_model.specs.Steps.{performed, reading_of, step, unless_refused}
use Rattle.kdb_places.specs.Places.{restashed}
use Rattle.kdb_plain.specs.declared.states.State.{State}
use Rattle.primary_core.proofs.Begun.{not_closed}
use Rattle.primary_core.proofs.Called.{call_does}
use Rattle.primary_core.proofs.Performed.{ask_keeps, ask_writes}
use Rattle.primary_core.specs.Opened.{HasState, Opened, command_ask, place_of}
use Rattle.primary_core.specs.Refusing.{names_refused, restashed_at, setting_denied}
use Rattle.princ_name.specs.Names.{NameParts}
use Rattle.stash_file.specs.Written.{stash_text}

only_second : (x : Option Refusal) (others : List (Option Refusal)) → first others ≡ None
    → first (None ∷ x ∷ others) ≡ x
unfolding first
only_second None others e = e
only_second (Some why) others e = refl

-- the access list alone refuses it
stash_refusal : (s : State) (client : NameParts) (access : Option (List AclLine)) (clock : Moment)
    (random : List ℕ) (due : Bool)
    → refusal s (told due (call_of client access command.Stash clock random false))
    ≡ denial_of access client (asking setting (master_parts s.realm) ∷ [])
unfolding refusal causes_with entry_of bytes_put target asks first
stash_refusal s client None clock random due = refl
stash_refusal s client (Some lines) clock random due =
    only_second (denied_in lines client (asking setting (master_parts s.realm) ∷ [])) _ refl

-- what it comes to
abbrev stash_outcome : State → Option Refusal → Outcome
stash_outcome s None = record { state = s; answer = Replied reply.Stashed; kind = Stashes }
stash_outcome s (Some why) = kept s (Replied (reply.Refused why))

module _ (s : State) (client : NameParts) (access : Option (List AclLine)) (clock : Moment) (random : List ℕ) where
  abbrev call : Call
  call = call_of client access command.Stash clock random false

  step_by : (due : Bool) (why : Option Refusal) → refusal s (told due call) ≡ why
      → step s (told due call) ≡ unless_refused s (told due call) why
  unfolding step
  step_by due why e = ap (unless_refused s (told due call)) e

  with_step : (due : Bool) (why : Option Refusal) → refusal s (told due call) ≡ why
      → commanded call due s ≡ record {
        state = (unless_refused s (told due call) why).state;
        answer = Replied (unless_refused s (told due call) why).reply;
        kind = kind_of s call why;
      }
  unfolding commanded
  with_step due why e =
      ap (λ (o : steps.Outcome). let made : Outcome = record {
        state = o.state;
        answer = Replied o.reply;
        kind = kind_of s call (refusal s (told due call));
      } in made) (step_by due why e)
      ∙ ap (λ (x : Option Refusal). let made : Outcome = record {
        state = (unless_refused s (told due call) why).state;
        answer = Replied (unless_refused s (told due call) why).reply;
        kind = kind_of s call x;
      } in made) e

  -- by the refusal
  outcome_from : (due : Bool) (why : Option Refusal) → refusal s (told due call) ≡ why
      → commanded call due s ≡ stash_outcome s why
  unfolding unless_refused performed reading_of kind_of entry_of
  outcome_from due None e = with_step due None e
  outcome_from due (Some why) e = with_step due (Some why) e

module _ (o : Opened) (s : State) (has : HasState o s) (client : NameParts) (access : Option (List AclLine))
    (clock : Moment) (random : List ℕ) where
  abbrev ask : Ask
  ask = command_ask client access command.Stash clock random

  denied_is : (why : Option Refusal) → setting_denied o client access ≡ why → (due : Bool)
      → refusal s (told due (call s client access clock random)) ≡ why
  denied_is why e due =
      stash_refusal s client access clock random due
      ∙ ap (λ (realm : List ℕ). denial_of access client (asking setting (master_parts realm) ∷ [])) has.shows.realm ∙ e

  pub line_refused : (why : Refusal) → setting_denied o client access ≡ Some why
      → Performs (place_of o) s ask (Replied (reply.Refused why)) []
  unfolding outcome
  line_refused why e =
      ask_keeps (place_of o) s ask (Replied (reply.Refused why))
      (outcome_from s client access clock random (due_at ask (seen (place_of o) s)) (Some why)
      (denied_is (Some why) e (due_at ask (seen (place_of o) s))))

  pub line_writes : setting_denied o client access ≡ None
      → Performs (place_of o) s ask (Replied reply.Stashed) (stage (restashed_at clock o) Stashed ∷ [])
  unfolding outcome
  line_writes e =
      let made = ask_writes (place_of o) s ask (Replied reply.Stashed)
      (outcome_from s client access clock random (due_at ask (seen (place_of o) s)) None
      (denied_is None e (due_at ask (seen (place_of o) s)))) in
      let bytes : stash_of s (moment_at clock (place_of o))
      ≡ stash_text o.kept.realm (moment_at clock (place_of o)).secs o.masters =
      ap (λ (realm : List ℕ). stash_text realm (moment_at clock (place_of o)).secs s.masters) has.shows.realm
      ∙ ap (λ (masters : List Master). stash_text o.kept.realm (moment_at clock (place_of o)).secs masters)
      has.masters_are in
      subst (λ (text : List ℕ).
      Performs (place_of o) s ask (Replied reply.Stashed) (stage (restashed text (place_of o)) Stashed ∷ [])) bytes made

-- a client that is not admitted is told so, and nothing is made
pub told_does : (A : Type 0) (o : Opened) (s : State) (has : HasState o s) (client : NameParts)
    (access : Option (List AclLine)) (clock : Moment) (random : List ℕ)
    (r : Result A Stop) (stopped : Stop) (out : Result Reply Halt) → o.kept.broken ≡ false → r ≡ Err stopped
    → ((why : Refusal) → stopped ≡ stop.Refused why → out ≡ Ok (reply.Refused why))
    → ((halt : Halt) → stopped ≡ stop.Halt halt → out ≡ Err halt)
    → ((why : Refusal) → r ≡ Err (stop.Refused why) → names_refused o client access ≡ Some why)
    → IfOk out (λ x.
    Does (place_of o) s (Perform (command_ask client access command.Stash clock random)) (Replied x) (place_of o))
told_does A o s has client access clock random r (stop.Refused why) out whole is refused halted told =
    subst (λ (y : Result Reply Halt). IfOk y (λ x. Does (place_of o) s
    (Perform (command_ask client access command.Stash clock random)) (Replied x) (place_of o))) (sym (refused why refl))
    (call_does (place_of o) s (Perform (command_ask client access command.Stash clock random))
    (Replied (reply.Refused why)) []
    (line_refused o s has client access clock random why
    (sym (not_closed o (setting_denied o client access) whole) ∙ told why is)) (place_of o) refl)
told_does A o s has client access clock random r (stop.Halt halt) out whole is refused halted told =
    subst (λ (y : Result Reply Halt). IfOk y
    (λ x. Does (place_of o) s (Perform (command_ask client access command.Stash clock random)) (Replied x)
    (place_of o))) (sym (halted halt refl)) tt

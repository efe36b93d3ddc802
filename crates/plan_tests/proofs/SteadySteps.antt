-- A step of a steady state leaves a steady one.
use Rattle.std.proofs.Common.{◌≡◌, ℕ, ◌<◌, List, Option, Result, Ok, Err, refl, sym, subst}
use Rattle.std.specs.Prelude.{IfOk, false, length}
use Rattle.acl_text.specs.declared.rules.AclLine.{AclLine}
use Rattle.kadm_commands.specs.Commands.{IsCommand}
use Rattle.kadm_commands.specs.declared.commands.Command.{Command}
use Rattle.kadm_commands.specs.declared.replies.Reply.{Reply}
use Rattle.kdb_base.specs.Moment.{Moment}
use Rattle.kdb_base.specs.declared.outcomes.MemoryOut.{MemoryOut}
use Rattle.kdb_model.specs.Calls.{Call, call_of}
use Rattle.kdb_model.specs.Laws.{IsMoment, IsPoint, IsStep}
use Rattle.kdb_model.specs.Steps.{step}
use Rattle.kdb_plain.specs.States.{IsValidState}
use Rattle.kdb_plain.specs.declared.states.State.{State}
use Rattle.plan_tests.specs.Steady.{IsSteady}
use Rattle.princ_name.specs.Names.{IsName, NameParts, printed}
use Rattle.princ_name.specs.Printed.{IsPrinted}

-- what the law of steps says
abbrev KeepsValid : Type 0
KeepsValid = (s : State) (call : Call) → IsStep s call → IsValidState (step s call).state

abbrev KeepsPoints : Type 0
KeepsPoints = (s : State) (call : Call) → IsStep s call → IsPoint (step s call).state.point

-- the state behind the command of whoever has this printed name
abbrev IsBehind : State → List ℕ → Option (List AclLine) → Command → Moment → List ℕ → State → Type 0
IsBehind s text access command moment random next =
    (who : NameParts) → IsName who → printed who ≡ text
    → next ≡ (step s (call_of who access command moment random false)).state

pub step_steady : (s : State) (text : List ℕ) (access : Option (List AclLine)) (command : Command) (moment : Moment)
    (random : List ℕ) (next : State)
    → KeepsValid → KeepsPoints → IsPrinted text → IsSteady s → s.point.sno < 4294967295 → IsCommand s.realm command
    → IsMoment moment → length random ≡ 2048
    → IsBehind s text access command moment random next → IsSteady next
step_steady s text access command moment random next valid point p f serial is_command is_moment long behind =
    let call = call_of p.0 access command moment random false in
    let at : IsStep s call = record {
      valid = f.valid;
      point = f.point;
      command = is_command;
      clock = is_moment;
      random = long;
      serial = λ _. serial;
    } in
    subst IsSteady (sym (behind p.0 p.1.0 (sym p.1.1))) (record { valid = valid s call at; point = point s call at })

pub behind_ok : (s : State) (text : List ℕ) (access : Option (List AclLine)) (command : Command) (moment : Moment)
    (random : List ℕ) (r : Result (State × Reply) MemoryOut)
    (both : State × Reply) → r ≡ Ok both
    → ((who : NameParts) → IsName who → printed who ≡ text
    → IfOk r (λ x. x.0 ≡ (step s (call_of who access command moment random false)).state))
    → IsBehind s text access command moment random both.0
behind_ok s text access command moment random r both is h = λ who named prints.
    subst (λ q. IfOk q (λ x. x.0 ≡ (step s (call_of who access command moment random false)).state)) is
    (h who named prints)

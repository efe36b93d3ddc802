-- What the causes of addprinc come to, over states alone.
use Rattle.std.proofs.Common.{◌≡◌, ℕ, ◌+◌, false, ◌&&◌, ◌||◌, List, [], ◌∷◌, length, Option, Some, None, refl}
use Rattle.std.specs.Prelude.{is_some, nat_le, nat_lt, option_and_then}
use Rattle.std.specs.List.{list_any}
use Rattle.acl_text.specs.declared.rules.AclLine.{AclLine}
use Rattle.command_plans.proofs.Lists.{skip}
use Rattle.command_plans.specs.Causes.{denial_of}
use Rattle.kadm_commands.specs.declared.commands.AddPrinc.{AddPrinc}
use Rattle.kadm_commands.specs.declared.commands.Command.{Command}
use Rattle.kadm_commands.specs.declared.commands.Command.TheVariants as command
use Rattle.kdb_base.specs.Limits.{most_keys, most_rows}
use Rattle.kdb_base.specs.Moment.{Moment}
use Rattle.kdb_base.specs.declared.outcomes.Refusal.{Refusal}
use Rattle.kdb_base.specs.declared.outcomes.Refusal.TheVariants.{Duplicate, KeysFull, PassClasses, PassTooShort}
use Rattle.kdb_base.specs.declared.outcomes.Refusal.TheVariants.{Protected, RowsFull, UnknownPolicy}
use Rattle.kdb_model.specs.Access.{adding, asking, asks, denied_in}
use Rattle.kdb_model.specs.Calls.{Call, call_of}
use Rattle.kdb_model.specs.Entries.{entry_of}
use Rattle.kdb_model.specs.Records.{added, added_policy, numbers_for}
use Rattle.kdb_model.specs.Refusals.{bytes_put, causes_with, fails_by, first, is_missing, is_protected}
use Rattle.kdb_model.specs.Refusals.{names_missing, password_of, refusal, target, too_large, when}
use Rattle.kdb_plain.specs.States.{princ_named}
use Rattle.kdb_plain.specs.declared.changes.PlainOp.TheVariants.{PutPrinc}
use Rattle.kdb_plain.specs.declared.states.State.{State}
use Rattle.policy_rules.specs.Passwords.{has_few_classes, is_short}
use Rattle.princ_name.specs.Names.{NameParts, printed}

-- ---- each cause

module _ (s : State) (call : Call) (c : AddPrinc) where
  abbrev pub twice : Option Refusal
  twice = when (is_some (princ_named (printed c.name) s.princs)) Duplicate

  abbrev pub missing : Option Refusal
  missing = when (names_missing s c.policy || is_missing s (added s call c).policy) UnknownPolicy

  abbrev pub short : Option Refusal
  short = when (fails_by is_short (numbers_for (added_policy s call c) s.policies) (option_and_then password_of c.keys))
      PassTooShort

  abbrev pub classes : Option Refusal
  classes = when (fails_by has_few_classes (numbers_for (added_policy s call c) s.policies)
      (option_and_then password_of c.keys)) PassClasses

  abbrev pub many : Option Refusal
  many = when (is_some c.keys && nat_lt most_keys (length (added s call c).keys)) KeysFull

  abbrev pub full : Option Refusal
  full = when (nat_le most_rows (length s.princs + length s.policies)) (RowsFull most_rows)

  abbrev pub large : Option Refusal
  large = too_large s (Some (PutPrinc (added s call c)))

-- what is left of the causes behind the names
abbrev pub add_rest : State → Call → AddPrinc → List (Option Refusal)
add_rest s call c = twice s call c ∷ missing s call c ∷ short s call c ∷ classes s call c ∷ many s call c
    ∷ full s call c ∷ large s call c ∷ []

module _ (s : State) (client : NameParts) (clock : Moment) (random : List ℕ) where
  abbrev told : Option (List AclLine) → Command → Call
  told access c = call_of client access c clock random false

  abbrev protected_by : NameParts → Option Refusal
  protected_by name = when (list_any (is_protected s.realm) (name ∷ [])) Protected

  abbrev denied : List AclLine → AddPrinc → Option Refusal
  denied lines c = denied_in lines client (asking adding c.name ∷ [])

  pub add_tests : (access : Option (List AclLine)) (c : AddPrinc)
      → refusal s (told access (command.AddPrinc c))
      ≡ first (denial_of access client (asking adding c.name ∷ []) ∷ protected_by c.name
      ∷ add_rest s (told access (command.AddPrinc c)) c)
  unfolding refusal causes_with first target entry_of asks bytes_put
  add_tests None c =
      let call = told None (command.AddPrinc c) in
      skip (protected_by c.name) _ _ (skip (twice s call c) _ _ (skip (missing s call c) _ _ (skip (short s call c) _ _
      (skip (classes s call c) _ _
      (skip (many s call c) _ _ (skip (full s call c) _ _ (skip (large s call c) _ _ refl)))))))
  add_tests (Some lines) c =
      let call = told (Some lines) (command.AddPrinc c) in
      skip (denied lines c) _ _
      (skip (protected_by c.name) _ _ (skip (twice s call c) _ _ (skip (missing s call c) _ _ (skip (short s call c) _ _
      (skip (classes s call c) _ _
      (skip (many s call c) _ _ (skip (full s call c) _ _ (skip (large s call c) _ _ refl))))))))

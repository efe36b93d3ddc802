-- What the causes of modprinc come to, over states alone.
use Rattle.std.proofs.Common.{◌≡◌, ℕ, false, ◌&&◌, ◌||◌, List, [], ◌∷◌, Option, Some, None, refl}
use Rattle.std.specs.Prelude.{is_some, not}
use Rattle.std.specs.List.{list_any}
use Rattle.acl_text.specs.declared.rules.AclLine.{AclLine}
use Rattle.command_plans.proofs.Lists.{skip}
use Rattle.command_plans.specs.Causes.{denial_of}
use Rattle.kadm_commands.specs.declared.commands.Command.{Command}
use Rattle.kadm_commands.specs.declared.commands.Command.TheVariants as command
use Rattle.kadm_commands.specs.declared.commands.ModPrinc.{ModPrinc}
use Rattle.kdb_base.specs.Moment.{Moment}
use Rattle.kdb_base.specs.declared.outcomes.Refusal.{Refusal}
use Rattle.kdb_base.specs.declared.outcomes.Refusal.TheVariants.{LockedDown, Protected, UnknownPolicy, UnknownPrincipal}
use Rattle.kdb_model.specs.Access.{asking, asks, denied_in, modifying}
use Rattle.kdb_model.specs.Calls.{Call, call_of}
use Rattle.kdb_model.specs.Entries.{entry_of}
use Rattle.kdb_model.specs.Fields.{has_bit, lockdown_keys}
use Rattle.kdb_model.specs.Records.{modified}
use Rattle.kdb_model.specs.Refusals.{bytes_put, causes_with, first, is_locked, is_missing}
use Rattle.kdb_model.specs.Refusals.{is_protected, names_missing, refusal, target, too_large, when}
use Rattle.kdb_plain.specs.States.{princ_named}
use Rattle.kdb_plain.specs.declared.changes.PlainOp.TheVariants.{PutPrinc}
use Rattle.kdb_plain.specs.declared.princs.PlainPrinc.{PlainPrinc}
use Rattle.kdb_plain.specs.declared.states.State.{State}
use Rattle.princ_name.specs.Names.{NameParts, printed}

abbrev pub locked_rest : Call → PlainPrinc → PlainPrinc → Option Refusal
locked_rest call q made =
    when (is_some call.access && is_locked (Some q) && not (has_bit lockdown_keys made.attributes)) LockedDown

abbrev pub missing_rest : State → ModPrinc → PlainPrinc → Option Refusal
missing_rest s c made = when (names_missing s c.policy || is_missing s made.policy) UnknownPolicy

-- what is left of the causes, once there is the principal
abbrev pub modify_rest : State → Call → ModPrinc → PlainPrinc → List (Option Refusal)
modify_rest s call c q =
    locked_rest call q (modified s call c q) ∷ missing_rest s c (modified s call c q)
    ∷ too_large s (Some (PutPrinc (modified s call c q))) ∷ []

module _ (s : State) (client : NameParts) (clock : Moment) (random : List ℕ) where
  abbrev told : Option (List AclLine) → Command → Call
  told access c = call_of client access c clock random false

  abbrev protected_by : NameParts → Option Refusal
  protected_by name = when (list_any (is_protected s.realm) (name ∷ [])) Protected

  abbrev denied : List AclLine → ModPrinc → Option Refusal
  denied lines c = denied_in lines client (asking modifying c.name ∷ [])

  pub modify_absent : (access : Option (List AclLine)) (c : ModPrinc) → princ_named (printed c.name) s.princs ≡ None
      → refusal s (told access (command.ModPrinc c)) ≡ first
      (denial_of access client (asking modifying c.name ∷ []) ∷ protected_by c.name ∷ Some UnknownPrincipal ∷ [])
  unfolding refusal causes_with first target entry_of asks bytes_put
  modify_absent None c e = rw e (skip (protected_by c.name) _ _ refl)
  modify_absent (Some lines) c e = rw e (skip (denied lines c) _ _ (skip (protected_by c.name) _ _ refl))

  pub modify_present : (access : Option (List AclLine)) (c : ModPrinc) (q : PlainPrinc)
      → princ_named (printed c.name) s.princs ≡ Some q
      → refusal s (told access (command.ModPrinc c))
      ≡ first (denial_of access client (asking modifying c.name ∷ []) ∷ protected_by c.name
      ∷ modify_rest s (told access (command.ModPrinc c)) c q)
  unfolding refusal causes_with first target entry_of asks bytes_put
  modify_present None c q e =
      let call = told None (command.ModPrinc c) in
      rw e (skip (protected_by c.name) _ _
      (skip (missing_rest s c (modified s call c q)) _ _
      (skip (too_large s (Some (PutPrinc (modified s call c q)))) _ _ refl)))
  modify_present (Some lines) c q e =
      let call = told (Some lines) (command.ModPrinc c) in
      rw e
      (skip (denied lines c) _ _ (skip (protected_by c.name) _ _ (skip (locked_rest call q (modified s call c q)) _ _
      (skip (missing_rest s c (modified s call c q)) _ _
      (skip (too_large s (Some (PutPrinc (modified s call c q)))) _ _ refl)))))

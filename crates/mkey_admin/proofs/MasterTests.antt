-- What the whole list of causes comes to, for each command of master keys. All of it is over states alone.
use Rattle.std.proofs.Common.{◌≡◌, ℕ, false, List, [], ◌∷◌, Option, Some, None, refl}
use Rattle.acl_text.specs.declared.rules.AclLine.{AclLine}
use Rattle.command_plans.specs.Causes.{denial_of}
use Rattle.command_plans.proofs.Lists.{skip}
use Rattle.kadm_commands.specs.declared.commands.Command.{Command}
use Rattle.kadm_commands.specs.declared.commands.Command.TheVariants as command
use Rattle.kadm_commands.specs.declared.commands.UseMaster.{UseMaster}
use Rattle.kdb_base.specs.Moment.{Moment}
use Rattle.kdb_base.specs.declared.keys.Etype.{Etype}
use Rattle.kdb_base.specs.declared.outcomes.Refusal.{Refusal}
use Rattle.kdb_model.specs.Access.{asking, asks, denied_in, master_parts, setting}
use Rattle.kdb_model.specs.Calls.{Call, call_of}
use Rattle.kdb_model.specs.Entries.{entry_of}
use Rattle.kdb_model.specs.Refusals.{bytes_put, causes_with, first, no_active_master, refusal}
use Rattle.kdb_model.specs.Refusals.{target, too_large, too_many_masters, unknown_master}
use Rattle.kdb_plain.specs.declared.changes.PlainOp.{PlainOp}
use Rattle.kdb_plain.specs.declared.states.State.{State}
use Rattle.princ_name.specs.Names.{NameParts}

module _ (s : State) (client : NameParts) (clock : Moment) (random : List ℕ) where
  abbrev told : Option (List AclLine) → Command → Call
  told access c = call_of client access c clock random false

  abbrev denied : Option (List AclLine) → Option Refusal
  denied access = denial_of access client (asking setting (master_parts s.realm) ∷ [])

  pub list_tests : (access : Option (List AclLine))
      → refusal s (told access command.ListMasters) ≡ first (denied access ∷ [])
  unfolding refusal causes_with first target entry_of asks bytes_put
  list_tests None = refl
  list_tests (Some lines) = skip (denied_in lines client (asking setting (master_parts s.realm) ∷ [])) _ _ refl

  pub add_tests : (access : Option (List AclLine)) (etype : Option Etype) (change : Option PlainOp)
      → entry_of s (told access (command.AddMaster etype)) (command.AddMaster etype) ≡ change
      → refusal s (told access (command.AddMaster etype))
      ≡ first (denied access ∷ too_many_masters s (command.AddMaster etype) ∷ too_large s change ∷ [])
  unfolding refusal causes_with first target asks
  add_tests None etype None e =
      rw e (skip (too_many_masters s (command.AddMaster etype)) _ _ (skip (too_large s None) _ _ refl))
  add_tests None etype (Some op) e =
      rw e (skip (too_many_masters s (command.AddMaster etype)) _ _ (skip (too_large s (Some op)) _ _ refl))
  add_tests (Some lines) etype None e =
      rw e (skip (denied_in lines client (asking setting (master_parts s.realm) ∷ [])) _ _
      (skip (too_many_masters s (command.AddMaster etype)) _ _ (skip (too_large s None) _ _ refl)))
  add_tests (Some lines) etype (Some op) e =
      rw e (skip (denied_in lines client (asking setting (master_parts s.realm) ∷ [])) _ _
      (skip (too_many_masters s (command.AddMaster etype)) _ _ (skip (too_large s (Some op)) _ _ refl)))

  pub use_tests : (access : Option (List AclLine)) (c : UseMaster) (change : Option PlainOp)
      → entry_of s (told access (command.UseMaster c)) (command.UseMaster c) ≡ change
      → refusal s (told access (command.UseMaster c))
      ≡ first (unknown_master s (command.UseMaster c) ∷ denied access
      ∷ no_active_master s (told access (command.UseMaster c)) (command.UseMaster c) ∷ too_large s change ∷ [])
  unfolding refusal causes_with first target asks
  use_tests None c None e =
      rw e (skip (unknown_master s (command.UseMaster c)) _ _
      (skip (no_active_master s (told None (command.UseMaster c)) (command.UseMaster c)) _ _
      (skip (too_large s None) _ _ refl)))
  use_tests None c (Some op) e =
      rw e (skip (unknown_master s (command.UseMaster c)) _ _
      (skip (no_active_master s (told None (command.UseMaster c)) (command.UseMaster c)) _ _
      (skip (too_large s (Some op)) _ _ refl)))
  use_tests (Some lines) c None e =
      rw e (skip (unknown_master s (command.UseMaster c)) _ _
      (skip (denied_in lines client (asking setting (master_parts s.realm) ∷ [])) _ _
      (skip (no_active_master s (told (Some lines) (command.UseMaster c)) (command.UseMaster c)) _ _
      (skip (too_large s None) _ _ refl))))
  use_tests (Some lines) c (Some op) e =
      rw e (skip (unknown_master s (command.UseMaster c)) _ _
      (skip (denied_in lines client (asking setting (master_parts s.realm) ∷ [])) _ _
      (skip (no_active_master s (told (Some lines) (command.UseMaster c)) (command.UseMaster c)) _ _
      (skip (too_large s (Some op)) _ _ refl))))

  pub purge_tests : (access : Option (List AclLine)) (change : Option PlainOp)
      → entry_of s (told access command.PurgeMasters) command.PurgeMasters ≡ change
      → refusal s (told access command.PurgeMasters) ≡ first (denied access ∷ too_large s change ∷ [])
  unfolding refusal causes_with first target asks
  purge_tests None None e = rw e (skip (too_large s None) _ _ refl)
  purge_tests None (Some op) e = rw e (skip (too_large s (Some op)) _ _ refl)
  purge_tests (Some lines) None e = rw e (skip (denied_in lines client (asking setting (master_parts s.realm) ∷ [])) _ _
      (skip (too_large s None) _ _ refl))
  purge_tests (Some lines) (Some op) e = rw e
      (skip (denied_in lines client (asking setting (master_parts s.realm) ∷ [])) _ _
      (skip (too_large s (Some op)) _ _ refl))

-- Changes by what is found in a state.
use Rattle.std.proofs.Common.{◌≡◌, ℕ, Bool, true, false, List, [], ◌∷◌, Option, Some, None, refl, sym, ap, ◌∙◌}
use Rattle.std.specs.Prelude.{option_map, option_and_then}
use Rattle.std.specs.List.{last_or}
use Rattle.kadm_commands.specs.declared.commands.Command.{Command}
use Rattle.kadm_commands.specs.declared.commands.Command.TheVariants as command
use Rattle.kdb_base.specs.declared.versions.Master.{Master}
use Rattle.kdb_model.specs.Asking.{changes_state, princ_change}
use Rattle.kdb_model.specs.Calls.{Call, secs_of}
use Rattle.kdb_model.specs.Entries.{entry_of, unless_none_dead}
use Rattle.kdb_model.specs.Laws.{is_master_line}
use Rattle.kdb_model.specs.Refusals.{target}
use Rattle.kdb_plain.specs.States.{princ_named}
use Rattle.serving_versions.specs.Versions.{dead_versions}
use Rattle.kdb_plain.specs.declared.changes.PlainOp.{PlainOp}
use Rattle.kdb_plain.specs.declared.princs.PlainPrinc.{PlainPrinc}
use Rattle.kdb_plain.specs.declared.states.State.{State}
use Rattle.master_keys.specs.First.{master_name}

none_dead : (dead : List ℕ) (change : Option PlainOp) → change ≡ None → unless_none_dead dead change ≡ None
none_dead [] change e = refl
none_dead (v ∷ dead) change e = e

none_then : {A B : Type 0} (g : A → Option B) (o : Option A) → ((x : A) → g x ≡ None) → option_and_then g o ≡ None
none_then g None e = refl
none_then g (Some x) e = e x

-- without K/M nothing is changed of the master keys
pub no_master : (s : State) (call : Call) (cmd : Command) → is_master_line cmd ≡ true
    → princ_named (master_name s.realm) s.princs ≡ None → entry_of s call cmd ≡ None
unfolding entry_of
no_master s call (command.AddMaster etype) line gone = none_then _ (last_or None s.masters) (λ newest. rw gone refl)
no_master s call (command.UseMaster c) line gone = rw gone refl
no_master s call command.PurgeMasters line gone = none_dead (dead_versions s (secs_of s call)) _ (rw gone refl)
no_master s call (command.AddPrinc c) line gone = absurd cc
no_master s call (command.ModPrinc c) line gone = absurd cc
no_master s call (command.ChangeKeys c) line gone = absurd cc
no_master s call (command.RenPrinc c) line gone = absurd cc
no_master s call (command.DelPrinc name) line gone = absurd cc
no_master s call (command.PurgeKeys c) line gone = absurd cc
no_master s call (command.SetString c) line gone = absurd cc
no_master s call (command.DelString c) line gone = absurd cc
no_master s call (command.AddPolicy p) line gone = absurd cc
no_master s call (command.ModPolicy c) line gone = absurd cc
no_master s call (command.DelPolicy name) line gone = absurd cc
no_master s call (command.GetPrinc name) line gone = absurd cc
no_master s call (command.ListPrincs glob) line gone = absurd cc
no_master s call (command.GetStrings name) line gone = absurd cc
no_master s call (command.Extract name) line gone = absurd cc
no_master s call (command.GetPolicy name) line gone = absurd cc
no_master s call command.ListPolicies line gone = absurd cc
no_master s call command.GetPrivs line gone = absurd cc
no_master s call command.ListMasters line gone = absurd cc
no_master s call (command.RekeyPrincs glob) line gone = absurd cc
no_master s call command.Stash line gone = absurd cc
no_master s call command.Dump line gone = absurd cc

-- what is changed of the principal that a command needs
pub at_target : (s : State) (call : Call) (cmd : Command) (q : PlainPrinc) → target s cmd ≡ Some q
    → entry_of s call cmd ≡ princ_change s call cmd q
unfolding entry_of princ_change target
at_target s call (command.ModPrinc c) q e = rw e refl
at_target s call (command.ChangeKeys c) q e = rw e refl
at_target s call (command.RenPrinc c) q e = rw e refl
at_target s call (command.DelPrinc name) q e = rw e refl
at_target s call (command.PurgeKeys c) q e = rw e refl
at_target s call (command.SetString c) q e = rw e refl
at_target s call (command.DelString c) q e = rw e refl
at_target s call (command.GetPrinc name) q e = refl
at_target s call (command.GetStrings name) q e = refl
at_target s call (command.Extract name) q e = refl
at_target s call (command.AddPrinc c) q e = absurd cc
at_target s call (command.AddPolicy p) q e = absurd cc
at_target s call (command.ModPolicy c) q e = absurd cc
at_target s call (command.DelPolicy name) q e = absurd cc
at_target s call (command.AddMaster etype) q e = absurd cc
at_target s call (command.UseMaster c) q e = absurd cc
at_target s call command.PurgeMasters q e = absurd cc
at_target s call (command.ListPrincs glob) q e = absurd cc
at_target s call (command.GetPolicy name) q e = absurd cc
at_target s call command.ListPolicies q e = absurd cc
at_target s call command.GetPrivs q e = absurd cc
at_target s call command.ListMasters q e = absurd cc
at_target s call (command.RekeyPrincs glob) q e = absurd cc
at_target s call command.Stash q e = absurd cc
at_target s call command.Dump q e = absurd cc

-- where it is not there, or none is needed
pub no_target : (s : State) (call : Call) (cmd : Command) → changes_state cmd ≡ false → target s cmd ≡ None
    → entry_of s call cmd ≡ None
unfolding entry_of target
no_target s call (command.ModPrinc c) other e = rw e refl
no_target s call (command.ChangeKeys c) other e = rw e refl
no_target s call (command.RenPrinc c) other e = rw e refl
no_target s call (command.DelPrinc name) other e = rw e refl
no_target s call (command.PurgeKeys c) other e = rw e refl
no_target s call (command.SetString c) other e = rw e refl
no_target s call (command.DelString c) other e = rw e refl
no_target s call (command.GetPrinc name) other e = refl
no_target s call (command.GetStrings name) other e = refl
no_target s call (command.Extract name) other e = refl
no_target s call (command.ListPrincs glob) other e = refl
no_target s call (command.GetPolicy name) other e = refl
no_target s call command.ListPolicies other e = refl
no_target s call command.GetPrivs other e = refl
no_target s call command.ListMasters other e = refl
no_target s call (command.RekeyPrincs glob) other e = refl
no_target s call command.Stash other e = refl
no_target s call command.Dump other e = refl
no_target s call (command.AddPrinc c) other e = absurd cc
no_target s call (command.AddPolicy p) other e = absurd cc
no_target s call (command.ModPolicy c) other e = absurd cc
no_target s call (command.DelPolicy name) other e = absurd cc
no_target s call (command.AddMaster etype) other e = absurd cc
no_target s call (command.UseMaster c) other e = absurd cc
no_target s call command.PurgeMasters other e = absurd cc

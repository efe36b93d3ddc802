-- A change that is accepted puts no record with the chain of K/M, unless it is one of the master keys.
use Rattle.std.proofs.Common.{◌≡◌, ℕ, false, List, [], ◌∷◌, Option, Some, None, refl, ap, subst, ◌∙◌}
use Rattle.std.specs.List.{last_or, list_any}
use Rattle.command_plans.proofs.PrintedPairs.{not_master}
use Rattle.kadm_commands.specs.Commands.{IsCommand, IsOwnName}
use Rattle.kadm_commands.specs.declared.commands.ChangeKeys.{ChangeKeys}
use Rattle.kadm_commands.specs.declared.commands.Command.{Command}
use Rattle.kadm_commands.specs.declared.commands.Command.TheVariants as command
use Rattle.kadm_commands.specs.declared.commands.PurgeKeys.{PurgeKeys}
use Rattle.kdb_base.specs.declared.versions.Master.{Master}
use Rattle.kdb_model.proofs.Accepted.{accepted, chained, mapped, one_name, two_names}
use Rattle.kdb_model.proofs.Stepping.{accepted_parts}
use Rattle.kdb_model.proofs.ValidChanges.{added_name, modified_name}
use Rattle.kdb_model.specs.Calls.{Call, secs_of}
use Rattle.kdb_model.specs.Entries.{entry, entry_of, unless_none_dead}
use Rattle.kdb_model.specs.Fields.{rekeyed_head}
use Rattle.kdb_model.specs.Masters.{new_etype, new_master, on_master, use_secs}
use Rattle.kdb_model.specs.Records.{added, changed_policy, modified, purged, rekeyed, renamed, restrung}
use Rattle.kdb_model.specs.Refusals.{is_protected, refusal, touched}
use Rattle.kdb_plain.specs.Changes.{name_of}
use Rattle.kdb_plain.specs.States.{policy_named, princ_named}
use Rattle.kdb_plain.specs.Strings.{with_string, without_string}
use Rattle.kdb_plain.specs.declared.changes.PlainOp.{PlainOp}
use Rattle.kdb_plain.specs.declared.changes.PlainOp.TheVariants.{PutPrinc, DropPrinc, Rename}
use Rattle.kdb_plain.specs.declared.changes.PlainOp.TheVariants.{PutPolicy, DropPolicy, PutMasters}
use Rattle.kdb_plain.specs.declared.princs.PlainPrinc.{PlainPrinc}
use Rattle.kdb_plain.specs.declared.states.State.{State}
use Rattle.master_keys.specs.First.{master_name}
use Rattle.policy_rules.specs.Rules.{Rules}
use Rattle.princ_name.specs.Names.{NameParts, printed}
use Rattle.princ_name.specs.Printed.{is_master}
use Rattle.princ_name.specs.Realms.{IsRealm}
use Rattle.serving_versions.proofs.MasterSets.{is_there}
use Rattle.serving_versions.proofs.Places.{named_so}
use Rattle.serving_versions.specs.MasterChanges.{adds_master, purges_masters, uses_version}
use Rattle.serving_versions.specs.Versions.{dead_versions}

-- a principal that it puts is printed as no K/M of any realm
abbrev pub IsOther : PlainOp → Type 0
IsOther (PutPrinc q) = is_master q.name ≡ false
IsOther (DropPrinc name) = Unit {0}
IsOther (Rename old q) = is_master q.name ≡ false
IsOther (PutPolicy p) = Unit {0}
IsOther (DropPolicy name) = Unit {0}
IsOther (PutMasters q masters activations) = Unit {0}

of_some : (x y : PlainOp) → ◌≡◌ {A = Option PlainOp} (Some x) (Some y) → x ≡ y
of_some x y e = cc

some_dead : (dead : List ℕ) (change : Option PlainOp) (op : PlainOp) → unless_none_dead dead change ≡ Some op
    → change ≡ Some op
some_dead [] change op e = absurd cc
some_dead (version ∷ dead) change op e = e

module _ (s : State) (call : Call) (is : IsRealm s.realm) where
  other_put : (name : NameParts) (text : List ℕ) → text ≡ printed name → IsOwnName s.realm name
      → is_protected s.realm name ≡ false → is_master text ≡ false
  other_put name text named own free = ap is_master named ∙ not_master s.realm name is own.own free

  found_name : (name : NameParts) (q : PlainPrinc) → princ_named (printed name) s.princs ≡ Some q
      → q.name ≡ printed name
  found_name name q there = named_so name_of (printed name) s.princs q (is_there (printed name) s.princs q there)

  rekeyed_name : (c : ChangeKeys) (q : PlainPrinc) → (rekeyed s call c q).name ≡ q.name
  unfolding rekeyed rekeyed_head
  rekeyed_name c q = refl

  purged_name : (c : PurgeKeys) (q : PlainPrinc) → (purged s call c q).name ≡ q.name
  unfolding purged
  purged_name c q = refl

  others : (cmd : Command) (op : PlainOp) → list_any (is_protected s.realm) (touched cmd) ≡ false
      → IsCommand s.realm cmd → entry_of s call cmd ≡ Some op → IsOther op
  unfolding entry_of restrung renamed IsCommand adds_master uses_version purges_masters
  others (command.AddPrinc c) op free own e =
      subst IsOther (of_some (PutPrinc (added s call c)) op e)
      (other_put c.name (added s call c).name (added_name s call c) own.0 (one_name s.realm c.name free))
  others (command.ModPrinc c) op free own e =
      let m = mapped (λ q. PutPrinc (modified s call c q)) (princ_named (printed c.name) s.princs) op e in
      subst IsOther m.1.1 (other_put c.name (modified s call c m.0).name
      (modified_name s call c m.0 ∙ found_name c.name m.0 m.1.0) own.0 (one_name s.realm c.name free))
  others (command.ChangeKeys c) op free own e =
      let m = mapped (λ q. PutPrinc (rekeyed s call c q)) (princ_named (printed c.name) s.princs) op e in
      subst IsOther m.1.1 (other_put c.name (rekeyed s call c m.0).name
      (rekeyed_name c m.0 ∙ found_name c.name m.0 m.1.0) own.0 (one_name s.realm c.name free))
  others (command.RenPrinc c) op free own e =
      let m = mapped (λ q. Rename (printed c.name) (renamed s call c q)) (princ_named (printed c.name) s.princs) op e in
      subst IsOther m.1.1
      (other_put c.new_name (renamed s call c m.0).name refl own.1 (two_names s.realm c.name c.new_name free).1)
  others (command.DelPrinc name) op free own e =
      let m = mapped (λ (_ : PlainPrinc). DropPrinc (printed name)) (princ_named (printed name) s.princs) op e in
      subst IsOther m.1.1 tt
  others (command.PurgeKeys c) op free own e =
      let m = mapped (λ q. PutPrinc (purged s call c q)) (princ_named (printed c.name) s.princs) op e in
      subst IsOther m.1.1 (other_put c.name (purged s call c m.0).name
      (purged_name c m.0 ∙ found_name c.name m.0 m.1.0) own.0 (one_name s.realm c.name free))
  others (command.SetString c) op free own e =
      let m = mapped (λ q. PutPrinc (restrung s call (with_string c.key c.value q.strings) q))
      (princ_named (printed c.name) s.princs) op e in
      subst IsOther m.1.1 (other_put c.name (restrung s call (with_string c.key c.value m.0.strings) m.0).name
      (found_name c.name m.0 m.1.0) own.0 (one_name s.realm c.name free))
  others (command.DelString c) op free own e =
      let m = mapped (λ q. PutPrinc (restrung s call (without_string c.key q.strings) q))
      (princ_named (printed c.name) s.princs) op e in
      subst IsOther m.1.1 (other_put c.name (restrung s call (without_string c.key m.0.strings) m.0).name
      (found_name c.name m.0 m.1.0) own.0 (one_name s.realm c.name free))
  others (command.AddPolicy p) op free own e = subst IsOther (of_some (PutPolicy p) op e) tt
  others (command.ModPolicy c) op free own e =
      let m = mapped (λ p. PutPolicy (changed_policy c p)) (policy_named c.name s.policies) op e in
      subst IsOther m.1.1 tt
  others (command.DelPolicy name) op free own e =
      let m = mapped (λ (_ : Rules). DropPolicy name) (policy_named name s.policies) op e in
      subst IsOther m.1.1 tt
  others (command.AddMaster etype) op free own e =
      let n = chained (λ (newest : Master). on_master s
      (adds_master s (new_master (new_etype etype newest) call.random s.masters))) (last_or None s.masters) op e in
      let m = mapped (adds_master s (new_master (new_etype etype n.0) call.random s.masters))
      (princ_named (master_name s.realm) s.princs) op n.1.1 in
      subst IsOther m.1.1 tt
  others (command.UseMaster c) op free own e =
      let m = mapped (uses_version s c.version (use_secs s call c)) (princ_named (master_name s.realm) s.princs) op e in
      subst IsOther m.1.1 tt
  others command.PurgeMasters op free own e =
      let kept = some_dead (dead_versions s (secs_of s call)) (on_master s (purges_masters s (secs_of s call))) op e in
      let m = mapped (purges_masters s (secs_of s call)) (princ_named (master_name s.realm) s.princs) op kept in
      subst IsOther m.1.1 tt
  others (command.GetPrinc name) op free own e = absurd cc
  others (command.ListPrincs glob) op free own e = absurd cc
  others (command.GetStrings name) op free own e = absurd cc
  others (command.Extract name) op free own e = absurd cc
  others (command.GetPolicy name) op free own e = absurd cc
  others command.ListPolicies op free own e = absurd cc
  others command.GetPrivs op free own e = absurd cc
  others command.ListMasters op free own e = absurd cc
  others (command.RekeyPrincs glob) op free own e = absurd cc
  others command.Stash op free own e = absurd cc
  others command.Dump op free own e = absurd cc

  pub entry_is_other : (op : PlainOp) → refusal s call ≡ None → entry s call ≡ Some op
      → IsCommand s.realm call.command → IsOther op
  entry_is_other op accepted_now e own =
      let a = accepted s call (entry s call) (accepted_parts s call accepted_now).0 in
      others call.command op a.unprotected own e

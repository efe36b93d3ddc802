-- A change that is not refused, and is none of the master keys, is of another principal than those with the database's
-- own keys.
use Rattle.std.proofs.Common.{◌≡◌, ℕ, Bool, true, false, List, [], ◌∷◌, Option, Some, None, refl, sym, ap, subst, ◌∙◌}
use Rattle.std.specs.List.{list_any}
use Rattle.kadm_commands.specs.declared.commands.ChangeKeys.{ChangeKeys}
use Rattle.kadm_commands.specs.declared.commands.Command.{Command}
use Rattle.kadm_commands.specs.declared.commands.Command.TheVariants as command
use Rattle.kadm_commands.specs.declared.commands.PurgeKeys.{PurgeKeys}
use Rattle.kdb_model.specs.Calls.{Call}
use Rattle.kdb_model.specs.Entries.{entry, entry_of}
use Rattle.kdb_model.specs.Fields.{rekeyed_head}
use Rattle.kdb_model.specs.Laws.{is_master_line}
use Rattle.kdb_model.specs.Records.{added, changed_policy, modified, purged, rekeyed, renamed, restrung}
use Rattle.kdb_model.specs.Refusals.{is_protected, refusal, touched}
use Rattle.kdb_plain.specs.Changes.{IsOrdinary, Spares, name_of}
use Rattle.kdb_plain.specs.States.{policy_named, princ_named}
use Rattle.kdb_plain.specs.Strings.{with_string, without_string}
use Rattle.kdb_plain.specs.declared.changes.PlainOp.{PlainOp}
use Rattle.kdb_plain.specs.declared.changes.PlainOp.TheVariants.{PutPrinc, DropPrinc, Rename}
use Rattle.kdb_plain.specs.declared.changes.PlainOp.TheVariants.{PutPolicy, DropPolicy, PutMasters}
use Rattle.kdb_plain.specs.declared.princs.PlainPrinc.{PlainPrinc}
use Rattle.kdb_plain.specs.declared.states.State.{State}
use Rattle.serving_versions.proofs.MasterSets.{is_there}
use Rattle.serving_versions.proofs.Places.{named_so}
use Rattle.policy_rules.specs.Rules.{Rules}
use Rattle.princ_name.specs.Names.{NameParts, printed}
use Rattle.kdb_model.proofs.Accepted.{IsAccepted, accepted, mapped, not_own, one_name, two_names}
use Rattle.kdb_model.proofs.Stepping.{accepted_parts}
use Rattle.kdb_model.proofs.ValidChanges.{added_name, modified_name}

module _ (s : State) (call : Call) where
  of_some : (x y : PlainOp) → ◌≡◌ {A = Option PlainOp} (Some x) (Some y) → x ≡ y
  of_some x y e = cc

  spares_put : (name : NameParts) (r : PlainPrinc) → r.name ≡ printed name → is_protected s.realm name ≡ false
      → Spares s.realm (PutPrinc r)
  spares_put name r named other = subst (IsOrdinary s.realm) (sym named) (not_own s.realm name other)

  found_name : (name : NameParts) (q : PlainPrinc) → princ_named (printed name) s.princs ≡ Some q
      → q.name ≡ printed name
  found_name name q there = named_so name_of (printed name) s.princs q (is_there (printed name) s.princs q there)

  rekeyed_name : (c : ChangeKeys) (q : PlainPrinc) → (rekeyed s call c q).name ≡ q.name
  unfolding rekeyed rekeyed_head
  rekeyed_name c q = refl

  purged_name : (c : PurgeKeys) (q : PlainPrinc) → (purged s call c q).name ≡ q.name
  unfolding purged
  purged_name c q = refl

  spares : (cmd : Command) (op : PlainOp) → list_any (is_protected s.realm) (touched cmd) ≡ false
      → is_master_line cmd ≡ false → entry_of s call cmd ≡ Some op → Spares s.realm op
  unfolding entry_of restrung renamed
  spares (command.AddPrinc c) op others line e =
      subst (Spares s.realm) (of_some (PutPrinc (added s call c)) op e)
      (spares_put c.name (added s call c) (added_name s call c) (one_name s.realm c.name others))
  spares (command.ModPrinc c) op others line e =
      let m = mapped (λ q. PutPrinc (modified s call c q)) (princ_named (printed c.name) s.princs) op e in
      subst (Spares s.realm) m.1.1 (spares_put c.name (modified s call c m.0)
      (modified_name s call c m.0 ∙ found_name c.name m.0 m.1.0) (one_name s.realm c.name others))
  spares (command.ChangeKeys c) op others line e =
      let m = mapped (λ q. PutPrinc (rekeyed s call c q)) (princ_named (printed c.name) s.princs) op e in
      subst (Spares s.realm) m.1.1 (spares_put c.name (rekeyed s call c m.0)
      (rekeyed_name c m.0 ∙ found_name c.name m.0 m.1.0) (one_name s.realm c.name others))
  spares (command.RenPrinc c) op others line e =
      let m = mapped (λ q. Rename (printed c.name) (renamed s call c q)) (princ_named (printed c.name) s.princs) op e in
      let both = two_names s.realm c.name c.new_name others in
      subst (Spares s.realm) m.1.1 (not_own s.realm c.name both.0, not_own s.realm c.new_name both.1)
  spares (command.DelPrinc name) op others line e =
      let m = mapped (λ (_ : PlainPrinc). DropPrinc (printed name)) (princ_named (printed name) s.princs) op e in
      subst (Spares s.realm) m.1.1 (not_own s.realm name (one_name s.realm name others))
  spares (command.PurgeKeys c) op others line e =
      let m = mapped (λ q. PutPrinc (purged s call c q)) (princ_named (printed c.name) s.princs) op e in
      subst (Spares s.realm) m.1.1 (spares_put c.name (purged s call c m.0)
      (purged_name c m.0 ∙ found_name c.name m.0 m.1.0) (one_name s.realm c.name others))
  spares (command.SetString c) op others line e =
      let m = mapped (λ q. PutPrinc (restrung s call (with_string c.key c.value q.strings) q))
      (princ_named (printed c.name) s.princs) op e in
      subst (Spares s.realm) m.1.1 (spares_put c.name (restrung s call (with_string c.key c.value m.0.strings) m.0)
      (found_name c.name m.0 m.1.0) (one_name s.realm c.name others))
  spares (command.DelString c) op others line e =
      let m = mapped (λ q. PutPrinc (restrung s call (without_string c.key q.strings) q))
      (princ_named (printed c.name) s.princs) op e in
      subst (Spares s.realm) m.1.1 (spares_put c.name (restrung s call (without_string c.key m.0.strings) m.0)
      (found_name c.name m.0 m.1.0) (one_name s.realm c.name others))
  spares (command.AddPolicy p) op others line e = subst (Spares s.realm) (of_some (PutPolicy p) op e) tt
  spares (command.ModPolicy c) op others line e =
      let m = mapped (λ p. PutPolicy (changed_policy c p)) (policy_named c.name s.policies) op e in
      subst (Spares s.realm) m.1.1 tt
  spares (command.DelPolicy name) op others line e =
      let m = mapped (λ (_ : Rules). DropPolicy name) (policy_named name s.policies) op e in
      subst (Spares s.realm) m.1.1 tt
  spares (command.AddMaster etype) op others line e = absurd cc
  spares (command.UseMaster c) op others line e = absurd cc
  spares command.PurgeMasters op others line e = absurd cc
  spares (command.GetPrinc name) op others line e = absurd cc
  spares (command.ListPrincs glob) op others line e = absurd cc
  spares (command.GetStrings name) op others line e = absurd cc
  spares (command.Extract name) op others line e = absurd cc
  spares (command.GetPolicy name) op others line e = absurd cc
  spares command.ListPolicies op others line e = absurd cc
  spares command.GetPrivs op others line e = absurd cc
  spares command.ListMasters op others line e = absurd cc
  spares (command.RekeyPrincs glob) op others line e = absurd cc
  spares command.Stash op others line e = absurd cc
  spares command.Dump op others line e = absurd cc

  pub change_spares : (op : PlainOp) → refusal s call ≡ None → entry s call ≡ Some op
      → is_master_line call.command ≡ false → Spares s.realm op
  change_spares op accepted_now e line =
      let a = accepted s call (entry s call) (accepted_parts s call accepted_now).0 in
      spares call.command op a.unprotected line e

-- What a command changes.
use Rattle.std.specs.Prelude.{ℕ, List, [], ◌∷◌, Option, Some, None, option_map, option_and_then}
use Rattle.std.specs.List.{last_or}
use Rattle.kadm_commands.specs.declared.commands.Command.{Command}
use Rattle.kadm_commands.specs.declared.commands.Command.TheVariants as command
use Rattle.kdb_model.specs.Calls.{Call, secs_of}
use Rattle.kdb_model.specs.Masters.{on_master, new_etype, new_master, use_secs}
use Rattle.kdb_model.specs.Records.{added, modified, rekeyed, renamed, purged, restrung, changed_policy}
use Rattle.kdb_plain.specs.declared.changes.PlainOp.{PlainOp}
use Rattle.kdb_plain.specs.declared.changes.PlainOp.TheVariants.{PutPrinc, DropPrinc, Rename, PutPolicy, DropPolicy}
use Rattle.serving_versions.specs.MasterChanges.{adds_master, purges_masters, uses_version}
use Rattle.kdb_plain.specs.States.{princ_named, policy_named}
use Rattle.kdb_plain.specs.Strings.{with_string, without_string}
use Rattle.serving_versions.specs.Versions.{dead_versions}
use Rattle.kdb_plain.specs.declared.princs.PlainPrinc.{PlainPrinc}
use Rattle.kdb_plain.specs.declared.states.State.{State}
use Rattle.princ_name.specs.Names.{NameParts, printed}

-- a change of a principal that is there
abbrev pub on_named : State → NameParts → (PlainPrinc → PlainOp) → Option PlainOp
on_named s name change = option_map change (princ_named (printed name) s.princs)

-- a change where some version does not serve, and none where each does
abbrev pub unless_none_dead : List ℕ → Option PlainOp → Option PlainOp
unless_none_dead [] change = None
unless_none_dead (version ∷ versions) change = change

-- None where the command only reads, or what it changes is not there, or there is nothing to delete
unfoldable pub entry_of : State → Call → Command → Option PlainOp
entry_of s call (command.AddPrinc c) = Some (PutPrinc (added s call c))
entry_of s call (command.ModPrinc c) = on_named s c.name (λ q. PutPrinc (modified s call c q))
entry_of s call (command.ChangeKeys c) = on_named s c.name (λ q. PutPrinc (rekeyed s call c q))
entry_of s call (command.RenPrinc c) = on_named s c.name (λ q. Rename (printed c.name) (renamed s call c q))
entry_of s call (command.DelPrinc name) = on_named s name (λ _. DropPrinc (printed name))
entry_of s call (command.PurgeKeys c) = on_named s c.name (λ q. PutPrinc (purged s call c q))
entry_of s call (command.SetString c) =
    on_named s c.name (λ q. PutPrinc (restrung s call (with_string c.key c.value q.strings) q))
entry_of s call (command.DelString c) =
    on_named s c.name (λ q. PutPrinc (restrung s call (without_string c.key q.strings) q))
entry_of s call (command.AddPolicy p) = Some (PutPolicy p)
entry_of s call (command.ModPolicy c) =
    option_map (λ p. PutPolicy (changed_policy c p)) (policy_named c.name s.policies)
entry_of s call (command.DelPolicy name) = option_map (λ _. DropPolicy name) (policy_named name s.policies)
entry_of s call (command.AddMaster etype) =
    option_and_then (λ newest. on_master s (adds_master s (new_master (new_etype etype newest) call.random s.masters)))
    (last_or None s.masters)
entry_of s call (command.UseMaster c) = on_master s (uses_version s c.version (use_secs s call c))
entry_of s call command.PurgeMasters =
    unless_none_dead (dead_versions s (secs_of s call)) (on_master s (purges_masters s (secs_of s call)))
entry_of s call _ = None

abbrev pub entry : State → Call → Option PlainOp
entry s call = entry_of s call call.command

-- The change of K/M's record that a command of master keys makes, exactly: new blobs are wrapped with the confounders
-- of their places in the block, and what the command does not touch stays to the byte, the modifier, the times and the
-- expirations among it. Of other commands nothing is said here.
use Rattle.std.specs.Prelude.{ℕ, ◌+◌, List, [], ◌∷◌, Option, None, option_map, option_and_then}
use Rattle.std.specs.List.{last_or, slice_range}
use Rattle.kadm_commands.specs.declared.commands.Command.{Command}
use Rattle.kadm_commands.specs.declared.commands.Command.TheVariants as command
use Rattle.kdb_base.specs.Etypes.{key_len}
use Rattle.kdb_base.specs.declared.keys.Etype.{Etype}
use Rattle.kdb_base.specs.declared.versions.Activation.{Activation}
use Rattle.kdb_base.specs.declared.versions.Master.{Master}
use Rattle.kdb_model.specs.Calls.{Call, secs_of}
use Rattle.kdb_model.specs.Masters.{new_etype, new_master, used_activations}
use Rattle.kdb_plain.specs.declared.states.State.{State}
use Rattle.master_keys.specs.Adding.{added_record}
use Rattle.master_keys.specs.First.{master_name}
use Rattle.master_keys.specs.Purging.{purged_record}
use Rattle.princ_rows.specs.declared.entries.Op.{Op}
use Rattle.princ_rows.specs.declared.entries.Op.TheVariants as op
use Rattle.princ_record.specs.declared.facts.ChainPart.{ChainPart}
use Rattle.princ_record.specs.declared.princs.Princ.{Princ}
use Rattle.princ_rows.specs.Rows.{RowLists}
use Rattle.row_keys.specs.Lookups.{record_named}
use Rattle.serving_versions.specs.Versions.{dead_versions}

-- ---- add_mkey

-- the bytes behind those of the new key: 16 for each key of the record in its order, and then 16 for each auxiliary key
abbrev pub confounders : Etype → List ℕ → List ℕ
confounders etype random = slice_range random (key_len etype) (key_len etype + 1008)

-- with a new master key of this type
abbrev pub kept_added : Etype → List ℕ → List Master → Princ → Princ
kept_added etype random masters p =
    added_record p masters (new_master etype random masters).key (confounders etype random)

-- ---- use_mkey

abbrev pub with_activations : List Activation → ChainPart → ChainPart
with_activations activations part = record part { activations = activations }

-- with these activations
abbrev pub kept_used : List Activation → Princ → Princ
kept_used activations p = record p { chain = option_map (with_activations activations) p.chain }

-- ---- the change

abbrev pub on_entry : RowLists → State → (Princ → Princ) → Option Op
on_entry rows s change =
    option_map (λ (p : Princ). op.PutPrinc (change p)) (record_named (master_name s.realm) rows.princs)

-- none where each version serves
abbrev pub unless_none : List ℕ → Option Op → Option Op
unless_none [] change = None
unless_none (version ∷ versions) change = change

unfoldable pub kept_masters_of : RowLists → State → Call → Command → Option Op
kept_masters_of rows s call (command.AddMaster etype) =
    option_and_then (λ (newest : Master). on_entry rows s (kept_added (new_etype etype newest) call.random s.masters))
    (last_or None s.masters)
kept_masters_of rows s call (command.UseMaster c) = on_entry rows s (kept_used (used_activations s call c))
kept_masters_of rows s call command.PurgeMasters =
    unless_none (dead_versions s (secs_of s call)) (on_entry rows s (purged_record (dead_versions s (secs_of s call))))
kept_masters_of rows s call _ = None

abbrev pub kept_masters : RowLists → State → Call → Option Op
kept_masters rows s call = kept_masters_of rows s call call.command

-- The change of rows that a command makes, exactly: the step's own, its new blobs wrapped with the confounders of their
-- places in the block. Of the commands of master keys nothing is said here.
use Rattle.std.specs.Prelude.{ℕ, ◌+◌, Bool, false, not, List, [], Option, Some, None, drop}
use Rattle.std.specs.Prelude.{unwrap_or, option_map, option_and_then, if◌then◌else◌}
use Rattle.kadm_commands.specs.declared.commands.AddPrinc.{AddPrinc}
use Rattle.kadm_commands.specs.declared.commands.ChangeKeys.{ChangeKeys}
use Rattle.kadm_commands.specs.declared.commands.Command.{Command}
use Rattle.kadm_commands.specs.declared.commands.Command.TheVariants as command
use Rattle.kadm_commands.specs.declared.commands.ModPrinc.{ModPrinc}
use Rattle.kadm_commands.specs.declared.commands.PurgeKeys.{PurgeKeys}
use Rattle.kadm_commands.specs.declared.commands.RenPrinc.{RenPrinc}
use Rattle.kdb_base.specs.Key.{Key}
use Rattle.kdb_model.specs.Access.{limits_for, modifying}
use Rattle.kdb_model.specs.Calls.{Call}
use Rattle.kdb_model.specs.Fields.{marked, modified_head, rekeyed_head, renamed_head}
use Rattle.kdb_model.specs.Records.{active_in, added, added_keys, by_of, changed_policy, numbers_for}
use Rattle.kdb_plain.specs.Heads.{plain_head}
use Rattle.kdb_plain.specs.States.{history_key, master_of, policy_named, princ_named}
use Rattle.kdb_plain.specs.Strings.{with_string, without_string}
use Rattle.kdb_plain.specs.declared.princs.PlainPrinc.{PlainPrinc}
use Rattle.kdb_plain.specs.declared.states.State.{State}
use Rattle.plain_keys.specs.Keys.{is_password, items_of, kept_keys, made_keys, newest_kvno}
use Rattle.plain_keys.specs.declared.items.PlainItem.{PlainItem}
use Rattle.plain_keys.specs.declared.new_keys.NewKeys.{NewKeys}
use Rattle.princ_rows.specs.declared.entries.Op.{Op}
use Rattle.princ_rows.specs.declared.entries.Op.TheVariants as op
use Rattle.princ_keys.specs.declared.keys.KeyItem.{KeyItem}
use Rattle.princ_keys.specs.declared.remembered.OldSet.{OldSet}
use Rattle.princ_name.specs.Names.{NameParts, printed}
use Rattle.princ_record.specs.declared.princs.Princ.{Princ}
use Rattle.princ_rows.specs.Rows.{RowLists}
use Rattle.row_keys.specs.KeptKeys.{kept_from, settled_keys}
use Rattle.row_keys.specs.Lookups.{newest_version, record_named}
use Rattle.row_keys.specs.Remembering.{remembered_sets}
use Rattle.row_keys.specs.Wraps.{rekeyed_items, taken_lens, wrapped_items}
use Rattle.tagged_data.specs.declared.string_attributes.StringAttribute.{StringAttribute}

-- ---- fields and keys that stay as they are wrapped

unfoldable pub kept_modified : State → Call → ModPrinc → Princ → Princ
kept_modified s call c p = modified_head c.policy (limits_for call modifying c.name) c.options (by_of s call) p

unfoldable pub kept_renamed : State → Call → RenPrinc → Princ → Princ
kept_renamed s call c p =
    record (renamed_head (printed c.new_name) (by_of s call) p) { keys = settled_keys c.name p.keys }

unfoldable pub kept_purged : State → Call → PurgeKeys → Princ → Princ
kept_purged s call c p =
    record (marked (by_of s call) p) { keys = kept_from (unwrap_or c.keep (newest_version p.keys)) p.keys }

unfoldable pub kept_restrung : State → Call → List StringAttribute → Princ → Princ
kept_restrung s call strings p = record (marked (by_of s call) p) { strings = strings }

-- ---- new keys: a random one takes its bytes of the block before its confounder

abbrev pub is_drawn : NewKeys → Bool
is_drawn keys = not (is_password keys)

abbrev pub wrapped_new : Key → List ℕ → List PlainItem → Option NewKeys → List KeyItem
wrapped_new master random items None = []
wrapped_new master random items (Some keys) = wrapped_items master (is_drawn keys) random items

unfoldable pub kept_added : Key → State → Call → AddPrinc → Princ
kept_added master s call c =
    record (plain_head (added s call c)) { keys = wrapped_new master call.random (added_keys call c) c.keys }

abbrev pub fresh_items : Call → ChangeKeys → PlainPrinc → List PlainItem
fresh_items call c q = items_of (newest_kvno q.keys + 1) (made_keys call.random c.name c.keys)

-- the block behind the new keys, and behind those that stay and are wrapped anew
abbrev pub behind_keys : Call → ChangeKeys → PlainPrinc → List ℕ
behind_keys call c q = drop (taken_lens false (kept_keys c.keep_old q.keys))
    (drop (taken_lens (is_drawn c.keys) (fresh_items call c q)) call.random)

abbrev pub kept_old : Key → State → Call → ChangeKeys → PlainPrinc → List OldSet → List OldSet
kept_old history s call c q old = if is_password c.keys
    then remembered_sets history (numbers_for q.policy s.policies).history (behind_keys call c q) q.keys old
    else old

unfoldable pub kept_rekeyed : Key → Key → State → Call → ChangeKeys → PlainPrinc → Princ → Princ
kept_rekeyed master history s call c q p =
    record (rekeyed_head (active_in s call) (numbers_for q.policy s.policies).max_life (by_of s call) p) {
      keys = rekeyed_items master (is_drawn c.keys) call.random (fresh_items call c q) (kept_keys c.keep_old q.keys);
      old = kept_old history s call c q p.old;
    }

-- ---- the change

-- the master key under which new keys are wrapped
abbrev pub active_key : State → Call → Option Key
active_key s call = master_of s.masters (active_in s call)

abbrev pub on_kept : RowLists → NameParts → (Princ → Op) → Option Op
on_kept rows name change = option_map change (record_named (printed name) rows.princs)

abbrev pub rekeys_kept : RowLists → State → Call → ChangeKeys → Option Op
rekeys_kept rows s call c =
    option_and_then (λ (master : Key).
    option_and_then (λ (history : Key).
    option_and_then (λ (q : PlainPrinc).
    on_kept rows c.name (λ p. op.PutPrinc (kept_rekeyed master history s call c q p)))
    (princ_named (printed c.name) s.princs))
    (history_key s.realm s.princs))
    (active_key s call)

unfoldable pub kept_entry_of : RowLists → State → Call → Command → Option Op
kept_entry_of rows s call (command.AddPrinc c) =
    option_map (λ (master : Key). op.PutPrinc (kept_added master s call c)) (active_key s call)
kept_entry_of rows s call (command.ModPrinc c) = on_kept rows c.name (λ p. op.PutPrinc (kept_modified s call c p))
kept_entry_of rows s call (command.ChangeKeys c) = rekeys_kept rows s call c
kept_entry_of rows s call (command.RenPrinc c) =
    on_kept rows c.name (λ p. op.Rename (printed c.name) (kept_renamed s call c p))
kept_entry_of rows s call (command.DelPrinc name) = on_kept rows name (λ _. op.DropPrinc (printed name))
kept_entry_of rows s call (command.PurgeKeys c) = on_kept rows c.name (λ p. op.PutPrinc (kept_purged s call c p))
kept_entry_of rows s call (command.SetString c) =
    on_kept rows c.name (λ p. op.PutPrinc (kept_restrung s call (with_string c.key c.value p.strings) p))
kept_entry_of rows s call (command.DelString c) =
    on_kept rows c.name (λ p. op.PutPrinc (kept_restrung s call (without_string c.key p.strings) p))
kept_entry_of rows s call (command.AddPolicy p) = Some (op.PutPolicy p)
kept_entry_of rows s call (command.ModPolicy c) =
    option_map (λ p. op.PutPolicy (changed_policy c p)) (policy_named c.name rows.policies)
kept_entry_of rows s call (command.DelPolicy name) =
    option_map (λ _. op.DropPolicy name) (policy_named name rows.policies)
kept_entry_of rows s call _ = None

abbrev pub kept_entry : RowLists → State → Call → Option Op
kept_entry rows s call = kept_entry_of rows s call call.command

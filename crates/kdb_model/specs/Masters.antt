-- What the commands of master keys make, as MIT's kdb5_util makes it.
use Rattle.std.specs.Prelude.{ℕ, List, map, take, Option, unwrap_or, option_map}
use Rattle.kadm_commands.specs.declared.commands.UseMaster.{UseMaster}
use Rattle.kadm_commands.specs.declared.versions.MasterRow.{MasterRow}
use Rattle.kadm_commands.specs.declared.versions.PurgeRow.{PurgeRow}
use Rattle.kdb_base.specs.Etypes.{key_len}
use Rattle.kdb_base.specs.declared.keys.Etype.{Etype}
use Rattle.kdb_base.specs.declared.versions.Activation.{Activation}
use Rattle.kdb_base.specs.declared.versions.Master.{Master}
use Rattle.kdb_model.specs.Calls.{Call, secs_of}
use Rattle.kdb_plain.specs.declared.changes.PlainOp.{PlainOp}
use Rattle.kdb_plain.specs.States.{princ_named}
use Rattle.serving_versions.specs.Versions.{cause_of, is_active_at}
use Rattle.kdb_plain.specs.declared.princs.PlainPrinc.{PlainPrinc}
use Rattle.kdb_plain.specs.declared.states.State.{State}
use Rattle.key_activation.specs.Activations.{activation_of, with_activation}
use Rattle.master_keys.specs.Adding.{next_version}
use Rattle.master_keys.specs.First.{master_name}

abbrev pub on_master : State → (PlainPrinc → PlainOp) → Option PlainOp
on_master s change = option_map change (princ_named (master_name s.realm) s.princs)

-- ---- add_mkey

-- the type of the newest key, unless one is given
abbrev pub new_etype : Option Etype → Master → Etype
new_etype given newest = unwrap_or given newest.key.etype

-- the next version, with a key of the first random bytes
unfoldable pub new_master : Etype → List ℕ → List Master → Master
new_master etype random masters =
    record { version = next_version masters; key = record { etype = etype; bytes = take (key_len etype) random } }

-- ---- use_mkey

-- the seconds from which on the version may be active
abbrev pub use_secs : State → Call → UseMaster → ℕ
use_secs s call c = unwrap_or c.secs (secs_of s call)

abbrev pub used_activations : State → Call → UseMaster → List Activation
used_activations s call c = with_activation c.version (use_secs s call c) s.activations

-- ---- purge_mkeys

abbrev pub purge_row : State → ℕ → Master → PurgeRow
purge_row s secs m = record { version = m.version; cause = cause_of s secs m.version }

-- every listed version, and why it serves
unfoldable pub purge_rows : State → ℕ → List PurgeRow
purge_rows s secs = map (purge_row s secs) s.masters

-- ---- list_mkeys

abbrev pub master_row : State → ℕ → Master → MasterRow
master_row s secs m = record {
  version = m.version;
  etype = m.key.etype;
  secs = activation_of m.version s.activations;
  active = is_active_at s.activations secs m.version;
}

unfoldable pub master_rows : State → ℕ → List MasterRow
master_rows s secs = map (master_row s secs) s.masters

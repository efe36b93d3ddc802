-- What rows tell of the versions of the master key: the same words over a state are in kdb_model.
use Rattle.std.specs.Prelude.{ℕ, Bool, List, map, filter, is_none}
use Rattle.kadm_commands.specs.declared.versions.MasterRow.{MasterRow}
use Rattle.kadm_commands.specs.declared.versions.PurgeRow.{PurgeRow}
use Rattle.kdb_base.specs.declared.versions.Activation.{Activation}
use Rattle.kdb_base.specs.declared.versions.Master.{Master}
use Rattle.key_activation.specs.Activations.{activation_of}
use Rattle.princ_record.specs.declared.princs.Princ.{Princ}
use Rattle.row_keys.specs.Lookups.{records_under}
use Rattle.serving_versions.specs.Versions.{cause_from, is_active_at}

-- ---- list_mkeys

abbrev pub master_told : List Activation → ℕ → Master → MasterRow
master_told activations secs m = record {
  version = m.version;
  etype = m.key.etype;
  secs = activation_of m.version activations;
  active = is_active_at activations secs m.version;
}

-- each master key, with its activation
unfoldable pub masters_told : List Master → List Activation → ℕ → List MasterRow
masters_told masters activations secs = map (master_told activations secs) masters

-- ---- purge_mkeys

-- how many records of other principals than K/M each version protects
unfoldable pub counts_of : List ℕ → List Princ → List Master → List ℕ
counts_of realm princs masters = map (λ (m : Master). records_under realm princs m.version) masters

-- by what purge_mkeys judges versions: the realm, the records, the master keys and their activations, and the seconds
-- of the moment
pub record Grounds : Type 0 where
  pub realm : List ℕ
  pub princs : List Princ
  pub masters : List Master
  pub activations : List Activation
  pub secs : ℕ

abbrev pub version_told : Grounds → Master → PurgeRow
version_told v m = record {
  version = m.version;
  cause = cause_from (records_under v.realm v.princs m.version) v.masters v.activations v.secs m.version;
}

-- each version, and why it serves
unfoldable pub versions_told : Grounds → List PurgeRow
versions_told v = map (version_told v) v.masters

abbrev pub is_dead : PurgeRow → Bool
is_dead row = is_none row.cause

-- the versions that do not serve
unfoldable pub dead_told : List PurgeRow → List ℕ
dead_told rows = map (λ (row : PurgeRow). row.version) (filter is_dead rows)

-- Changes of the master keys, as MIT's kdb5_util makes them: add_mkey, use_mkey and purge_mkeys. They leave all of K/M
-- but its keys and its version.
use Rattle.std.specs.Prelude.{ℕ, List, [], ◌∷◌, ◌++◌, filter}
use Rattle.kdb_base.specs.declared.keys.Salt.TheVariants.{Normal}
use Rattle.kdb_base.specs.declared.versions.Activation.{Activation}
use Rattle.kdb_base.specs.declared.versions.Master.{Master}
use Rattle.key_activation.specs.Activations.{with_activation}
use Rattle.kdb_plain.specs.declared.changes.PlainOp.{PlainOp}
use Rattle.kdb_plain.specs.declared.changes.PlainOp.TheVariants.{PutMasters}
use Rattle.serving_versions.specs.Versions.{serves, serving_masters}
use Rattle.plain_keys.specs.declared.items.PlainItem.{PlainItem}
use Rattle.kdb_plain.specs.declared.princs.PlainPrinc.{PlainPrinc}
use Rattle.kdb_plain.specs.declared.states.State.{State}

-- ---- add_mkey

abbrev pub master_item : Master → PlainItem
master_item m = record { kvno = m.version; salt = Normal; key = m.key }

-- K/M with one more key: the newest stands first, and K/M names its version
unfoldable pub with_master : Master → PlainPrinc → PlainPrinc
with_master m entry = record entry { mkvno = m.version; keys = master_item m ∷ entry.keys }

-- the new master key is the newest, and is not active
unfoldable pub adds_master : State → Master → PlainPrinc → PlainOp
adds_master s m entry = PutMasters (with_master m entry) (s.masters ++ m ∷ []) s.activations

-- ---- use_mkey

-- the version may be active from these seconds on
unfoldable pub uses_version : State → ℕ → ℕ → PlainPrinc → PlainOp
uses_version s version secs entry = PutMasters entry s.masters (with_activation version secs s.activations)

-- ---- purge_mkeys

-- the activations of versions that serve
unfoldable pub serving_activations : State → ℕ → List Activation
serving_activations s secs = filter (λ (a : Activation). serves s secs a.version) s.activations

-- K/M without the keys of versions that do not serve
unfoldable pub with_serving : State → ℕ → PlainPrinc → PlainPrinc
with_serving s secs entry = record entry { keys = filter (λ (k : PlainItem). serves s secs k.kvno) entry.keys }

-- what does not serve at these seconds goes
unfoldable pub purges_masters : State → ℕ → PlainPrinc → PlainOp
purges_masters s secs entry =
    PutMasters (with_serving s secs entry) (serving_masters s secs) (serving_activations s secs)

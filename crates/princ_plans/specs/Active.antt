-- The version of the master key under which new keys are kept, as rows tell it.
use Rattle.std.specs.Prelude.{ℕ, ◌≡◌, Option, Some, option_and_then}
use Rattle.command_plans.specs.declared.given.Given.{Given}
use Rattle.kdb_base.specs.Key.{Key}
use Rattle.key_activation.specs.Activations.{active}
use Rattle.kdb_plain.specs.States.{master_of}
use Rattle.master_keys.specs.First.{master_name}
use Rattle.princ_record.specs.declared.facts.ChainPart.{ChainPart}
use Rattle.princ_record.specs.declared.princs.Princ.{Princ}
use Rattle.row_keys.specs.Lookups.{record_named}
use Rattle.tagged_data.specs.Numbers.{IsVersion}

abbrev pub active_of : Given → Princ → Option ℕ
active_of g entry = option_and_then (λ (part : ChainPart). active part.activations g.moment.secs) entry.chain

-- K/M's record has the activations
abbrev pub active_given : Given → Option ℕ
active_given g = option_and_then (active_of g) (record_named (master_name g.realm.now) g.rows.now.princs)

-- the active version, and its master key
pub record IsActiveMaster (g : Given) (version : ℕ) (key : Key) : Type 0 where
  pub active : active_given g ≡ Some version
  pub known : IsVersion version
  pub key_is : master_of g.masters.now version ≡ Some key

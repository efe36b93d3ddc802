-- A new record with its keys wrapped.
use Rattle.std.specs.Prelude.{ℕ, ◌≡◌, IfSome}
use Rattle.std.specs.List.{AllZip}
use Rattle.acl_text.specs.Limits.{IsLimits}
use Rattle.command_plans.specs.Targets.{IsBy, by_given}
use Rattle.command_plans.specs.declared.given.Given.{Given}
use Rattle.kadm_commands.specs.declared.commands.AddPrinc.{AddPrinc}
use Rattle.kdb_base.specs.Key.{Key}
use Rattle.kdb_model.specs.Access.{adding}
use Rattle.princ_plans.specs.Active.{IsActiveMaster}
use Rattle.princ_plans.specs.Adding.{added_record, items_given}
use Rattle.princ_plans.specs.Limits.{limits_given}
use Rattle.princ_record.specs.Princs.{AreLives, lives_of}
use Rattle.princ_record.specs.declared.princs.Princ.{Princ}
use Rattle.row_keys.specs.Shows.{ShowsItem}

-- it is the one under the active version, its keys are shown, and this is known of its values
pub record IsNewRecord (g : Given) (c : AddPrinc) (made : Princ) : Type 0 where
  pub version : ℕ
  pub key : Key
  pub active : IsActiveMaster g version key
  pub made_is : made ≡ added_record g c version key
  pub shows : AllZip (ShowsItem key) made.keys (items_given g c)
  pub by : IsBy (by_given g)
  pub lives : AreLives (lives_of made)
  pub limits : IfSome (limits_given g adding c.name) IsLimits

-- The record that modprinc puts.
use Rattle.std.specs.Prelude.{◌≡◌, ◌&&◌, not, [], ◌∷◌, List, Option, Some, IfSome, is_some, option_map}
use Rattle.acl_text.specs.Limits.{IsLimits}
use Rattle.command_plans.specs.Causes.{is_locked_record}
use Rattle.command_plans.specs.Targets.{IsBy, by_given}
use Rattle.command_plans.specs.declared.given.Given.{Given}
use Rattle.kadm_commands.specs.declared.commands.ModPrinc.{ModPrinc}
use Rattle.kdb_base.specs.declared.outcomes.Refusal.{Refusal}
use Rattle.kdb_base.specs.declared.outcomes.Refusal.TheVariants.{LockedDown}
use Rattle.kdb_model.specs.Access.{modifying}
use Rattle.kdb_model.specs.Fields.{has_bit, lockdown_keys, modified_head}
use Rattle.kdb_model.specs.Refusals.{when}
use Rattle.princ_plans.specs.Limits.{limits_given}
use Rattle.princ_plans.specs.Policies.{missing_policy}
use Rattle.princ_record.specs.Princs.{AreLives, lives_of}
use Rattle.princ_record.specs.declared.princs.Princ.{Princ}

abbrev pub modified_record : Given → ModPrinc → Princ → Princ
modified_record g c p = modified_head c.policy (limits_given g modifying c.name) c.options (by_given g) p

-- that record, and what is known of its values
pub record IsModified (g : Given) (c : ModPrinc) (p made : Princ) : Type 0 where
  pub made_is : made ≡ modified_record g c p
  pub by : IsBy (by_given g)
  pub lives : AreLives (lives_of made)
  pub limits : IfSome (limits_given g modifying c.name) IsLimits

-- over a connection, the keys would not be locked down any more
abbrev pub unlocking : Given → Princ → Princ → Option Refusal
unlocking g p made = when (is_some (option_map (λ acl. acl.now) g.acl) && is_locked_record (Some p) && not
    (has_bit lockdown_keys made.attributes)) LockedDown

-- why the record is not put, before its length
abbrev pub modify_causes : Given → ModPrinc → Princ → Princ → List (Option Refusal)
modify_causes g c p made = unlocking g p made ∷ missing_policy g.rows.now.policies c.policy made.policy ∷ []

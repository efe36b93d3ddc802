-- Policies that are not there.
use Rattle.std.specs.Prelude.{ℕ, Bool, false, not, ◌||◌, List, Option, Some, None}
use Rattle.kadm_commands.specs.declared.policies.PolicyChoice.{PolicyChoice}
use Rattle.kadm_commands.specs.declared.policies.PolicyChoice.TheVariants.{Named}
use Rattle.kdb_base.specs.declared.outcomes.Refusal.{Refusal}
use Rattle.kdb_base.specs.declared.outcomes.Refusal.TheVariants.{UnknownPolicy}
use Rattle.kdb_model.specs.Refusals.{when}
use Rattle.kdb_plain.specs.States.{has_policy}
use Rattle.policy_rules.specs.Rules.{Rules}

abbrev pub lacks : List Rules → Option (List ℕ) → Bool
lacks policies None = false
lacks policies (Some name) = not (has_policy name policies)

abbrev pub lacks_named : List Rules → Option PolicyChoice → Bool
lacks_named policies (Some (Named name)) = not (has_policy name policies)
lacks_named policies _ = false

-- the policy that a line names is not there, or the one that the principal comes to have
abbrev pub missing_policy : List Rules → Option PolicyChoice → Option (List ℕ) → Option Refusal
missing_policy policies choice policy = when (lacks_named policies choice || lacks policies policy) UnknownPolicy

-- Policies of lines and of restrictions.
use Rattle.std.proofs.Common.{◌≡◌, ℕ, List, Option, Some, None, refl, sym, ap, ◌∙◌}
use Rattle.std.specs.Prelude.{IfSome, ◌||◌, unwrap_or}
use Rattle.kadm_commands.specs.Commands.{IsPolicyChoice}
use Rattle.kadm_commands.specs.declared.policies.PolicyChoice.{PolicyChoice}
use Rattle.kadm_commands.specs.declared.policies.PolicyChoice.TheVariants.{Named, Cleared}
use Rattle.kdb_base.specs.declared.outcomes.Refusal.TheVariants.{UnknownPolicy}
use Rattle.kdb_model.specs.Fields.{chosen}
use Rattle.kdb_model.specs.Refusals.{is_missing, names_missing, when}
use Rattle.kdb_plain.specs.declared.states.State.{State}
use Rattle.policy_rules.specs.Rules.{Rules}
use Rattle.princ_plans.specs.Policies.{lacks, lacks_named, missing_policy}
use Rattle.princ_record.specs.Princs.{IsPolicyOr}

-- ---- names that a policy may have

pub chosen_fits : (choice : Option PolicyChoice) (standing : Option (List ℕ)) → IfSome choice IsPolicyChoice
    → IsPolicyOr standing
    → IsPolicyOr (chosen choice standing)
chosen_fits None standing named fits = fits
chosen_fits (Some (Named name)) standing named fits = named
chosen_fits (Some Cleared) standing named fits = tt

pub forced_fits : (forced : Option (Option (List ℕ))) (policy : Option (List ℕ)) → IfSome forced IsPolicyOr
    → IsPolicyOr policy
    → IsPolicyOr (unwrap_or forced policy)
forced_fits None policy limits fits = fits
forced_fits (Some other) policy limits fits = limits

-- ---- policies that are not there

named_alike : (s : State) (choice : Option PolicyChoice) → names_missing s choice ≡ lacks_named s.policies choice
named_alike s None = refl
named_alike s (Some (Named name)) = refl
named_alike s (Some Cleared) = refl

lacks_alike : (s : State) (policy : Option (List ℕ)) → is_missing s policy ≡ lacks s.policies policy
lacks_alike s None = refl
lacks_alike s (Some name) = refl

pub missing_alike : (s : State) (policies : List Rules) (choice : Option PolicyChoice) (policy : Option (List ℕ))
    → policies ≡ s.policies
    → when (names_missing s choice || is_missing s policy) UnknownPolicy ≡ missing_policy policies choice policy
missing_alike s policies choice policy same =
    ap (λ b. when (b || is_missing s policy) UnknownPolicy) (named_alike s choice)
    ∙ ap (λ b. when (lacks_named s.policies choice || b) UnknownPolicy) (lacks_alike s policy)
    ∙ ap (λ (ps : List Rules). missing_policy ps choice policy) (sym same)

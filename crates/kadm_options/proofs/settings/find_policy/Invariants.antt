use Rattle.std.proofs.Common.{◌≡◌, drop}
use Rattle.kadm_options.specs.OptionValues.{policy_given}
use Rattle.kadm_options.proofs.settings.find_policy.Given as goal

abbrev pub invariant-loop-given : goal.invariant-loop-given
invariant-loop-given l = policy_given (drop l.given-index l.options) ≡ policy_given l.options

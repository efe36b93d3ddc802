use Rattle.std.proofs.Common.{◌≡◌, drop}
use Rattle.kadm_options.specs.OptionValues.{first_bad_in}
use Rattle.kadm_options.proofs.settings.first_bad.Given as goal

abbrev pub invariant-loop-given : goal.invariant-loop-given
invariant-loop-given l = first_bad_in (drop l.given-index l.options) ≡ first_bad_in l.options

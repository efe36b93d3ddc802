use Rattle.std.proofs.Common.{◌≡◌, drop}
use Rattle.kadm_options.specs.OptionValues.{seconds_given}
use Rattle.kadm_options.proofs.settings.find_seconds.Given as goal

abbrev pub invariant-loop-given : goal.invariant-loop-given
invariant-loop-given l = seconds_given l.option (drop l.given-index l.options) ≡ seconds_given l.option l.options

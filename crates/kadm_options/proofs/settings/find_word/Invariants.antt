use Rattle.std.proofs.Common.{◌≡◌, drop}
use Rattle.kadm_options.specs.OptionValues.{word_given}
use Rattle.kadm_options.proofs.settings.find_word.Given as goal

abbrev pub invariant-loop-given : goal.invariant-loop-given
invariant-loop-given l = word_given l.option (drop l.given-index l.options) ≡ word_given l.option l.options

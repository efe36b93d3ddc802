use Rattle.std.proofs.Common.{◌≡◌, drop, None}
use Rattle.kadm_options.specs.OptionSteps.{parts_with}
use Rattle.kadm_options.specs.Options.{options_from, option_named}
use Rattle.kadm_options.proofs.arguments.read_options.Given as goal

-- what comes of the options that were read and the words that are left
abbrev pub invariant-loop-at : goal.invariant-loop-at
invariant-loop-at l = parts_with (option_named l.known l.flags) l.reader (drop l.at l.words)
    ≡ options_from (option_named l.known l.flags) None l.words

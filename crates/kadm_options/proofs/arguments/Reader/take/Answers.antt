use Rattle.kadm_options.specs.Options.{option_named}
use Rattle.kadm_options.proofs.OptionStepLemmas.{takes_value}
use Rattle.kadm_options.proofs.arguments.Reader.take.Goals as goal

pub returns-in_ok-take_value-in-Some : goal.returns-in_ok-take_value-in-Some
returns-in_ok-take_value-in-Some c =
    takes_value (option_named c.args.known.now c.args.flags) c.args.word.now c.in-Some.setting c.args.self.now
    _ c.in-Some.is
    c.in_ok-take_value-in-Some.ensures.options c.in_ok-take_value-in-Some.ensures.pending

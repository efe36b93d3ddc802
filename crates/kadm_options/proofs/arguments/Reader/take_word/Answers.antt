use Rattle.std.proofs.Common.{sym, ◌∙◌}
use Rattle.kadm_options.specs.Options.{option_named}
use Rattle.kadm_options.proofs.OptionStepLemmas.{takes_opening, breaks, ends_before}
use Rattle.kadm_options.proofs.arguments.Reader.take_word.Goals as goal

pub returns-then-ends_options : goal.returns-then-ends_options
returns-then-ends_options c =
    ends_before (option_named c.args.known.now c.args.flags) c.args.word.now c.args.self.now c.requires
    (sym c.ends_options.ensures ∙ c.if-ends_options.true)

pub returns-in_ok-take_opening-in-Some : goal.returns-in_ok-take_opening-in-Some
returns-in_ok-take_opening-in-Some c =
    takes_opening (option_named c.args.known.now c.args.flags) c.args.word.now c.in-Some.opening
    c.args.self.now _ c.requires
    (sym c.ends_options.ensures ∙ c.if-ends_options.false) (sym c.in-Some.ensures)
    c.in_ok-take_opening-in-Some.ensures.options c.in_ok-take_opening-in-Some.ensures.pending

pub returns-in-None : goal.returns-in-None
returns-in-None c =
    breaks (option_named c.args.known.now c.args.flags) c.args.word.now c.args.self.now c.requires
    (sym c.ends_options.ensures ∙ c.if-ends_options.false) (sym c.in-None.ensures)

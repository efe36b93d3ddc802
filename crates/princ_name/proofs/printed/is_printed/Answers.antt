use Rattle.std.proofs.Common.{sym, ◌∙◌}
use Rattle.princ_name.specs.PrintedLaws.{printed_test, test_printed}
use Rattle.princ_name.proofs.printed.is_printed.Goals as goal

pub returns-clause-printed : goal.returns-clause-printed
returns-clause-printed c = (
  λ e. test_printed c.args.text.now (sym c.has_form.ensures ∙ e),
  λ p. c.has_form.ensures ∙ printed_test c.args.text.now p,
)

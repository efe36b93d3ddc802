use Rattle.std.proofs.Common.{◌∙◌, ap}
use Rattle.std.specs.Fmt.{styled_decimal}
use Rattle.kadm_values.proofs.PointLemmas.{padded_six}
use Rattle.kadm_values.proofs.points.print_micros.Goals as goal

pub returns : goal.returns
returns c =
    c.in_ok-format.ensures.ok ∙ ap (λ s. styled_decimal s c.args.usecs) c.laid_out.ensures ∙ padded_six c.args.usecs

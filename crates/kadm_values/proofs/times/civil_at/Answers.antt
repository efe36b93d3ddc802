use Rattle.std.proofs.Common.{arith}
use Rattle.jiff.proofs.SpanFacts.{signed_arith}
use Rattle.kadm_values.proofs.TimeLemmas.{at_nanos}
use Rattle.kadm_values.proofs.times.civil_at.Goals as goal

pub returns : goal.returns
returns c =
    at_nanos c.to_datetime.result c.args.secs
    (omega (arith, signed_arith, c.to_datetime.ensures, c.in-Ok.ensures.value, c.from.ensures)) (omega arith)

use Rattle.std.proofs.Common.{arith}
use Rattle.session_base.proofs.Drawing.{drawn}
use Rattle.session_base.proofs.draws.draw.Goals as goal

pub returns-in-Ok-draw-clause-value : goal.returns-in-Ok-draw-clause-value
returns-in-Ok-draw-clause-value g c =
    drawn (g.E.Entropy.stream c.args.entropy.now) c.draw.new.into c.in-Ok.bytes.items c.in-Ok.bytes.len c.args.count
    (omega (arith, c.in-Ok.ensures.len))
    (omega (arith, c.draw.auto.into, c.as_mut_slice.ensures.len, c.in-Ok.ensures.len))
    c.in-Ok-draw.ensures.bytes

use Rattle.std.proofs.Common.{arith}
use Rattle.iprop_wire.proofs.Steps.{advanced, broke_by}
use Rattle.iprop_wire.proofs.decoder.Decoder.advance.Goals as goal

pub returns-in-Ok-clause-ok : goal.returns-in-Ok-clause-ok
returns-in-Ok-clause-ok c =
    advanced c.self.inside.waiting c.in-Ok.message c.self.inside.fault c.self.inside.progress c.take_some.new.progress
    c.self.inside.held.items c.take_some.new.held.items c.args.bytes.now c.args.self.now c.min-count.result
    c.self.view_is c.self.invariant c.requires.going c.requires.some (grind arith) c.in-Ok.ensures.settles

pub returns-in-Err-clause-bad : goal.returns-in-Err-clause-bad
returns-in-Err-clause-bad c =
    broke_by c.self.inside.waiting c.self.inside.fault c.self.inside.progress c.take_some.new.progress
    c.self.inside.held.items c.take_some.new.held.items c.args.bytes.now c.args.self.now c.min-count.result
    c.in-Err.fault
    c.self.view_is c.self.invariant c.requires.going c.requires.some (grind arith) c.in-Err.ensures.settles

use Rattle.std.proofs.Common.{length, arith}
use Rattle.kdb_format.specs.Numbers.{length-big}
use Rattle.iprop_wire.proofs.messages.push_dump.Goals as goal

pub push_value-requires-clause-short : goal.push_value-requires-clause-short
push_value-requires-clause-short c = let e = length-big 8 (length c.args.text.now) in omega arith

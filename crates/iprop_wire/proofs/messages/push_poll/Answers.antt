use Rattle.iprop_wire.proofs.Lengths.{point_short}
use Rattle.iprop_wire.proofs.messages.push_poll.Goals as goal

pub push_value-requires-clause-short : goal.push_value-requires-clause-short
push_value-requires-clause-short c = point_short c.args.asked

use Rattle.iprop_wire.proofs.Lengths.{head_short}
use Rattle.iprop_wire.proofs.messages.push_head.Goals as goal

pub push_value-requires-clause-short : goal.push_value-requires-clause-short
push_value-requires-clause-short c = head_short c.args.head

use Rattle.iprop_wire.proofs.Lengths.{sent_short}
use Rattle.iprop_wire.proofs.messages.push_update.Goals as goal

pub push_value-requires-clause-short : goal.push_value-requires-clause-short
push_value-requires-clause-short c = sent_short c.args.entry.now c.requires

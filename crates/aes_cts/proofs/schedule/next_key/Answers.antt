use Rattle.aes_cts.proofs.Expansion.{next_key_of}
use Rattle.aes_cts.proofs.schedule.next_key.Goals as goal

pub returns : goal.returns
returns c = next_key_of c.args.back c.args.turned

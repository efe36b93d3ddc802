use Rattle.aes_cts.proofs.Expansion.{constant_at}
use Rattle.aes_cts.proofs.schedule.round_constant.Goals as goal

pub returns : goal.returns
returns c = constant_at c.args.index c.requires.low c.requires.high

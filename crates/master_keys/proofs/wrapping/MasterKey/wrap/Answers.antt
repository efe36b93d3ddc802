use Rattle.master_keys.specs.Lengths.{length-wrapped}
use Rattle.master_keys.proofs.wrapping.MasterKey.wrap.Goals as goal

pub returns-clause-long : goal.returns-clause-long
returns-clause-long c = length-wrapped c.in_ok-blob.ensures.unwraps

use Rattle.master_keys.proofs.Chains.{chain_opens}
use Rattle.master_keys.proofs.laws.chains_are_opened_by_each_key.Goals as goal

pub returns : goal.returns
returns c entry masters version key h lists = chain_opens entry masters h version key lists

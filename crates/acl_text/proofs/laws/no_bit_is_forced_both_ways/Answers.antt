use Rattle.acl_text.proofs.LimitsFit.{all_apart}
use Rattle.acl_text.proofs.laws.no_bit_is_forced_both_ways.Goals as goal

pub returns : goal.returns
returns c = λ words limits is. all_apart words limits is

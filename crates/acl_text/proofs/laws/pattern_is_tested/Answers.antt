use Rattle.acl_text.proofs.TargetLemmas.{pattern_matched, pattern_tested}
use Rattle.acl_text.proofs.laws.pattern_is_tested.Goals as goal

pub returns : goal.returns
returns c = λ pattern name. (pattern_matched pattern name, pattern_tested pattern name)

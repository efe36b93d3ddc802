use Rattle.princ_name.proofs.PatternReadings.{is_spelled, spelled_is}
use Rattle.princ_name.proofs.laws.word_has_its_pattern.Goals as goal

pub returns : goal.returns
returns c = λ word given pattern. (is_spelled word given pattern, spelled_is word given pattern)

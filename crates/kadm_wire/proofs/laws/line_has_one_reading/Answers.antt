use Rattle.kadm_wire.proofs.LineLaws.{one_reading}
use Rattle.kadm_wire.proofs.laws.line_has_one_reading.Goals as goal

pub returns : goal.returns
returns c = λ line realm. one_reading realm line

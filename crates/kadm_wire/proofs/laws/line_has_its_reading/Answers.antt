use Rattle.kadm_wire.proofs.LineLaws.{line_said, said_read}
use Rattle.kadm_wire.proofs.laws.line_has_its_reading.Goals as goal

pub returns-clause-read : goal.returns-clause-read
returns-clause-read c = line_said

pub returns-clause-only : goal.returns-clause-only
returns-clause-only c = said_read

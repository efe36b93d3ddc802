use Rattle.kdb_plain.proofs.Valid.{still_valid, point_valid}
use Rattle.kdb_plain.proofs.laws.valid_later.Goals as goal

pub returns-clause-later : goal.returns-clause-later
returns-clause-later c = still_valid c.some_version_stays_active.ensures.some

pub returns-clause-point : goal.returns-clause-point
returns-clause-point c = point_valid

use Rattle.kdb_places.proofs.Judged.{applied_room, applied_name, may_from}
use Rattle.kdb_places.proofs.laws.what_may_be_applied.Goals as goal

pub returns-clause-room : goal.returns-clause-room
returns-clause-room c = applied_room

pub returns-clause-name : goal.returns-clause-name
returns-clause-name c = applied_name

pub returns-clause-may : goal.returns-clause-may
returns-clause-may c = may_from

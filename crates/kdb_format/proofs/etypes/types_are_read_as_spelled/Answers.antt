use Rattle.kdb_format.specs.EtypeLaws.{etype_field, etype_le_field}
use Rattle.kdb_format.proofs.etypes.types_are_read_as_spelled.Goals as goal

pub returns-clause-big : goal.returns-clause-big
returns-clause-big c = etype_field

pub returns-clause-little : goal.returns-clause-little
returns-clause-little c = etype_le_field

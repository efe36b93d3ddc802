use Rattle.kdb_cells.specs.Keys.{printed_is_no_policy, one_kind}
use Rattle.kdb_cells.proofs.laws.kinds_share_no_key.Goals as goal

pub returns-clause-names : goal.returns-clause-names
returns-clause-names c = printed_is_no_policy

pub returns-clause-rows : goal.returns-clause-rows
returns-clause-rows c = one_kind

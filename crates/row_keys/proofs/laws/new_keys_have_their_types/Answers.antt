use Rattle.row_keys.proofs.Blocks.{password_types, random_types}
use Rattle.row_keys.proofs.laws.new_keys_have_their_types.Goals as goal

pub returns-clause-random : goal.returns-clause-random
returns-clause-random c = random_types

pub returns-clause-password : goal.returns-clause-password
returns-clause-password c = password_types

use Rattle.princ_name.specs.Equal.{equal_name}
use Rattle.princ_name.proofs.laws.equal_names_are_one.Goals as goal

pub returns : goal.returns
returns c = equal_name

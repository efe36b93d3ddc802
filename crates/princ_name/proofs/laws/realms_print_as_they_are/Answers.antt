use Rattle.princ_name.specs.RealmLaws.{prints_in, is_name_in}
use Rattle.princ_name.proofs.laws.realms_print_as_they_are.Goals as goal

pub returns-clause-prints : goal.returns-clause-prints
returns-clause-prints c = prints_in

pub returns-clause-names : goal.returns-clause-names
returns-clause-names c = is_name_in

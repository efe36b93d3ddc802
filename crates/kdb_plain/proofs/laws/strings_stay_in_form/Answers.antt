use Rattle.kdb_plain.proofs.StringsInForm.{set_in_form, taken_in_form}
use Rattle.kdb_plain.proofs.laws.strings_stay_in_form.Goals as goal

pub returns-clause-set : goal.returns-clause-set
returns-clause-set c = set_in_form

pub returns-clause-taken : goal.returns-clause-taken
returns-clause-taken c = taken_in_form

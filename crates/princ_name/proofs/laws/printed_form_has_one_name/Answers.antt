-- By the name that the form spells.
use Rattle.princ_name.proofs.OwnNames.{printed_once}
use Rattle.princ_name.proofs.laws.printed_form_has_one_name.Goals as goal

pub returns : goal.returns
returns c = printed_once

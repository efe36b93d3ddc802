-- Byte by byte.
use Rattle.princ_name.proofs.PrintedSpells.{name_printed}
use Rattle.princ_name.proofs.laws.printed_form_spells_the_name.Goals as goal

pub returns : goal.returns
returns c = name_printed

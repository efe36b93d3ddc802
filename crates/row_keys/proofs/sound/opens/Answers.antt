use Rattle.std.proofs.Common.{◌∙◌, Err, ap}
use Rattle.row_keys.proofs.sound.opens.Goals as goal

pub returns-in-Err-Wrong-clause-no : goal.returns-in-Err-Wrong-clause-no
returns-in-Err-Wrong-clause-no c e key =
    c.unwrap.ensures.wrong (c.in-Err-Wrong.is ∙ ap Err c.in-Err-Wrong.field-0-is) key

use Rattle.std.proofs.Common.{Err, ap, ◌∙◌}
use Rattle.row_keys.specs.Sound.{judged}
use Rattle.stash_opening.proofs.Causes.{first_is_unsound}
use Rattle.stash_opening.proofs.opening.are_sound.Goals as goal

pub returns-in-Err-Row-clause-no : goal.returns-in-Err-Row-clause-no
returns-in-Err-Row-clause-no c e =
    first_is_unsound (judged c.args.masters.now c.args.realm.now c.args.secs) c.args.rows.now c.in-Err-Row.field-0-0
    (c.check_rows.ensures.row c.in-Err-Row.field-0-0 (c.in-Err-Row.is ∙ ap Err c.in-Err-Row.field-0-is))

use Rattle.std.proofs.Common.{refl}
use Rattle.princ_rows.proofs.Searches.{none_has}
use Rattle.princ_rows.proofs.sorted.holds_key.Goals as goal

pub returns-in-Err-clause-none : goal.returns-in-Err-clause-none
returns-in-Err-clause-none g c = λ _. none_has g.T.Keyed.key_of c.args.items.now c.args.key.now c.in-Err.field-0
    (c.in-Err.ensures.absent c.in-Err.field-0 refl)

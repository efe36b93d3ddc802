use Rattle.std.proofs.Common.{refl, sym, inr}
use Rattle.princ_rows.proofs.Edits.{drop_absent}
use Rattle.princ_rows.proofs.sorted.leaving.Goals as goal

pub returns-in-Err-clause-none : goal.returns-in-Err-clause-none
returns-in-Err-clause-none g c = λ _.
    inr (sym (drop_absent g.T.Keyed.key_of c.args.items.now c.args.items.now c.args.old.now c.in-Err.field-0 refl
    (c.in-Err.ensures.absent c.in-Err.field-0 refl)))

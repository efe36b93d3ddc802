use Rattle.std.proofs.Common.{◌∙◌, ap}
use Rattle.std.specs.Prelude.{Err}
use Rattle.kdb_base.specs.declared.outcomes.Refusal.TheVariants.{NotADatabase, Damaged}
use Rattle.store_opening.proofs.Refusals.{nothing_found, broken_found, same_refusal}
use Rattle.store_opening.proofs.reading.read_control.Goals as goal

pub returns-in-Err-NotADatabase-clause-refused : goal.returns-in-Err-NotADatabase-clause-refused
returns-in-Err-NotADatabase-clause-refused g c = λ tells r is.
    let e = c.in-Err-NotADatabase in
    nothing_found (g.D.Disk.view c.args.disk.now).seen e.field-0 e.field-0-is (e.ensures.force tells)
    ∙ ap Err (same_refusal NotADatabase r is)

pub returns-in-Err-Damaged-clause-refused : goal.returns-in-Err-Damaged-clause-refused
returns-in-Err-Damaged-clause-refused g c = λ tells r is.
    let e = c.in-Err-Damaged in
    broken_found (g.D.Disk.view c.args.disk.now).seen e.field-0 e.file e.place e.field-0-is (e.ensures.force tells)
    ∙ ap Err (same_refusal (Damaged e.file e.place) r is)

use Rattle.princ_record.specs.declared.princs.Princ.{Princ}
use Rattle.kdb_store.proofs.Given.{named_by_none}
use Rattle.kdb_store.proofs.writing.drop_princ.Goals as goal

pub returns-in-Some-clause-only : goal.returns-in-Some-clause-only
returns-in-Some-clause-only c =
    named_by_none (λ (row : Princ). row.name) c.args.name.now c.args.rows.now.princs c.take_out.result
    c.in-Some.ensures.some.0 c.in-Some.ensures.some.1

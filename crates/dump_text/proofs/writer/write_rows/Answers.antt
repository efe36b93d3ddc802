use Rattle.dump_text.proofs.Parts.{rows_held, rows_said, princs_said}
use Rattle.dump_text.proofs.writer.write_rows.Goals as goal

pub returns-in-Ok-write_policies-clause-ok : goal.returns-in-Ok-write_policies-clause-ok
returns-in-Ok-write_policies-clause-ok g c =
    rows_held c.args.mark.now c.args.rows.now _ _ _ _ _ _ _ _ c.princs.ensures.value c.policies.ensures.value
    c.in-Ok.ensures.ok c.in-Ok-write_policies.ensures.ok

pub returns-in-Err-write_policies-clause-err : goal.returns-in-Err-write_policies-clause-err
returns-in-Err-write_policies-clause-err g c =
    rows_said c.args.mark.now c.args.rows.now _ _ _ _ _ _ _ c.princs.ensures.value c.policies.ensures.value
    c.in-Ok.ensures.ok c.in-Err-write_policies.ensures.err

pub returns-in-Err-clause-err : goal.returns-in-Err-clause-err
returns-in-Err-clause-err g c =
    princs_said c.args.mark.now c.args.rows.now _ _ _ _ c.princs.ensures.value c.in-Err.ensures.err

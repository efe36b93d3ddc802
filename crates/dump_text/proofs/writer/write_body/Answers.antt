use Rattle.dump_text.specs.Dumps.{end_line, marked, marked_rows, row_count}
use Rattle.dump_text.proofs.Parts.{end_said, said_in_front}
use Rattle.dump_text.proofs.writer.write_body.Goals as goal

pub returns-in-Err-write_end-clause-err : goal.returns-in-Err-write_end-clause-err
returns-in-Err-write_end-clause-err g c =
    end_said c.args.mark.now c.args.rows.now _ _ _ _ _ _ c.count_rows-count.ensures c.in-Ok.ensures.ok
    c.in-Err-write_end.ensures.err

pub returns-in-Err-clause-err : goal.returns-in-Err-clause-err
returns-in-Err-clause-err g c = said_in_front c.args.out.now.items (marked_rows c.args.mark.now c.args.rows.now)
    (marked c.args.mark.now (end_line (row_count c.args.rows.now))) _ _ c.in-Err.ensures.err

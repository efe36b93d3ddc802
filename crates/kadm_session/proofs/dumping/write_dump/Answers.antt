use Rattle.kadm_session.proofs.Dumps.{said_end, said_lines, said_whole}
use Rattle.primary_core.specs.Opened.{place_of}
use Rattle.kadm_session.proofs.dumping.write_dump.Goals as goal

pub returns-in-Ok-write_whole-clause-ok : goal.returns-in-Ok-write_whole-clause-ok
returns-in-Ok-write_whole-clause-ok g c =
    said_whole (place_of c.args.primary.now) _ _ _ c.in-Ok.ensures.ok c.in-Ok-write_whole.ensures.ok

pub returns-in-Err-write_whole-clause-err : goal.returns-in-Err-write_whole-clause-err
returns-in-Err-write_whole-clause-err g c =
    said_end (place_of c.args.primary.now) _ _ _ c.in-Ok.ensures.ok c.in-Err-write_whole.ensures.err

pub returns-in-Err-clause-err : goal.returns-in-Err-clause-err
returns-in-Err-clause-err g c = said_lines (place_of c.args.primary.now) _ _ c.in-Err.ensures.err

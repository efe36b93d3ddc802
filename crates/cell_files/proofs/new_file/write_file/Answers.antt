use Rattle.std.proofs.lemmas.Result.{on_ok_weaker}
use Rattle.kdb_disk.proofs.Runs.{looked}
use Rattle.kdb_disk.proofs.Differing.{differs_run, replaced_after, emptied_reads}
use Rattle.cell_files.proofs.new_file.write_file.Goals as goal

pub write_content-requires-clause-empty : goal.write_content-requires-clause-empty
write_content-requires-clause-empty g c tells = emptied_reads (c.in_ok-empty_file.ensures.ok tells)

pub returns-in_err-write_content-clause-moments : goal.returns-in_err-write_content-clause-moments
returns-in_err-write_content-clause-moments g c tells =
    differs_run (c.empty_file.ensures.moments tells) (c.write_content.ensures.moments tells)

pub returns-clause-moments : goal.returns-clause-moments
returns-clause-moments g c tells =
    looked (differs_run (c.empty_file.ensures.moments tells) (c.write_content.ensures.moments tells))
    (c.sync.ensures.looks tells)

pub returns-clause-ok : goal.returns-clause-ok
returns-clause-ok g c tells =
    on_ok_weaker c.sync.result (λ durable. replaced_after (c.in_ok-empty_file.ensures.ok tells)
    (c.in_ok-write_content.ensures.seen tells) (c.sync.ensures.looks tells) durable) (c.sync.ensures.durable tells)

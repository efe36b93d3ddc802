use Rattle.std.proofs.lemmas.Result.{on_ok_weaker}
use Rattle.kdb_disk.proofs.Runs.{looked}
use Rattle.kdb_disk.proofs.Differing.{differs_run, replaced_after}
use Rattle.kdb_disk.proofs.whole.replace_file.Goals as goal

pub returns-in_err-write_pieces-clause-moments : goal.returns-in_err-write_pieces-clause-moments
returns-in_err-write_pieces-clause-moments g c tells =
    differs_run (c.empty_file.ensures.moments tells) (c.write_pieces.ensures.moments tells)

pub returns-clause-moments : goal.returns-clause-moments
returns-clause-moments g c tells =
    looked (differs_run (c.empty_file.ensures.moments tells) (c.write_pieces.ensures.moments tells))
    (c.sync.ensures.looks tells)

pub returns-clause-ok : goal.returns-clause-ok
returns-clause-ok g c tells =
    on_ok_weaker c.sync.result (λ durable. replaced_after (c.in_ok-empty_file.ensures.ok tells)
    (c.in_ok-write_pieces.ensures.seen tells) (c.sync.ensures.looks tells) durable) (c.sync.ensures.durable tells)

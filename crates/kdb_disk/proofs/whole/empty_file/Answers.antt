use Rattle.std.proofs.lemmas.Result.{on_ok_weaker}
use Rattle.kdb_disk.proofs.Runs.{looked}
use Rattle.kdb_disk.proofs.Differing.{cut_differs, emptied}
use Rattle.kdb_disk.proofs.whole.empty_file.Goals as goal

pub returns-in_err-cut-clause-moments : goal.returns-in_err-cut-clause-moments
returns-in_err-cut-clause-moments g c tells = cut_differs (c.cut.ensures.crash tells) (c.cut.ensures.time tells)

pub returns-clause-moments : goal.returns-clause-moments
returns-clause-moments g c tells =
    looked (cut_differs (c.cut.ensures.crash tells) (c.cut.ensures.time tells)) (c.sync.ensures.looks tells)

pub returns-clause-ok : goal.returns-clause-ok
returns-clause-ok g c tells =
    on_ok_weaker c.sync.result (λ durable.
    emptied (c.in_ok-cut.ensures.seen tells) (c.sync.ensures.looks tells) durable) (c.sync.ensures.durable tells)

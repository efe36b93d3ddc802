use Rattle.std.proofs.Common.{length, ◌∙◌}
use Rattle.std.proofs.lemmas.Result.{on_ok_weaker}
use Rattle.kdb_disk.proofs.Runs.{wrote, looked, long_after}
use Rattle.kdb_disk.proofs.gate.write_synced.Goals as goal

pub returns-in_err-write_at-clause-moments : goal.returns-in_err-write_at-clause-moments
returns-in_err-write_at-clause-moments g c tells = wrote c.args.file c.args.at (length c.args.bytes.now)
    (c.write_at.ensures.crash tells) (c.write_at.ensures.time tells)

pub returns-clause-moments : goal.returns-clause-moments
returns-clause-moments g c tells = looked (wrote c.args.file c.args.at (length c.args.bytes.now)
    (c.write_at.ensures.crash tells) (c.write_at.ensures.time tells)) (c.sync.ensures.looks tells)

pub returns-clause-length : goal.returns-clause-length
returns-clause-length g c tells =
    let before = g.D.Disk.view c.args.disk.now in
    let after = g.D.Disk.view c.sync.new.self in
    let look = c.sync.ensures.looks tells in
    on_ok_weaker c.sync.result (λ _. long_after before.seen after.seen c.args.file c.args.at c.args.bytes.now
    (look.seen ∙ c.in_ok-write_at.ensures.seen tells) (c.requires.at tells)) (c.sync.ensures.durable tells)

use Rattle.dump_text.specs.Judged.{judged as dump_judged}
use Rattle.kprop_rounds.specs.Rounds.{end_of_dump}
use Rattle.kprop_rounds.proofs.Ends.{crash_some, nothing_safe, nothing_some}
use Rattle.replica_core.specs.Opened.{place_of, told_dump}
use Rattle.replica_steps.specs.Replicas.{Install}
use Rattle.kprop_rounds.proofs.dumps.install.Goals as goal

pub returns-in-Ok-load-clause-some : goal.returns-in-Ok-load-clause-some
returns-in-Ok-load-clause-some g c =
    crash_some g.D.Disk c.args.disk.now c.load.new.disk c.args.replica.now.size (place_of c.args.replica.now)
    (Install (told_dump c.in-Ok.dump)) tt c.load.ensures.crash

pub returns-in-Err-clause-some : goal.returns-in-Err-clause-some
returns-in-Err-clause-some g c =
    crash_some g.D.Disk c.args.disk.now c.load.new.disk c.args.replica.now.size (place_of c.args.replica.now)
    (Install (told_dump c.in-Ok.dump)) tt c.load.ensures.crash

pub returns-in-Err-DumpBad-clause-crash : goal.returns-in-Err-DumpBad-clause-crash
returns-in-Err-DumpBad-clause-crash g c =
    nothing_safe g.D.Disk c.args.disk.now c.args.replica.now.database
    (end_of_dump c.args.replica.now.size (place_of c.args.replica.now) (dump_judged c.args.text.now)).made c.requires.on

pub returns-in-Err-DumpBad-clause-some : goal.returns-in-Err-DumpBad-clause-some
returns-in-Err-DumpBad-clause-some g c =
    nothing_some g.D.Disk c.args.disk.now c.args.replica.now.size c.args.replica.now.database c.requires.on

pub returns-in-Err-MemoryOut-clause-crash : goal.returns-in-Err-MemoryOut-clause-crash
returns-in-Err-MemoryOut-clause-crash g c =
    nothing_safe g.D.Disk c.args.disk.now c.args.replica.now.database
    (end_of_dump c.args.replica.now.size (place_of c.args.replica.now) (dump_judged c.args.text.now)).made c.requires.on

pub returns-in-Err-MemoryOut-clause-some : goal.returns-in-Err-MemoryOut-clause-some
returns-in-Err-MemoryOut-clause-some g c =
    nothing_some g.D.Disk c.args.disk.now c.args.replica.now.size c.args.replica.now.database c.requires.on

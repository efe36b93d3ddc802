use Rattle.std.proofs.Common.{ap}
use Rattle.kdb_disk.specs.Files.{Files}
use Rattle.kdb_control.proofs.Places.{whole_read}
use Rattle.kdb_control.proofs.front.read_front.Goals as goal

pub returns-in-Ok-eq0-clause-bytes : goal.returns-in-Ok-eq0-clause-bytes
returns-in-Ok-eq0-clause-bytes g c tells =
    let kept = c.loop-count.invariant.keeps tells in
    let read = c.in-Ok-eq0.ensures in
    let none = c.in-Ok-eq0.field-0-test in
    whole_read c.loop-count.count c.in-Ok-eq0.field-0 c.read_piece.new.front ((g.D.Disk.view c.loop-count.disk).seen 0)
    ((g.D.Disk.view c.args.disk.now).seen 0)
    none (read.all tells none) c.loop-count.invariant.room (read.bytes tells (c.loop-count.invariant.bytes tells))
    (ap (λ (files : Files). files 0) kept.seen)

use Rattle.std.proofs.Common.{drop, ◌+◌, ◌++◌, ◌∙◌, ap}
use Rattle.kdb_disk.specs.Files.{Files}
use Rattle.kdb_disk.proofs.Readers.{same_left}
use Rattle.kdb_disk.proofs.reader.FileReader.read_on.Goals as goal

pub returns-in-Ok-clause-left : goal.returns-in-Ok-clause-left
returns-in-Ok-clause-left g c tells =
    let r = c.args.self.now in
    let n = c.in-Ok.count in
    let look = c.read_piece.ensures.looks tells in
    ap (λ (files : Files). drop r.from c.read_piece.new.buffer.items ++ drop (r.at + n) (files r.file)) look.seen
    ∙ same_left r.from r.at n r.buffer.items ((g.D.Disk.view c.args.disk.now).seen r.file) c.read_piece.new.buffer.items
    r.taken (c.in-Ok.ensures.bytes tells)

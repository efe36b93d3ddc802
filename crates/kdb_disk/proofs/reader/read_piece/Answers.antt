use Rattle.std.proofs.Common.{◌≤◌, ◌+◌, ◌∙◌, length, rules}
use Rattle.kdb_disk.proofs.Readers.{piece_read}
use Rattle.kdb_disk.proofs.reader.read_piece.Goals as goal

pub returns-in-Ok-read-clause-bytes : goal.returns-in-Ok-read-clause-bytes
returns-in-Ok-read-clause-bytes g c tells =
    let old = c.args.buffer.now.items in
    let n = c.in-Ok-read.count in
    let few : n ≤ length c.read.new.into = search rules in
    let fits : c.len-start.result + n ≤ c.resize.new.self.len = search rules in
    piece_read c.len-start.result n c.resize.new.self.len c.args.room old _ c.deref_mut.result.now c.read.new.into _ _
    c.truncate.new.self.items _
    (search rules) (c.deref_mut.ensures.value ∙ c.in-Ok.ensures.items) few fits c.truncate.ensures.items
    (c.in-Ok-read.ensures.bytes tells)

use Rattle.std.proofs.Common.{ap}
use Rattle.std.specs.Prelude.{Err}
use Rattle.kadm_loading.proofs.Fed.{bad_stays}
use Rattle.kadm_loading.proofs.reading.feed_piece.Goals as goal

pub returns-in-Err-DumpBad : goal.returns-in-Err-DumpBad
returns-in-Err-DumpBad c =
    let is = ap Err c.in-Err-DumpBad.field-0-is in
    bad_stays c.args.reader.now c.feed.new.self c.args.piece.now c.in-Err-DumpBad.field-0-0
    (c.in-Err-DumpBad.ensures.bad c.in-Err-DumpBad.field-0-0 is)
    (c.in-Err-DumpBad.ensures.stays c.in-Err-DumpBad.field-0-0 is)

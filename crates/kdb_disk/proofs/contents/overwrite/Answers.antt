use Rattle.std.proofs.Common.{arith}
use Rattle.kdb_disk.proofs.Puts.{mid_put}
use Rattle.kdb_disk.proofs.contents.overwrite.Goals as goal

pub returns : goal.returns
returns c = record {
  written = mid_put c.args.at _ c.args.file.now c.copy_from_slice.new.self c.args.bytes.now
      c.copy_from_slice.ensures.after (omega arith);
}

use Rattle.std.proofs.Common.{◌≤◌, ◌-◌, length, arith, rules, IfOk}
use Rattle.kdb_control.proofs.Places.{piece_read_ok}
use Rattle.kdb_control.proofs.front.read_piece.Goals as goal

pub returns-clause-bytes : goal.returns-clause-bytes
returns-clause-bytes g c tells so_far =
    let few : IfOk c.read.result (λ n. n ≤ length c.read.new.into) = search rules in
    piece_read_ok c.read.result c.args.count (length c.args.front.now - c.args.count) c.args.front.now c.read.new.into
    ((g.D.Disk.view c.args.disk.now).seen 0) (omega (arith, c.requires.room)) few (c.read.ensures.within tells) so_far
    (c.read.ensures.bytes tells)

use Rattle.std.proofs.Common.{◌+◌, Some, length}
use Rattle.kdb_base.specs.Limits.{most_rows}
use Rattle.princ_rows.specs.Effects.{effect}
use Rattle.kdb_places.proofs.Judged.{room_test}
use Rattle.kdb_places.proofs.applying.is_room.Goals as goal

pub returns : goal.returns
returns c =
    let after = effect (Some c.args.op.now) c.args.rows.now in
    room_test (length after.princs + length after.policies) most_rows c.has_room_for.result c.has_room_for.ensures.yes
    c.has_room_for.ensures.no

use Rattle.iprop_wire.proofs.Came.{little_held}
use Rattle.iprop_wire.proofs.laws.no_more_than_a_frame_is_held.Goals as goal

pub returns : goal.returns
returns c = λ text begun held bytes is. little_held text begun held bytes is

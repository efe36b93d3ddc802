use Rattle.iprop_wire.proofs.Came.{handed_out_spelled}
use Rattle.iprop_wire.proofs.laws.what_is_handed_out_is_spelled_so.Goals as goal

pub returns : goal.returns
returns c = λ text message bytes is. handed_out_spelled text message bytes is

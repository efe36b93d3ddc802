use Rattle.master_keys.proofs.OneKey.{one_key}
use Rattle.master_keys.proofs.laws.blobs_hold_one_key.Goals as goal

pub returns : goal.returns
returns c = λ master etype blob one other long bytes s t.
    one_key c.sealed_once.ensures master etype blob one other long bytes s t

use Rattle.std.proofs.Common.{arith}
use Rattle.std.proofs.lemmas.List.{nil_from_length}
use Rattle.iprop_wire.proofs.Pieces.{one_piece, no_more}
use Rattle.iprop_wire.proofs.messages.push_pieces.Goals as goal

pub loop-rest-preserved : goal.loop-rest-preserved
loop-rest-preserved c =
    one_piece c.loop-rest.out.items c.loop-rest.rest.now _ c.push_frame.new.out.items c.split_at.result.0.now
    c.split_at.result.1.now c.min.result (grind arith) (grind arith)
    c.split_at.ensures.front c.split_at.ensures.back c.in_ok-push_frame.ensures c.loop-rest.invariant

pub returns : goal.returns
returns c = no_more c.loop-rest.out.items c.loop-rest.rest.now _ (nil_from_length c.loop-rest.rest.now (grind arith))
    c.loop-rest.invariant

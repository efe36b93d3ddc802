-- At the end all that was taken is told, and its front is kept.
use Rattle.std.proofs.Common.{arith}
use Rattle.kadm_keytabs.proofs.Taking.{kept_whole, taken_more, taken_short, written}
use Rattle.kadm_keytabs.proofs.inputs.read_input.Goals as goal

pub read_piece-requires-clause-short : goal.read_piece-requires-clause-short
read_piece-requires-clause-short g c = taken_short _ _ _ _ _ c.loop-taken.invariant.whole

pub returns-in-Ok-eq0-clause-kept : goal.returns-in-Ok-eq0-clause-kept
returns-in-Ok-eq0-clause-kept g c =
    rw c.from_vec.ensures
    (kept_whole _ _ _ _ (taken_more _ _ _ _ _ _ _ c.loop-taken.invariant.whole c.in-Ok-eq0.ensures.taken)
    (c.in-Ok-eq0.ensures.end (search)))

pub returns-in-Ok-eq0-clause-short : goal.returns-in-Ok-eq0-clause-short
returns-in-Ok-eq0-clause-short g c = rw c.from_vec.ensures (taken_short _ _ _ _ _ c.in-Ok-eq0.ensures.taken)

pub loop-taken-preserved : goal.loop-taken-preserved
loop-taken-preserved g c = record {
  whole = taken_more _ _ _ _ _ _ _ c.loop-taken.invariant.whole c.in-Ok-read_piece.ensures.taken;
  room = search (arith);
  piece = written c.loop-taken.piece.len c.loop-taken.piece.items c.read_piece.new.piece (search (arith))
      (search (arith)) c.loop-taken.invariant.piece;
  counts = search (arith);
}

use Rattle.std.proofs.Common.{arith}
use Rattle.aes_cts.specs.Words.{block_of}
use Rattle.aes_cts.proofs.Keys.{unrounds_first, unrounds_next, unrounds_last}
use Rattle.aes_cts.proofs.rounds.decrypt.Goals as goal

pub loop-index-init : goal.loop-index-init
loop-index-init g c = unrounds_first c.args.keys.now _ (block_of c.args.s) _ (omega arith) c.add_key-state.ensures

pub loop-index-preserved : goal.loop-index-preserved
loop-index-preserved g c = unrounds_next c.args.keys.now _ (block_of c.args.s) _ _ c.loop-index.index (omega arith)
    (omega arith) c.loop-index.invariant c.decrypt_round-next.ensures

pub returns : goal.returns
returns g c = unrounds_last c.args.keys.now _ (block_of c.args.s) _ _ c.loop-index.index _ (omega arith) (omega arith)
    (omega arith) c.loop-index.invariant c.decrypt_last_round.ensures

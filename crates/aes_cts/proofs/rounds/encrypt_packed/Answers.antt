use Rattle.std.proofs.Common.{◌∙◌, ap, List, ℕ, arith}
use Rattle.std.specs.Int.{w128, to_be_bytes}
use Rattle.aes_cts.specs.Cipher.{rounds}
use Rattle.aes_cts.specs.Words.{block_of, schedule_bytes}
use Rattle.aes_cts.proofs.Keys.{rounds_first, rounds_next, rounds_last}
use Rattle.aes_cts.proofs.rounds.encrypt_packed.Goals as goal

pub loop-r-init : goal.loop-r-init
loop-r-init g c =
    rounds_first c.args.keys.now _ (block_of c.unpack.result) _ (omega arith) c.add_key-state.ensures
    ∙ ap (λ (l : List ℕ). rounds (schedule_bytes c.args.keys.now) l 0) c.unpack.ensures

pub loop-r-preserved : goal.loop-r-preserved
loop-r-preserved g c =
    rounds_next c.args.keys.now _ (to_be_bytes w128 c.args.block) _ _ c.loop-r.r (omega arith)
    (omega arith) c.loop-r.invariant c.encrypt_round-next.ensures

pub returns : goal.returns
returns g c =
    c.pack.ensures
    ∙ rounds_last c.args.keys.now _ (to_be_bytes w128 c.args.block) _ _ c.loop-r.r _ (omega arith) (omega arith)
    (omega arith) c.loop-r.invariant c.encrypt_last_round.ensures

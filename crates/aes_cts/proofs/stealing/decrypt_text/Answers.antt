use Rattle.std.proofs.Common.{◌-◌, ◌/◌, ◌∙◌, ap, replicate, ℕ, arith}
use Rattle.aes_cts.specs.Inverse.{uncipher_by}
use Rattle.aes_cts.specs.Words.{block_of, schedule_bytes}
use Rattle.aes_cts.specs.Steps.{blocks_before_end, return}
use Rattle.aes_cts.proofs.Passes.{length_block, return_first, return_step, return_last}
use Rattle.aes_cts.proofs.stealing.decrypt_text.Goals as goal

pub loop-index-init : goal.loop-index-init
loop-index-init g c = return_first (uncipher_by (schedule_bytes c.args.keys.now) (g.row.N - 1)) c.args.text.now
    (c.saturating_sub-whole.result / 16)

pub loop-index-preserved : goal.loop-index-preserved
loop-index-preserved g c =
    return_step (uncipher_by (schedule_bytes c.args.keys.now) (g.row.N - 1))
    (block_of c.loop-index.vector) c.loop-index.text c.decrypt_next-next.new.block
    (block_of c.decrypt_next-next.result) _ (c.saturating_sub-whole.result / 16) c.loop-index.index _
    (omega arith) (omega arith) (omega arith)
    (c.decrypt_next-next.auto.block ∙ length_block c.loop-index.index _ c.loop-index.text (omega arith) (omega arith))
    c.decrypt_next-next.ensures.text c.decrypt_next-next.ensures.vector c.loop-index.invariant

pub returns : goal.returns
unfolding blocks_before_end
returns g c =
    let e = uncipher_by (schedule_bytes c.args.keys.now) (g.row.N - 1) in
    return_last e (block_of c.loop-index.vector) c.loop-index.text c.decrypt_end.new.end _
    (c.saturating_sub-whole.result / 16) c.loop-index.index
    (omega arith) c.decrypt_end.ensures
    (c.loop-index.invariant
    ∙ ap (λ (n : ℕ). return (n / 16) e (replicate 16 0) c.args.text.now) c.saturating_sub-whole.ensures)

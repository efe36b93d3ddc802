use Rattle.std.proofs.Common.{◌-◌, ◌/◌, ◌∙◌, ap, sym, length, replicate, ℕ, arith}
use Rattle.aes_cts.specs.Cipher.{cipher_by}
use Rattle.aes_cts.specs.Words.{block_of, schedule_bytes}
use Rattle.aes_cts.specs.Steps.{blocks_before_end, steal}
use Rattle.aes_cts.proofs.Expansion.{length-block_of}
use Rattle.aes_cts.proofs.Passes.{steal_first, steal_step, steal_last}
use Rattle.aes_cts.proofs.stealing.encrypt_text.Goals as goal

pub loop-index-init : goal.loop-index-init
loop-index-init g c = steal_first (cipher_by (schedule_bytes c.args.keys.now) (g.row.N - 1)) c.args.text.now
    (c.saturating_sub-whole.result / 16)

pub loop-index-preserved : goal.loop-index-preserved
loop-index-preserved g c =
    steal_step (cipher_by (schedule_bytes c.args.keys.now) (g.row.N - 1))
    (block_of c.loop-index.vector) c.loop-index.text c.encrypt_next-next.new.block
    (block_of c.encrypt_next-next.result) _ (c.saturating_sub-whole.result / 16) c.loop-index.index _
    (omega arith) (omega arith) (omega arith)
    (ap length (sym c.encrypt_next-next.ensures.vector) ∙ length-block_of c.encrypt_next-next.result)
    c.encrypt_next-next.ensures.text c.encrypt_next-next.ensures.vector c.loop-index.invariant

pub returns : goal.returns
unfolding blocks_before_end
returns g c =
    let e = cipher_by (schedule_bytes c.args.keys.now) (g.row.N - 1) in
    steal_last e (block_of c.loop-index.vector) c.loop-index.text c.encrypt_end.new.end _
    (c.saturating_sub-whole.result / 16) c.loop-index.index
    (omega arith) c.encrypt_end.ensures
    (c.loop-index.invariant
    ∙ ap (λ (n : ℕ). steal (n / 16) e (replicate 16 0) c.args.text.now) c.saturating_sub-whole.ensures)

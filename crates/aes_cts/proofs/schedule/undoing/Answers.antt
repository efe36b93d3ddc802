use Rattle.std.proofs.Common.{arith, ◌-◌, [], slice_index_or, ◌∙◌, sym, refl}
use Rattle.std.proofs.lemmas.List.{length-set, length-replicate}
use Rattle.aes_cts.proofs.Expansion.{undo_key_first, undo_key_inner, undo_key_last, undo_more}
use Rattle.aes_cts.proofs.schedule.undoing.Goals as goal

pub loop-index-init : goal.loop-index-init
loop-index-init g c = (
  length-set _ 0 _ ∙ length-replicate g.row.N _,
  undo_more c.args.keys.now _ 0 _ (length-replicate g.row.N _ ∙ sym c.told-keys) (omega arith)
      (undo_key_first c.args.keys.now g.row.N _ _ c.told-keys (omega arith) refl) (λ r lt. absurd (omega arith)),
)

pub loop-index-preserved : goal.loop-index-preserved
loop-index-preserved g c = (
  length-set c.loop-index.undo c.loop-index.index c.unmix_key.result ∙ c.loop-index.invariant.0,
  undo_more c.args.keys.now c.loop-index.undo c.loop-index.index c.unmix_key.result
      (c.loop-index.invariant.0 ∙ sym c.told-keys) (omega arith)
      (undo_key_inner c.args.keys.now g.row.N c.loop-index.index _ _ c.told-keys (omega arith)
      (omega arith) c.unmix_key.ensures)
      c.loop-index.invariant.1,
)

pub returns : goal.returns
returns g c = (
  length-set c.loop-index.undo _ _ ∙ c.loop-index.invariant.0 ∙ sym c.told-keys,
  λ r lt. undo_more c.args.keys.now c.loop-index.undo (g.row.N - 1) (slice_index_or c.args.keys.now 0 [])
      (c.loop-index.invariant.0 ∙ sym c.told-keys) (omega arith)
      (undo_key_last c.args.keys.now g.row.N [] _ c.told-keys (omega arith) refl)
      (λ q below. c.loop-index.invariant.1 q (omega arith)) r (omega arith),
)

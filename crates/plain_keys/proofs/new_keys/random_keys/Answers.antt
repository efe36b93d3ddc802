use Rattle.std.proofs.Common.{arith}
use Rattle.kdb_base.specs.declared.keys.Etype.TheVariants.{Aes128}
use Rattle.plain_keys.proofs.Drawn.{next_drawn}
use Rattle.plain_keys.proofs.new_keys.random_keys.Goals as goal

pub loop-etype-preserved : goal.loop-etype-preserved
loop-etype-preserved c =
    rw (
      c.in_ok-push.ensures.items,
      c.from_bytes.ensures,
      c.split_at.ensures.front,
      c.key_len.ensures,
      c.split_at-in-loop-etype.ensures.back,
      c.drawn_len.ensures,
    )
    (next_drawn c.loop-etype.keys.items c.loop-etype.left.now c.args.random.now c.args.etypes.now
    c.loop-etype.etype-index Aes128 (omega (arith, c.loop-etype-test.true)) c.loop-etype.invariant)

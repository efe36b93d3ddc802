use Rattle.std.proofs.Common.{arith, ◌≡◌, take, ◌*◌, ◌∙◌, refl}
use Rattle.std.proofs.lemmas.List.{length-set, take_all, take-set-le}
use Rattle.aes_cts.specs.Words.{schedule_bytes}
use Rattle.aes_cts.proofs.Expansion.{expand_first, expand_step}
use Rattle.aes_cts.proofs.schedule.expand.Goals as goal

pub loop-index-init : goal.loop-index-init
loop-index-init g c = (
  c.told-keys,
  refl,
  expand_first (4 * c.args.stride) c.args.stride (schedule_bytes (take c.args.stride c.args.keys.now)),
)

pub loop-index-preserved : goal.loop-index-preserved
loop-index-preserved g c = (
  length-set c.loop-index.keys c.loop-index.index c.next_key.result ∙ c.loop-index.invariant.0,
  take-set-le c.args.stride c.loop-index.keys c.loop-index.index c.next_key.result (omega arith)
      ∙ c.loop-index.invariant.1,
  expand_step c.args.stride c.loop-index.index c.loop-index.keys _ c.turned.result c.next_key.result
      (schedule_bytes (take c.args.stride c.args.keys.now))
      (omega arith) (omega arith) (omega arith) (omega arith) c.loop-index.invariant.2 c.turned.ensures
      c.next_key.ensures,
)

pub returns-clause-words : goal.returns-clause-words
returns-clause-words g c =
    let e : c.loop-index.index ≡ g.row.N = omega arith in
    let all : take c.loop-index.index c.loop-index.keys ≡ c.loop-index.keys =
    take_all _ c.loop-index.keys (omega arith) in
    let held = c.loop-index.invariant.2 in
    let there = rw all at held in
    rw e at there

pub returns-clause-key : goal.returns-clause-key
returns-clause-key g c = c.loop-index.invariant.1

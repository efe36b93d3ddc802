use Rattle.std.proofs.Common.{◌≡◌, ◌-◌, ◌*◌, ◌++◌, take, drop, replicate}
use Rattle.aes_cts.specs.Inverse.{uncipher_by}
use Rattle.aes_cts.specs.Words.{block_of, schedule_bytes}
use Rattle.aes_cts.specs.Steps.{return}
use Rattle.aes_cts.proofs.stealing.decrypt_text.Given as goal

abbrev pub invariant-loop-index : goal.invariant-loop-index
invariant-loop-index g l =
    take (16 * l.index) l.text ++ return (l.whole - l.index) (uncipher_by (schedule_bytes l.keys) (g.row.N - 1))
    (block_of l.vector) (drop (16 * l.index) l.text)
    ≡ return l.whole (uncipher_by (schedule_bytes l.keys) (g.row.N - 1)) (replicate 16 0) l.fn.text

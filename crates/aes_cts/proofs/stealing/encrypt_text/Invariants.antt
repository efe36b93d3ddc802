use Rattle.std.proofs.Common.{◌≡◌, ◌-◌, ◌*◌, ◌++◌, take, drop, replicate}
use Rattle.aes_cts.specs.Cipher.{cipher_by}
use Rattle.aes_cts.specs.Words.{block_of, schedule_bytes}
use Rattle.aes_cts.specs.Steps.{steal}
use Rattle.aes_cts.proofs.stealing.encrypt_text.Given as goal

abbrev pub invariant-loop-index : goal.invariant-loop-index
invariant-loop-index g l =
    take (16 * l.index) l.text ++ steal (l.whole - l.index) (cipher_by (schedule_bytes l.keys) (g.row.N - 1))
    (block_of l.vector) (drop (16 * l.index) l.text)
    ≡ steal l.whole (cipher_by (schedule_bytes l.keys) (g.row.N - 1)) (replicate 16 0) l.fn.text

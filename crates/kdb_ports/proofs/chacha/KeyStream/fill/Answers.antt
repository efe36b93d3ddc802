use Rattle.std.proofs.Common.{◌<◌, length, ap, ◌∙◌, arith}
use Rattle.kdb_ports.specs.ChaCha.{key_byte, chacha_bytes}
use Rattle.kdb_ports.specs.Told.{later_bytes}
use Rattle.kdb_ports.proofs.KeyStreams.{later_bytes-later_bytes, stands_one_more}
use Rattle.kdb_ports.proofs.chacha.KeyStream.fill.Goals as goal

pub loop-byte-preserved : goal.loop-byte-preserved
loop-byte-preserved c =
    let told = chacha_bytes c.args.self.now.key c.args.self.now.drawn in
    let at = c.loop-byte.self in
    let inside : c.loop-byte.byte-index < length c.loop-byte.into =
    omega (arith, c.loop-byte.auto.into, c.loop-byte-test.true) in
    let kept = c.loop-byte.invariant in (
      stands_one_more c.loop-byte.into c.loop-byte.byte-index c.next_byte.result told
          (chacha_bytes at.key at.drawn) kept.0 inside kept.2
          (c.next_byte.ensures.byte ∙ ap (key_byte at.key) (omega arith)),
      c.next_byte.ensures.key ∙ kept.1,
      c.next_byte.ensures.rest ∙ ap (later_bytes 1) kept.2 ∙ later_bytes-later_bytes 1 c.loop-byte.byte-index told,
    )

use Rattle.std.proofs.Common.{◌<◌, arith}
use Rattle.kdb_ports.proofs.KeyStreams.{next_in_word, goes_on, first_of_word, after_first}
use Rattle.kdb_ports.proofs.chacha.KeyStream.next_byte.Goals as goal
use Rattle.kdb_ports.proofs.chacha.KeyStream.next_byte.Goals.{then-self-eq4, else-self-eq4}

pub returns-clause-byte : goal.returns-clause-byte
returns-clause-byte c =
    let old = c.self.inside in
    let at = c.self.invariant in
    elim c.if-self-eq4.branch [
      | then-self-eq4 w ↦ rw (← c.self.view_is, w.self-inside-is, w.if-self-eq4.true)
          (first_of_word old.words w.next_word.new.self w.next_word.result w.to_le_bytes-self-inside.result
          at.zero_nonce at.below w.next_word.ensures w.to_le_bytes-self-inside.ensures)
      | else-self-eq4 w ↦
          let within = at.within in
          let more : old.given < 4 = omega (arith, w.if-self-eq4.false) in
          rw (← c.self.view_is, w.self-inside-is) (next_in_word old.words old.word old.given at more)
    ]

pub returns-clause-rest : goal.returns-clause-rest
returns-clause-rest c =
    let old = c.self.inside in
    elim c.if-self-eq4.branch [
      | then-self-eq4 w ↦ rw (← c.self.view_is, w.self-inside-is, w.if-self-eq4.true)
          (after_first old.words w.next_word.new.self w.next_word.result w.next_word.ensures)
      | else-self-eq4 w ↦ rw (← c.self.view_is, w.self-inside-is) (goes_on old.words old.given)
    ]

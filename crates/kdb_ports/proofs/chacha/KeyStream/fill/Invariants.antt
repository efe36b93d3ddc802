use Rattle.std.proofs.Common.{◌≡◌, ℕ, ◌<◌, slice_index}
use Rattle.kdb_ports.specs.Told.{later_bytes}
use Rattle.kdb_ports.specs.ChaCha.{chacha_bytes}
use Rattle.kdb_ports.proofs.chacha.KeyStream.fill.Given as goal

abbrev pub invariant-loop-byte : goal.invariant-loop-byte
invariant-loop-byte l =
    ((i : ℕ) → i < l.byte-index → slice_index l.into i ≡ chacha_bytes l.fn.self.key l.fn.self.drawn i)
    × (l.self.key ≡ l.fn.self.key)
    × (chacha_bytes l.self.key l.self.drawn ≡ later_bytes l.byte-index (chacha_bytes l.fn.self.key l.fn.self.drawn))

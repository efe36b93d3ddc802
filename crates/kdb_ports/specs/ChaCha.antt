-- Random bytes from a seed: the key stream of ChaCha20 (RFC 8439, 2.3 and 2.4) under the seed as its
-- key, with a zero nonce. The block counter has 64 bits, and so the stream is the RFC's for its first
-- 2 ^ 32 blocks.
use Rattle.std.specs.Prelude.{◌≡◌, ◌<◌, ◌≤◌, ℕ, Option, Some, None, ◌+◌, ◌-◌}
use Rattle.std.specs.Prelude.{◌*◌, ◌/◌, ◌%◌, ◌^◌, List, length, slice_index}
use Rattle.std.specs.Int.{w32, to_le_bytes}
use Rattle.rand_chacha.specs.ChaCha.{ChaCha, word_at}
use Rattle.kdb_ports.specs.Told.{StandsIn, later_bytes}

-- byte i of a key's stream: each word of the stream gives its four bytes, the lowest first, and the
-- stream repeats after 2 ^ 68 words
unfoldable pub key_byte : List ℕ → ℕ → ℕ
key_byte key i = slice_index (to_le_bytes w32 (word_at 10 key 0 (i / 4 % 2 ^ 68))) (i % 4)

-- the bytes that come where this many were drawn
abbrev pub chacha_bytes : List ℕ → ℕ → ℕ → ℕ
chacha_bytes key drawn i = key_byte key (drawn + i)

-- an entropy in memory: the eight words of its key, the bytes drawn, modulo 2 ^ 70, the calls that are
-- to fail, the calls made and those that failed
pub record ChaChaState : Type 0 where
  pub key : List ℕ
  pub drawn : ℕ
  pub fails : List ℕ
  pub calls : ℕ
  pub faults : ℕ

-- a place in a key's stream
pub record StreamPlace : Type 0 where
  pub key : List ℕ
  pub drawn : ℕ

-- an entropy over the system's random source: its place, once it has a seed, and the draws that failed
pub record SeededState : Type 0 where
  pub place : Option StreamPlace
  pub faults : ℕ

-- a stream of which nothing is told
abbrev pub untold_stream : Option (ℕ → ℕ)
untold_stream = None

-- where a draw begins: a stream that is not there yet begins with its first byte
abbrev pub BeginsAt : Option StreamPlace → StreamPlace → Type 0
BeginsAt None place = place.drawn ≡ 0
BeginsAt (Some old) place = place ≡ old

-- these bytes were drawn from one key's stream, and what comes is behind them
pub record IsDrawn (old new : Option StreamPlace) (bytes : List ℕ) : Type 0 where
  pub at : StreamPlace
  pub rest : StreamPlace
  pub begins : BeginsAt old at
  pub stands : StandsIn bytes (chacha_bytes at.key at.drawn)
  pub ends : new ≡ Some rest
  pub key : rest.key ≡ at.key
  pub behind : chacha_bytes rest.key rest.drawn ≡ later_bytes (length bytes) (chacha_bytes at.key at.drawn)

-- the bytes drawn where this many were given of the word before the next one
abbrev pub drawn_in : ChaCha → ℕ → ℕ
drawn_in words given = (4 * words.word_pos + (2 ^ 70 - 4) + given) % 2 ^ 70

-- the next word, and the one before it, of which this many bytes were given
pub record StandsAt (words : ChaCha) (word : List ℕ) (given : ℕ) : Type 0 where
  pub zero_nonce : words.stream ≡ 0
  pub below : words.word_pos < 2 ^ 68
  pub within : given ≤ 4
  pub last : given < 4 → word ≡ to_le_bytes w32 (word_at 10 words.key 0 ((words.word_pos + (2 ^ 68 - 1)) % 2 ^ 68))

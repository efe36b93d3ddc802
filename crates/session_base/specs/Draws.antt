-- What a clock and a source of random bytes will give, where both are told.
use Rattle.std.specs.Prelude.{ℕ, zero, ◌+◌, suc, List, [], ◌∷◌, Option, Some, None}
use Rattle.kdb_base.specs.Moment.{Moment}
use Rattle.kdb_ports.specs.Told.{later_bytes, later_moments}
use Rattle.kdb_ports.specs.declared.clocks.Clock.{Ghosts as Clocks}
use Rattle.kdb_ports.specs.declared.entropies.Entropy.{Ghosts as Entropies}

-- the moments of the clock, and the random bytes, each by their number from here on
pub record Draws : Type 0 where
  pub moments : ℕ → Moment
  pub stream : ℕ → ℕ

abbrev pub told_draws : Option (ℕ → Moment) → Option (ℕ → ℕ) → Option Draws
told_draws None stream = None
told_draws (Some moments) None = None
told_draws (Some moments) (Some stream) = Some (record { moments = moments; stream = stream })

-- of this clock and this source
abbrev pub draws_by : {C E : Type 0} → Clocks C → Entropies E → C → E → Option Draws
draws_by c e clock entropy = told_draws (c.moments clock) (e.stream entropy)

-- the first so many bytes of a stream
unfoldable pub bytes_of : ℕ → (ℕ → ℕ) → List ℕ
bytes_of zero stream = []
bytes_of (suc n) stream = stream 0 ∷ bytes_of n (λ i. stream (1 + i))

-- the moment and the block of random bytes that come next
abbrev pub moment_in : Draws → Moment
moment_in draws = draws.moments 0

abbrev pub block_in : Draws → List ℕ
block_in draws = bytes_of 2048 draws.stream

-- a command takes one moment and one block
abbrev pub behind_command : Draws → Draws
behind_command draws = record { moments = later_moments draws.moments; stream = later_bytes 2048 draws.stream }

-- an opening takes one moment
abbrev pub behind_moment : Draws → Draws
behind_moment draws = record { moments = later_moments draws.moments; stream = draws.stream }

-- What an object of the outside tells of its content: Some of it, or None, which claims nothing.
use Rattle.std.specs.Prelude.{ℕ, ◌+◌, ◌≡◌, ◌<◌, List, [], ◌++◌, length, slice_index, Option, Some, None, option_map, ⊤}
use Rattle.kdb_base.specs.Moment.{Moment}

-- these bytes, and then what is told
abbrev pub before_told : List ℕ → Option (List ℕ) → Option (List ℕ)
before_told piece told = option_map (λ rest. piece ++ rest) told

-- what is told, and then these bytes
abbrev pub after_told : Option (List ℕ) → List ℕ → Option (List ℕ)
after_told told piece = option_map (λ front. front ++ piece) told

-- of an object that tells nothing
abbrev pub untold : Option (List ℕ)
untold = None

-- nothing is left, where it is told
abbrev pub IsSpent : Option (List ℕ) → Type 0
IsSpent None = ⊤
IsSpent (Some left) = left ≡ []

-- the moments that a clock gives after its next one
abbrev pub later_moments : (ℕ → Moment) → ℕ → Moment
later_moments moments n = moments (n + 1)

-- the moments of a clock that stands still
abbrev pub always : Moment → Option (ℕ → Moment)
always m = Some (λ _. m)

-- these are the first bytes of a stream
abbrev pub StandsIn : List ℕ → (ℕ → ℕ) → Type 0
StandsIn bytes stream = (i : ℕ) → i < length bytes → slice_index bytes i ≡ stream i

-- the stream behind its first n bytes
abbrev pub later_bytes : ℕ → (ℕ → ℕ) → ℕ → ℕ
later_bytes n stream i = stream (n + i)

-- a stream of zeros
abbrev pub zero_stream : Option (ℕ → ℕ)
zero_stream = Some (λ _. 0)

-- What a link tells of its connections, and what each call makes of that.
use Rattle.std.specs.Prelude.{ℕ, ◌≡◌, List, [], ◌∷◌, ◌++◌, Option, Some, None, option_map, ⊤}

-- The connections of a link: one was made by each dial that did not fail.
pub record Wire : Type 0 where
  -- what was sent on each, the newest first
  pub sent : List (List ℕ)
  -- what the newest is still to give
  pub left : List ℕ
  -- what those of later dials give, the next one first
  pub to_come : List (List ℕ)

-- the first of these texts; no bytes where there is none
abbrev pub first_of : List (List ℕ) → List ℕ
first_of [] = []
first_of (text ∷ more) = text

abbrev pub behind_first : List (List ℕ) → List (List ℕ)
behind_first [] = []
behind_first (text ∷ more) = more

-- these bytes behind the newest text
abbrev pub onto_first : List ℕ → List (List ℕ) → List (List ℕ)
onto_first bytes [] = []
onto_first bytes (text ∷ older) = (text ++ bytes) ∷ older

-- a new connection, on which nothing was sent yet
abbrev pub dialled : Wire → Wire
dialled w = record { sent = [] ∷ w.sent; left = first_of w.to_come; to_come = behind_first w.to_come }

abbrev pub with_sent : List ℕ → Wire → Wire
with_sent bytes w = record { sent = onto_first bytes w.sent; left = w.left; to_come = w.to_come }

-- these bytes, and then what the newest connection is still to give
abbrev pub with_before : List ℕ → Wire → Wire
with_before piece w = record { sent = w.sent; left = piece ++ w.left; to_come = w.to_come }

-- ---- of what is told

abbrev pub after_dial : Option Wire → Option Wire
after_dial told = option_map (λ w. dialled w) told

abbrev pub after_sent : Option Wire → List ℕ → Option Wire
after_sent told bytes = option_map (λ w. with_sent bytes w) told

abbrev pub before_received : List ℕ → Option Wire → Option Wire
before_received piece told = option_map (λ w. with_before piece w) told

-- the newest connection has nothing left, where it is told
abbrev pub IsDrained : Option Wire → Type 0
IsDrained None = ⊤
IsDrained (Some w) = w.left ≡ []

-- of a link that tells nothing
abbrev pub untold_wire : Option Wire
untold_wire = None

-- ---- in memory

-- a link in memory: its connections, the calls that are to fail, the calls made and those that failed
pub record LinkState : Type 0 where
  pub wire : Wire
  pub fails : List ℕ
  pub calls : ℕ
  pub faults : ℕ

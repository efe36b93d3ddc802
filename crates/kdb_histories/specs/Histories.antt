-- What holds of all places that there ever were, and of what made them, the newest first.
use Rattle.std.specs.Prelude.{ℕ, ◌≡◌, ◌<◌, ◌⊎◌, List, [], ◌∷◌, Contains, Option}
use Rattle.std.specs.List.{All}
use Rattle.iprop_truths.specs.Truths.{HoldsFrom}
use Rattle.kdb_base.specs.Moments.{ComesBefore, micros}
use Rattle.kdb_base.specs.declared.moments.Point.{Point}
use Rattle.kdb_histories.specs.Seen.{Seen, seen}
use Rattle.kdb_histories.specs.Stages.{Filled, Stage, ShowsAt, epoch, fold, places}
use Rattle.kdb_places.specs.Places.{Place, contents_of, created, last_entries, point_of}
use Rattle.kdb_plain.specs.States.{IsValid}
use Rattle.kdb_plain.specs.declared.states.State.{State}
use Rattle.princ_rows.specs.Rows.{RowLists}
use Rattle.row_keys.specs.Shows.{Shows}

-- each place, with what all deeds up to it come to
abbrev pub all_seen : List Stage → List Seen
all_seen [] = []
all_seen (t ∷ older) = seen t.place (fold (t ∷ older)) ∷ all_seen older

-- at a later point, or with the same contents and the same state
abbrev pub IsLater : Seen → Seen → Type 0
IsLater a b = ComesBefore (point_of a.place) (point_of b.place)
    ⊎ ((contents_of b.place ≡ contents_of a.place) × (b.state ≡ a.state))

-- each is later than all before it
abbrev pub IsRising : List Seen → Type 0
IsRising [] = Unit {0}
IsRising (b ∷ older) = All (λ a. IsLater a b) older × IsRising older

-- A point names one contents and one state.
abbrev pub IsOneSeen : List Seen → Type 0
IsOneSeen all = (a b : Seen) → Contains all a → Contains all b → point_of a.place ≡ point_of b.place
    → (contents_of a.place ≡ contents_of b.place) × (a.state ≡ b.state)

-- what the place holds leads up to it
abbrev pub HoldsUpTo : List Place → Place → Type 0
HoldsUpTo places p = HoldsFrom places p.held (contents_of p)

-- some entry may be held
abbrev pub HasRoom : Place → Type 0
HasRoom p = 0 < p.size

-- What a place holds leads from place to place up to it, and some entry may be held.
pub record IsGood (places : List Place) : Type 0 where
  pub held : All (HoldsUpTo places) places
  pub sized : All HasRoom places

-- The first place of a history, at a time behind all earlier ones, with the state that its rows show.
pub record IsCreation (before : List Place) (t : Stage) : Type 0 where
  pub realm : List ℕ
  pub rows : RowLists
  pub point : Point
  pub size : ℕ
  pub some : 0 < size
  pub block : ℕ
  pub stash : Option (List ℕ)
  pub format : ℕ
  pub is : t.place ≡ created realm rows point size block stash format
  pub later : All (λ p. micros (point_of p).time < micros point.time) before
  pub state : State
  pub deed : t.deed ≡ Filled state
  pub same : state.realm ≡ realm
  pub at : state.point ≡ point
  pub shows : Shows rows state
  pub valid : IsValid point.time state

-- the rows of each place show what all deeds up to it come to
abbrev pub IsFolded : List Stage → Type 0
IsFolded [] = Unit {0}
IsFolded (t ∷ older) = ShowsAt t.place (fold (t ∷ older)) × IsFolded older

-- each place holds the last entries since its base marker, as many as its size allows
abbrev pub IsHeldInFull : List Stage → Type 0
IsHeldInFull [] = Unit {0}
IsHeldInFull (t ∷ older) = (t.place.held ≡ last_entries t.place.size (epoch (t ∷ older))) × IsHeldInFull older

-- Points rise, and all this holds.
pub record IsStory (stages : List Stage) : Type 0 where
  pub rising : IsRising (all_seen stages)
  pub good : IsGood (places stages)
  pub folded : IsFolded stages
  pub full : IsHeldInFull stages

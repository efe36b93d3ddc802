-- Durations as text.
use Rattle.std.specs.Prelude.{ℕ, ◌≡◌, ◌+◌, ◌*◌, ◌^◌, ◌<◌, ◌≤◌, ◌⊎◌, true, false}
use Rattle.std.specs.Prelude.{not, nat_eq, ⊤, List, [], ◌∷◌, ◌++◌, length}
use Rattle.std.specs.List.{list_all}
use Rattle.kadm_values.specs.declared.durations.Unit.{Unit}
use Rattle.kadm_values.specs.Numbers.{is_digit, decimal_value, IsDigits, SpellsSeconds}

-- days, hours, minutes and seconds, by their letters d, h, m and s
unfoldable pub units : List Unit
units =
    record { letter = 100; seconds = 86_400 } ∷ record { letter = 104; seconds = 3_600 }
    ∷ record { letter = 109; seconds = 60 } ∷ record { letter = 115; seconds = 1 } ∷ []

-- digits and the unit's letter, and behind them what the rest spells
pub record LedBy (unit : Unit) (SpellsRest : List ℕ → ℕ → Type 0) (text : List ℕ) (secs : ℕ) : Type 0 where
  pub number : List ℕ
  pub behind : List ℕ
  pub more : ℕ
  pub digits : IsDigits number
  pub text_is : text ≡ number ++ unit.letter ∷ behind
  pub rest : SpellsRest behind more
  pub secs_is : secs ≡ decimal_value number * unit.seconds + more

-- a group for each of some of these units, in their order
unfoldable pub SpellsGroups : List Unit → List ℕ → ℕ → Type 0
SpellsGroups [] text secs = (text ≡ []) × (secs ≡ 0)
SpellsGroups (unit ∷ others) text secs =
    SpellsGroups others text secs ⊎ LedBy unit (SpellsGroups others) text secs

-- the letter is no digit and none of the others', and the unit has at most a day
pub record IsUnit (unit : Unit) (others : List Unit) : Type 0 where
  pub letter : is_digit unit.letter ≡ false
  pub once : list_all (λ other. not (nat_eq other.letter unit.letter)) others ≡ true
  pub some : 1 ≤ unit.seconds
  pub few : unit.seconds ≤ 86_400

unfoldable pub IsUnits : List Unit → Type 0
IsUnits [] = ⊤
IsUnits (unit ∷ others) = IsUnit unit others × IsUnits others

-- at least one group, with a sum that fits 32 bits
pub record SpellsSum (text : List ℕ) (secs : ℕ) : Type 0 where
  pub some : 1 ≤ length text
  pub groups : SpellsGroups units text secs
  pub fits : secs < 2 ^ 32

-- a number of seconds, or groups
unfoldable pub SpellsDuration : List ℕ → ℕ → Type 0
SpellsDuration text secs = SpellsSeconds text secs ⊎ SpellsSum text secs

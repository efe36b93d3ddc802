-- What the lines that come from a reader ask for, and what was taken from its source.
use Rattle.std.specs.Prelude.{ℕ, ◌+◌, ◌≡◌, ◌<◌, List, [], ◌∷◌, Option, Some, None, length, option_map, IsTrue, ⊤}
use Rattle.kdb_ports.specs.Told.{IsSpent}
use Rattle.kadm_lines.specs.Reader.{ReaderState, to_come}
use Rattle.kadm_session.specs.Input.{commands_in, IsAsked}
use Rattle.kadm_session.specs.declared.intake.Asked.{Asked}
use Rattle.kadm_session.specs.declared.intake.Next.{Next}
use Rattle.kadm_session.specs.declared.intake.Next.TheVariants as next

-- what comes in a database of this realm, where the source tells what is left
abbrev pub coming : List ℕ → ReaderState → Option (List ℕ) → Option (List Asked)
coming realm reader told = commands_in realm (to_come reader told)

-- no line comes, where it is told
abbrev pub NoCommand : Option (List Asked) → Type 0
NoCommand None = ⊤
NoCommand (Some commands) = commands ≡ []

abbrev pub before_commands : Asked → Option (List Asked) → Option (List Asked)
before_commands asked told = option_map (λ commands. asked ∷ commands) told

-- the first of what came, and the others still come
abbrev pub Comes : Next → Option (List Asked) → Option (List Asked) → Type 0
Comes (next.Line asked) old new = old ≡ before_commands asked new
Comes next.End old new = NoCommand old

abbrev pub IsValid : List ℕ → Next → Type 0
IsValid realm (next.Line asked) = IsAsked realm asked
IsValid realm next.End = ⊤

-- how far a reader came, against what its source told at first
pub record HasTaken (first : Option (List ℕ)) (reader : ReaderState) (told : Option (List ℕ)) : Type 0 where
  pub count : option_map length first ≡ option_map (λ left. length left + reader.taken) told
  pub spent : IsTrue reader.over → IsSpent told
  pub below : IsTrue reader.over → reader.taken < 4294967296

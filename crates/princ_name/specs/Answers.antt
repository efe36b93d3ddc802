-- Answers of a reader of names, exactly as the words spell them.
use Rattle.std.specs.Prelude.{ℕ, ◌≡◌, ◌≢◌, ◌+◌, ◌⊎◌, List, length, Result, Ok, Err, ⊤}
use Rattle.princ_name.specs.Faults.{fault_place}
use Rattle.princ_name.specs.Names.{NameParts, IsName}
use Rattle.princ_name.specs.Spelling.{Spells, SpellsText, SpellsWithRealm}
use Rattle.princ_name.specs.declared.faults.NameFault.{NameFault}
use Rattle.princ_name.specs.declared.faults.NameFault.TheVariants.{BadName, MemoryOut}

-- the name is answered, or memory ran out
unfoldable pub AnswersName : NameParts → Result NameParts NameFault → Type 0
AnswersName name (Ok answer) = answer ≡ name
AnswersName name (Err MemoryOut) = ⊤
AnswersName name (Err (BadName offset)) = ⊥

-- what is read of the word is answered, or memory ran out
unfoldable pub AnswersReading : Result NameParts ℕ → Result NameParts NameFault → Type 0
AnswersReading reading (Ok name) = reading ≡ Ok name
AnswersReading reading (Err MemoryOut) = ⊤
AnswersReading reading (Err (BadName offset)) = reading ≡ Err offset

-- the word spells no name
pub record SpellsNone (word given : List ℕ) : Type 0 where
  pub none : (name : NameParts) → Spells word given name → IsName name → ⊥

-- the word spells a name of another realm, whose first byte stands at this place
pub record OtherRealm (word given : List ℕ) (offset : ℕ) : Type 0 where
  pub name : NameParts
  pub spelled : SpellsWithRealm SpellsText word name.parts name.realm
  pub is_name : IsName name
  pub other : name.realm ≢ given
  pub place : offset ≡ length spelled.front + 1

-- why a word is refused where a name of the given realm is wanted, and the place
abbrev pub IsRefusedAt : List ℕ → List ℕ → ℕ → Type 0
IsRefusedAt word given offset = (SpellsNone word given × (offset ≡ fault_place word)) ⊎ OtherRealm word given offset

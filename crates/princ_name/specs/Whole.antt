-- A word's components and realm, within the limits of names.
use Rattle.std.specs.Prelude.{ℕ, ◌≡◌, ◌+◌, false, List, [], ◌∷◌, map, length, Option, Some, None, Result, Ok, Err, ⊤}
use Rattle.princ_name.specs.Names.{NameParts, IsName, printed, printed_text}
use Rattle.princ_name.specs.Spelling.{SpellsPart, SpellsParts, SpellsWithRealm}
use Rattle.princ_name.specs.declared.parts.Part.{Part}
use Rattle.princ_name.specs.declared.whole.Whole.{Whole}
use Rattle.princ_name.specs.declared.faults.NameFault.{NameFault}
use Rattle.princ_name.specs.declared.faults.NameFault.TheVariants.{BadName, MemoryOut}

-- the texts of the parts, as a name
abbrev pub name_of : List Part → Part → NameParts
name_of parts realm = record { parts = map (λ p. p.text) parts; realm = realm.text }

-- the given realm, which does not stand in the word and so is no wildcard
abbrev pub given_part : List ℕ → Part
given_part realm = record { text = realm; bare = false }

-- the realm begins at this place of the word
pub record RealmAt (word : List ℕ) (parts : List Part) (realm : Part) (at : ℕ) : Type 0 where
  pub spelled : SpellsWithRealm SpellsPart word parts realm
  pub place : at ≡ length spelled.front + 1

pub record IsGiven (word given : List ℕ) (parts : List Part) (realm : Part) : Type 0 where
  pub spelled : SpellsParts SpellsPart parts word
  pub same : realm ≡ given_part given

unfoldable pub SpellsAt : List ℕ → List ℕ → List Part → Part → Option ℕ → Type 0
SpellsAt word given parts realm None = IsGiven word given parts realm
SpellsAt word given parts realm (Some at) = RealmAt word parts realm at

pub record IsWhole (word given : List ℕ) (w : Whole) : Type 0 where
  pub spelled : SpellsAt word given w.parts.items w.realm w.realm_at
  pub name : IsName (name_of w.parts.items w.realm)
  pub len : w.printed_len ≡ length (printed (name_of w.parts.items w.realm))

-- the parts and the realm are answered, or memory ran out
unfoldable pub AnswersParts : List Part → Part → Result Whole NameFault → Type 0
AnswersParts parts realm (Ok w) = (w.parts.items ≡ parts) × (w.realm ≡ realm)
AnswersParts parts realm (Err MemoryOut) = ⊤
AnswersParts parts realm (Err (BadName offset)) = ⊥

-- what the signs and the texts of these components take, with a sign behind each
unfoldable pub parts_cost : List Part → ℕ
parts_cost [] = 0
parts_cost (part ∷ parts) = length (printed_text part.text) + 1 + parts_cost parts

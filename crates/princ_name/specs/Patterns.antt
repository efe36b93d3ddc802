-- Patterns of names: what spells them, what they match, and where their wildcards stand.
use Rattle.std.specs.Prelude.{ℕ, zero, suc, ◌≡◌, ◌≢◌, ◌+◌, ◌⊎◌, true, List, [], ◌∷◌, ◌++◌}
use Rattle.std.specs.Prelude.{Option, Some, None, Result, Ok, Err, ⊤, if◌then◌else◌}
use Rattle.princ_name.specs.Kinds.{is_any}
use Rattle.princ_name.specs.Names.{NameParts, IsName}
use Rattle.princ_name.specs.Spelling.{SpellsPart, SpellsWord}
use Rattle.princ_name.specs.Whole.{given_part, name_of}
use Rattle.princ_name.specs.Shape.{PatternShape, Every, Parts}
use Rattle.princ_name.specs.declared.parts.Part.{Part}
use Rattle.princ_name.specs.declared.faults.NameFault.{NameFault}
use Rattle.princ_name.specs.declared.faults.NameFault.TheVariants.{BadName, MemoryOut}

-- one * alone stands for every name; else the grammar and the limits are those of names
unfoldable pub SpellsPattern : List ℕ → List ℕ → PatternShape → Type 0
SpellsPattern word given Every = word ≡ 42 ∷ []
SpellsPattern word given (Parts parts realm) =
    (word ≢ 42 ∷ []) × SpellsWord SpellsPart word (given_part given) parts realm × IsName (name_of parts realm)

-- the pattern is answered, or memory ran out
unfoldable pub AnswersPattern : PatternShape → Result PatternShape NameFault → Type 0
AnswersPattern pattern (Ok answer) = answer ≡ pattern
AnswersPattern pattern (Err MemoryOut) = ⊤
AnswersPattern pattern (Err (BadName offset)) = ⊥

-- a pattern of parts is within the limits of names
unfoldable pub IsWithin : PatternShape → Type 0
IsWithin Every = ⊤
IsWithin (Parts parts realm) = IsName (name_of parts realm)

abbrev pub realm_of : PatternShape → Option Part
realm_of Every = None
realm_of (Parts parts realm) = Some realm

-- a wildcard matches any text whole
abbrev pub MatchesPart : Part → List ℕ → Type 0
MatchesPart part text = (is_any part ≡ true) ⊎ (part.text ≡ text)

-- as many texts as parts, each matched by its own
unfoldable pub MatchesParts : List Part → List (List ℕ) → Type 0
MatchesParts [] [] = ⊤
MatchesParts [] (text ∷ texts) = ⊥
MatchesParts (part ∷ parts) [] = ⊥
MatchesParts (part ∷ parts) (text ∷ texts) = MatchesPart part text × MatchesParts parts texts

unfoldable pub Matches : PatternShape → NameParts → Type 0
Matches Every name = ⊤
Matches (Parts parts realm) name = MatchesParts parts name.parts × MatchesPart realm name.realm

-- the places of the wildcards among these parts, of which the first has this place
unfoldable pub wild_places : ℕ → List Part → List ℕ
wild_places place [] = []
wild_places place (part ∷ parts) =
    if is_any part then place ∷ wild_places (place + 1) parts else wild_places (place + 1) parts

-- the first so many, and None where there are fewer
unfoldable pub first_of : ℕ → List ℕ → List (Option ℕ)
first_of zero places = []
first_of (suc count) [] = None ∷ first_of count []
first_of (suc count) (place ∷ places) = Some place ∷ first_of count places

-- the first nine wildcards from the left, the realm behind the components; the pattern of every name has none
unfoldable pub hits_of : PatternShape → List (Option ℕ)
hits_of Every = first_of 9 []
hits_of (Parts parts realm) = first_of 9 (wild_places 0 (parts ++ realm ∷ []))

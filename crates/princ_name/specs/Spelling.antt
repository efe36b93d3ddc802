-- Which words stand for which components and realm.
use Rattle.std.specs.Prelude.{ℕ, ◌≡◌, ◌==◌, Bool, true, false, not, List, [], ◌∷◌, ◌++◌, ◌⊎◌}
use Rattle.std.specs.List.{list_all}
use Rattle.princ_name.specs.Bytes.{is_refused, is_plain, escaped}
use Rattle.princ_name.specs.Names.{NameParts}
use Rattle.princ_name.specs.declared.parts.Part.{Part}

-- a byte stands for itself where it is plain; a backslash and any byte of a word stand for one too
abbrev pub SpellsByte : ℕ → List ℕ → Type 0
SpellsByte b piece =
    ((is_plain b ≡ true) × (piece ≡ b ∷ []))
    ⊎ ((c : ℕ) × (is_refused c ≡ false) × (b ≡ escaped c) × (piece ≡ 92 ∷ c ∷ []))

-- the spellings of the bytes, one behind the other
unfoldable pub SpellsText : List ℕ → List ℕ → Type 0
SpellsText [] word = word ≡ []
SpellsText (b ∷ text) word =
    (piece : List ℕ) × (rest : List ℕ) × SpellsByte b piece × SpellsText text rest × (word ≡ piece ++ rest)

-- a word in which no backslash stands, which is then the text that it spells
unfoldable pub is_bare : List ℕ → Bool
is_bare word = list_all (λ c. not (c == 92)) word

-- the text, and whether it stands there without a backslash
pub record SpellsPart (part : Part) (word : List ℕ) : Type 0 where
  pub text : SpellsText part.text word
  pub bare : part.bare ≡ is_bare word

-- the components, with / between them
unfoldable pub SpellsParts : {A : Type 0} → (A → List ℕ → Type 0) → List A → List ℕ → Type 0
SpellsParts P [] word = ⊥
SpellsParts P (part ∷ []) word = P part word
SpellsParts P (part ∷ next ∷ parts) word =
    (front : List ℕ) × (back : List ℕ) × P part front × SpellsParts P (next ∷ parts) back × (word ≡ front ++ 47 ∷ back)

-- the components, an @ and the realm
pub record SpellsWithRealm {A : Type 0} (P : A → List ℕ → Type 0) (word : List ℕ) (parts : List A)
    (realm : A) : Type 0 where
  pub front : List ℕ
  pub back : List ℕ
  pub spells_parts : SpellsParts P parts front
  pub spells_realm : P realm back
  pub whole : word ≡ front ++ 64 ∷ back

-- without an @ the realm is the given one
abbrev pub SpellsWord : {A : Type 0} → (A → List ℕ → Type 0) → List ℕ → A → List A → A → Type 0
SpellsWord P word given parts realm = (SpellsParts P parts word × (realm ≡ given)) ⊎ SpellsWithRealm P word parts realm

-- a word spells a name, in a database of this realm
abbrev pub Spells : List ℕ → List ℕ → NameParts → Type 0
Spells word given name = SpellsWord SpellsText word given name.parts name.realm

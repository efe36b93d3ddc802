-- What a word without a fault says, byte by byte.
use Rattle.std.specs.Prelude.{ℕ, ◌+◌, ◌≡◌, ◌==◌, Bool, true, false, ◌&&◌, List}
use Rattle.std.specs.Prelude.{[], ◌∷◌, ◌++◌, Option, Some, None, if◌then◌else◌}
use Rattle.princ_name.specs.Bytes.{escaped}
use Rattle.princ_name.specs.Faults.{first_fault}
use Rattle.princ_name.specs.declared.parts.Part.{Part}

-- the texts between the signs / and @, and the place behind the @
pub record Said : Type 0 where
  pub first : Part
  pub others : List Part
  pub realm_at : Option ℕ

abbrev pub empty_part : Part
empty_part = record { text = []; bare = true }

-- a byte that stands for itself, before the first text
unfoldable pub before_plain : ℕ → Said → Said
before_plain c said = record said { first = record { text = c ∷ said.first.text; bare = said.first.bare } }

-- a byte that a backslash stands before, before the first text
unfoldable pub before_escaped : ℕ → Said → Said
before_escaped c said = record said { first = record { text = escaped c ∷ said.first.text; bare = false } }

-- a sign before the first text
unfoldable pub before_sign : Said → Said
before_sign said = record { first = empty_part; others = said.first ∷ said.others; realm_at = said.realm_at }

unfoldable pub says : ℕ → Bool → Option ℕ → List ℕ → Said
says at behind_slash mark [] = record { first = empty_part; others = []; realm_at = mark }
says at behind_slash mark (c ∷ word) =
    if behind_slash then before_escaped c (says (at + 1) false mark word)
    else if c == 92 then says (at + 1) true mark word
    else if c == 47 then before_sign (says (at + 1) false mark word)
    else if c == 64 then before_sign (says (at + 1) false (Some (at + 1)) word)
    else before_plain c (says (at + 1) false mark word)

abbrev pub said_texts : Said → List Part
said_texts said = said.first ∷ said.others

-- a text whose front was read already
unfoldable pub joined : List ℕ → Bool → Part → Part
joined text bare part = record { text = text ++ part.text; bare = bare && part.bare }

-- the texts of a word, where these texts and this front of a text were read already
unfoldable pub texts_with : List Part → List ℕ → Bool → Said → List Part
texts_with texts text bare said = texts ++ joined text bare said.first ∷ said.others

-- these are the texts that the word says, and it has no fault
pub record Says (word : List ℕ) (texts : List Part) (last : Part) (realm_at : Option ℕ) : Type 0 where
  pub faultless : first_fault word ≡ None
  pub texts_are : texts ++ last ∷ [] ≡ said_texts (says 0 false None word)
  pub realm_is : realm_at ≡ (says 0 false None word).realm_at

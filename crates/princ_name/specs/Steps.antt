-- What taking a byte does to the reading of a word, whatever follows.
use Rattle.std.specs.Prelude.{ℕ, ◌≡◌, ◌+◌, is_some, List, ◌∷◌, Option}
use Rattle.princ_name.specs.Faults.{fault_from}
use Rattle.princ_name.specs.Reading.{says, texts_with}
use Rattle.princ_name.specs.declared.parts.Part.{Part}
use Rattle.princ_name.specs.declared.reading.Reading.{Reading}

-- the texts, the realm's place and the first fault that come, where these were read already
abbrev pub texts_of : ℕ → Reading → List ℕ → List Part
texts_of at r rest = texts_with r.texts.items r.text.items r.bare (says at r.behind_slash r.realm_at rest)

abbrev pub mark_of : ℕ → Reading → List ℕ → Option ℕ
mark_of at r rest = (says at r.behind_slash r.realm_at rest).realm_at

abbrev pub fault_of : ℕ → Reading → List ℕ → Option ℕ
fault_of at r rest = fault_from at r.behind_slash (is_some r.realm_at) rest

-- they stay the same when the byte at this place is taken
pub record Takes (at byte : ℕ) (old new : Reading) : Type 0 where
  pub texts : (rest : List ℕ) → texts_of (at + 1) new rest ≡ texts_of at old (byte ∷ rest)
  pub mark : (rest : List ℕ) → mark_of (at + 1) new rest ≡ mark_of at old (byte ∷ rest)
  pub fault : (rest : List ℕ) → fault_of (at + 1) new rest ≡ fault_of at old (byte ∷ rest)

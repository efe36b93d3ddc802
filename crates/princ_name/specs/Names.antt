-- A principal's name, and its one printed form.
use Rattle.std.specs.Prelude.{ℕ, ◌≡◌, ◌≢◌, ◌≤◌, true, List, [], ◌∷◌, ◌++◌, length}
use Rattle.std.specs.List.{flat_map, list_all}
use Rattle.princ_name.specs.Bytes.{can_stand, printed_byte}

pub record NameParts : Type 0 where
  pub parts : List (List ℕ)
  pub realm : List ℕ

-- a component or a realm as it is printed
unfoldable pub printed_text : List ℕ → List ℕ
printed_text text = flat_map printed_byte text

-- the components, with / between them
unfoldable pub printed_parts : List (List ℕ) → List ℕ
printed_parts [] = []
printed_parts (part ∷ []) = printed_text part
printed_parts (part ∷ next ∷ parts) = printed_text part ++ 47 ∷ printed_parts (next ∷ parts)

-- components, with a / before each
unfoldable pub behind_parts : List (List ℕ) → List ℕ
behind_parts parts = flat_map (λ part. 47 ∷ printed_text part) parts

-- always with the realm, behind an @
unfoldable pub printed : NameParts → List ℕ
printed name = printed_parts name.parts ++ 64 ∷ printed_text name.realm

-- the limits of names
pub record IsName (name : NameParts) : Type 0 where
  pub some : name.parts ≢ []
  pub few : length name.parts ≤ 16
  pub bytes : list_all (list_all can_stand) name.parts ≡ true
  pub realm : name.realm ≢ []
  pub realm_bytes : list_all can_stand name.realm ≡ true
  pub short : length (printed name) ≤ 255

-- a name, and how long its printed form is
pub record IsKept (name : NameParts) (len : ℕ) : Type 0 where
  pub is_name : IsName name
  pub len_is : len ≡ length (printed name)

-- The words of encryption types (kdc.conf of the MIT Kerberos administration guide), and lists of them.
use Rattle.std.specs.Prelude.{ℕ, ◌≡◌, ◌⊎◌, ◌-◌, ◌==◌, Bool, true, nat_le, List, [], ◌∷◌, ◌++◌, codes, length}
use Rattle.std.specs.Prelude.{drop, take, find, count_by, Option, Some, None, option_map, if◌then◌else◌}
use Rattle.std.specs.List.{AllZip, Contains, list_all, slice_split}
use Rattle.std.specs.Option.{option_and_then}
use Rattle.std.specs.Str.{bytes_eq}
use Rattle.kdb_base.specs.Etypes.{number_of}
use Rattle.kdb_base.specs.declared.keys.Etype.{Etype}
use Rattle.kdb_base.specs.declared.keys.Etype.TheVariants.{Aes128, Aes256, Aes128Sha2, Aes256Sha2}
use Rattle.kadm_values.specs.declared.etypes.EtypeWord.{EtypeWord}

-- a word, and the type that it names
pub record EtypeRow : Type 0 where
  pub word : List ℕ
  pub etype : Etype

abbrev pub row_of : EtypeWord → EtypeRow
row_of known = record { word = known.word.now; etype = known.etype }

unfoldable pub etype_rows : List EtypeRow
etype_rows =
    record { word = codes "aes256-cts-hmac-sha1-96"; etype = Aes256 }
    ∷ record { word = codes "aes256-cts"; etype = Aes256 }
    ∷ record { word = codes "aes256-sha1"; etype = Aes256 }
    ∷ record { word = codes "aes128-cts-hmac-sha1-96"; etype = Aes128 }
    ∷ record { word = codes "aes128-cts"; etype = Aes128 }
    ∷ record { word = codes "aes128-sha1"; etype = Aes128 }
    ∷ record { word = codes "aes256-cts-hmac-sha384-192"; etype = Aes256Sha2 }
    ∷ record { word = codes "aes256-sha2"; etype = Aes256Sha2 }
    ∷ record { word = codes "aes128-cts-hmac-sha256-128"; etype = Aes128Sha2 }
    ∷ record { word = codes "aes128-sha2"; etype = Aes128Sha2 }
    ∷ []

-- a word of the table
abbrev pub SpellsEtype : List ℕ → Etype → Type 0
SpellsEtype word etype = Contains etype_rows (record { word = word; etype = etype })

-- the type of this word
unfoldable pub etype_named : List ℕ → Option Etype
etype_named word = option_map (λ row. row.etype) (find (λ row. bytes_eq row.word word) etype_rows)

-- ---- lists

abbrev pub normal_salt : List ℕ
normal_salt = codes ":normal"

abbrev pub is_comma : ℕ → Bool
is_comma byte = byte == 44

abbrev pub same_etype : Etype → Etype → Bool
same_etype etype other = number_of other == number_of etype

unfoldable pub known_etypes : List Etype
known_etypes = Aes128 ∷ Aes256 ∷ Aes128Sha2 ∷ Aes256Sha2 ∷ []

-- each type at most once
unfoldable pub are_once : List Etype → Bool
are_once etypes = list_all (λ etype. nat_le (count_by (same_etype etype) etypes) 1) known_etypes

-- a word, behind which the salt may stand
pub record SpellsListed (item : List ℕ) (etype : Etype) : Type 0 where
  pub word : List ℕ
  pub spelled : SpellsEtype word etype
  pub item_is : (item ≡ word) ⊎ (item ≡ word ++ normal_salt)

-- the types between the commas, in their order
pub record SpellsEtypes (text : List ℕ) (etypes : List Etype) : Type 0 where
  pub each : AllZip SpellsListed (slice_split is_comma text) etypes
  pub once : are_once etypes ≡ true

-- a text without the salt at its end
unfoldable pub without_salt : List ℕ → List ℕ
without_salt item = if bytes_eq (drop (length item - 7) item) normal_salt then take (length item - 7) item else item

unfoldable pub listed_in : List ℕ → Option Etype
listed_in item = etype_named (without_salt item)

abbrev pub before_listed : Option Etype → Option (List Etype) → Option (List Etype)
before_listed None others = None
before_listed (Some etype) others = option_map (λ rest. etype ∷ rest) others

unfoldable pub all_listed : List (List ℕ) → Option (List Etype)
all_listed [] = Some []
all_listed (item ∷ items) = before_listed (listed_in item) (all_listed items)

-- the types of a text, where it is a list of them
unfoldable pub etypes_in : List ℕ → Option (List Etype)
etypes_in text =
    option_and_then (λ etypes. if are_once etypes then Some etypes else None) (all_listed (slice_split is_comma text))

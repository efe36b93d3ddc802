-- A stash: a keytab of version 0502 that holds master keys.
use Rattle.std.specs.Prelude.{◌≡◌, ℕ, Bool, false, ◌&&◌, List, [], ◌∷◌, codes, Option, None, option_map, if◌then◌else◌}
use Rattle.std.specs.List.{flat_map}
use Rattle.std.specs.Option.{option_to_list}
use Rattle.std.specs.Str.{bytes_eq}
use Rattle.kdb_base.specs.Etypes.{etype_of}
use Rattle.kdb_base.specs.declared.keys.Etype.{Etype}
use Rattle.stash_file.specs.Keytabs.{IsBadText, IsText, has_length}
use Rattle.stash_file.specs.Pieces.{Piece, Told, told_by}
use Rattle.stash_file.specs.declared.keys.StashKey.{StashKey}

-- the components K and M, of any realm
unfoldable pub is_master : List (List ℕ) → Bool
is_master [] = false
is_master (a ∷ []) = false
is_master (a ∷ b ∷ []) = bytes_eq a (codes "K") && bytes_eq b (codes "M")
is_master (a ∷ b ∷ c ∷ others) = false

-- the type of the key, None where the entry is skipped
abbrev pub type_of : Told → Option Etype
type_of t = if is_master t.parts then etype_of t.key_type else None

-- a key has the length of its type; nothing is said of an entry that is skipped
abbrev pub has_master_key : Told → Bool
has_master_key t = has_length (type_of t) t.key

abbrev pub stash_key : ℕ → Etype → List ℕ → StashKey
stash_key version etype bytes = record { version = version; key = record { etype = etype; bytes = bytes } }

-- the key of an entry that is not skipped
abbrev pub key_of : Told → List StashKey
key_of t = option_to_list (option_map (λ etype. stash_key t.version etype t.key) (type_of t))

unfoldable pub keys_by : Piece → List StashKey
keys_by p = flat_map key_of (told_by p)

-- The text spells pieces; the keys are those of its entries of K/M.
pub record IsStash (text : List ℕ) (keys : List StashKey) : Type 0 where
  pub pieces : List Piece
  pub is : IsText has_master_key text pieces
  pub told : keys ≡ flat_map keys_by pieces

abbrev pub IsBadAt : List ℕ → ℕ → Type 0
IsBadAt text place = IsBadText has_master_key text place

-- A text is a stash, or it is bad somewhere.
pub data IsJudged (text : List ℕ) : Type 0 where
  Good : (keys : List StashKey) → IsStash text keys → IsJudged text
  Bad : (place : ℕ) → IsBadAt text place → IsJudged text

-- A keytab of version 0502: pieces, and then its end. Which pieces there may be is a test over what they tell.
use Rattle.std.specs.Prelude.{◌≡◌, ℕ, Bool, true, List, [], ◌∷◌, ◌++◌, length, Option, Some, None, nat_eq, ◌⊎◌}
use Rattle.std.specs.List.{All, flat_map, list_all}
use Rattle.kdb_base.specs.Etypes.{etype_of, key_len}
use Rattle.kdb_base.specs.declared.keys.Etype.{Etype}
use Rattle.kdb_format.specs.Spellings.{zeros}
use Rattle.stash_file.specs.Pieces.{Piece, Told, piece_text, told_by, IsPiece}

-- the bytes by which a keytab begins
abbrev pub with_version : List ℕ → List ℕ
with_version rest = 5 ∷ 2 ∷ rest

-- a size of zero, behind which nothing is read
pub record IsMark (rest : List ℕ) : Type 0 where
  pub ignored : List ℕ
  pub is : rest ≡ zeros 4 ++ ignored

-- no bytes, or the mark of the end
abbrev pub IsEnd : List ℕ → Type 0
IsEnd rest = (rest ≡ []) ⊎ IsMark rest

-- no piece is at the front of the bytes
abbrev pub NothingThere : List ℕ → Type 0
NothingThere rest = (p : Piece) (after : List ℕ) → IsPiece p → rest ≡ piece_text p ++ after → ⊥

-- a piece that may stand there
pub record Stands (test : Told → Bool) (p : Piece) : Type 0 where
  pub piece : IsPiece p
  pub passes : list_all test (told_by p) ≡ true

-- The text spells the pieces, and then its end.
pub record IsText (test : Told → Bool) (text : List ℕ) (pieces : List Piece) : Type 0 where
  pub end : List ℕ
  pub each : All (Stands test) pieces
  pub ended : IsEnd end
  pub spelled : text ≡ with_version (flat_map piece_text pieces ++ end)

-- no piece that may stand there is at the front of the bytes
abbrev pub NoPiece : (Told → Bool) → List ℕ → Type 0
NoPiece test rest = (p : Piece) (after : List ℕ) → Stands test p → rest ≡ piece_text p ++ after → ⊥

-- Behind the pieces something stands that is neither the end nor a piece.
pub record IsBroken (test : Told → Bool) (text : List ℕ) (place : ℕ) : Type 0 where
  pub pieces : List Piece
  pub rest : List ℕ
  pub each : All (Stands test) pieces
  pub no_end : IsEnd rest → ⊥
  pub no_piece : NoPiece test rest
  pub spelled : text ≡ with_version (flat_map piece_text pieces ++ rest)
  pub place_is : place ≡ length (with_version (flat_map piece_text pieces))

-- no keytab of version 0502
pub record IsOther (text : List ℕ) (place : ℕ) : Type 0 where
  pub version : (rest : List ℕ) → text ≡ with_version rest → ⊥
  pub place_is : place ≡ 0

abbrev pub IsBadText : (Told → Bool) → List ℕ → ℕ → Type 0
IsBadText test text place = IsOther text place ⊎ IsBroken test text place

-- ---- keytabs of any principals

-- a key has the length of its type, where the type is a known one
abbrev pub has_length : Option Etype → List ℕ → Bool
has_length None key = true
has_length (Some t) key = nat_eq (length key) (key_len t)

abbrev pub has_key : Told → Bool
has_key t = has_length (etype_of t.key_type) t.key

-- the entries of a keytab, in the order of the file
pub record IsKeytab (text : List ℕ) (entries : List Told) : Type 0 where
  pub pieces : List Piece
  pub is : IsText has_key text pieces
  pub told : entries ≡ flat_map told_by pieces

abbrev pub IsBadKeytab : List ℕ → ℕ → Type 0
IsBadKeytab text place = IsBadText has_key text place

-- A text is a keytab, or it is bad somewhere.
pub data IsJudgedKeytab (text : List ℕ) : Type 0 where
  Keytab : (entries : List Told) → IsKeytab text entries → IsJudgedKeytab text
  NoKeytab : (place : ℕ) → IsBadKeytab text place → IsJudgedKeytab text

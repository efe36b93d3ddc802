-- The pieces of a keytab: holes and entries. MIT's keytab file format, version 0502:
-- https://web.mit.edu/kerberos/krb5-latest/doc/formats/keytab_file_format.html
use Rattle.std.specs.Prelude.{ℕ, ◌-◌, ◌^◌, ◌<◌, ◌≤◌, List, [], ◌∷◌, ◌++◌, length}
use Rattle.std.specs.Prelude.{Option, Some, None, nat_eq, if◌then◌else◌}
use Rattle.std.specs.List.{All, flat_map}
use Rattle.kdb_format.specs.Readings.{big_at}
use Rattle.kdb_format.specs.Spellings.{big, counted}

-- an entry, up to its key
pub record Entry : Type 0 where
  pub realm : List ℕ
  pub components : List (List ℕ)
  pub name_type : ℕ
  pub time : ℕ
  pub version : ℕ
  pub key_type : ℕ
  pub key : List ℕ

-- a hole of bytes, or an entry and the bytes that remain in it
pub data Piece : Type 0 where
  Hole : List ℕ → Piece
  Held : Entry → List ℕ → Piece

-- ---- what a piece is spelled by

unfoldable pub entry_text : Entry → List ℕ
entry_text e =
    big 2 (length e.components) ++ (counted e.realm ++ (flat_map counted e.components
    ++ (big 4 e.name_type ++ (big 4 e.time ++ (big 1 e.version ++ (big 2 e.key_type ++ counted e.key))))))

-- a signed size of 32 bits, below zero for a hole, and as many bytes
unfoldable pub piece_text : Piece → List ℕ
piece_text (Hole bytes) = big 4 (2 ^ 32 - length bytes) ++ bytes
piece_text (Held e more) = big 4 (length (entry_text e ++ more)) ++ (entry_text e ++ more)

-- ---- what a piece tells

-- the number that four bytes spell, unless it is zero
abbrev pub unless_zero : ℕ → Option (ℕ × List ℕ) → ℕ
unless_zero short None = short
unless_zero short (Some x) = if nat_eq x.0 0 then short else x.0

-- the 32-bit version where four bytes stand that are not all zero, and else the 8-bit one
unfoldable pub version_from : ℕ → List ℕ → ℕ
version_from short more = unless_zero short (big_at 4 more)

-- an entry as a reader tells it: with the version that counts, and with all of its bytes
pub record Told : Type 0 where
  pub realm : List ℕ
  pub parts : List (List ℕ)
  pub name_type : ℕ
  pub time : ℕ
  pub version : ℕ
  pub key_type : ℕ
  pub key : List ℕ
  pub bytes : List ℕ

abbrev pub told_with : List ℕ → Entry → List ℕ → Told
told_with bytes e more = record {
  realm = e.realm;
  parts = e.components;
  name_type = e.name_type;
  time = e.time;
  version = version_from e.version more;
  key_type = e.key_type;
  key = e.key;
  bytes = bytes;
}

abbrev pub told_of : Entry → List ℕ → Told
told_of e more = told_with (entry_text e ++ more) e more

-- a hole tells nothing
abbrev pub told_by : Piece → List Told
told_by (Hole bytes) = []
told_by (Held e more) = told_of e more ∷ []

-- ---- which pieces there are

pub record IsEntry (e : Entry) : Type 0 where
  pub realm : length e.realm < 2 ^ 16
  pub count : length e.components < 2 ^ 16
  pub components : All (λ text. length text < 2 ^ 16) e.components
  pub name_type : e.name_type < 2 ^ 32
  pub time : e.time < 2 ^ 32
  pub version : e.version < 2 ^ 8
  pub key_type : e.key_type < 2 ^ 16
  pub key : length e.key < 2 ^ 16

pub record IsHole (bytes : List ℕ) : Type 0 where
  pub some : 1 ≤ length bytes
  pub most : length bytes ≤ 2 ^ 31

pub record IsHeld (e : Entry) (more : List ℕ) : Type 0 where
  pub entry : IsEntry e
  pub most : length (entry_text e ++ more) < 2 ^ 31

abbrev pub IsPiece : Piece → Type 0
IsPiece (Hole bytes) = IsHole bytes
IsPiece (Held e more) = IsHeld e more

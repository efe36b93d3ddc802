-- A key, as contracts see it.
use Rattle.std.specs.Prelude.{Bool, ◌&&◌, ℕ, List, nat_eq}
use Rattle.std.specs.Str.{bytes_eq}
use Rattle.kdb_base.specs.Etypes.{number_of}
use Rattle.kdb_base.specs.declared.keys.Etype.{Etype}

pub record Key : Type 0 where
  pub etype : Etype
  pub bytes : List ℕ

-- whether the encryption types and the bytes are the same
abbrev pub is_same_key : Key → Key → Bool
is_same_key a b = nat_eq (number_of a.etype) (number_of b.etype) && bytes_eq a.bytes b.bytes

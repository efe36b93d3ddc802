-- A key wrapped under a master key: its length in two bytes, the lowest first, as MIT's kdb5_util writes it, and the
-- key sealed with usage 0 (RFC 3961, section 5.3; RFC 8009, section 5).
use Rattle.std.specs.Prelude.{◌≡◌, ℕ, ◌+◌, List, ◌++◌, length}
use Rattle.kdb_base.specs.Etypes.{key_len, tag_len}
use Rattle.kdb_base.specs.Key.{Key}
use Rattle.kdb_base.specs.declared.keys.Etype.{Etype}
use Rattle.kdb_format.specs.Spellings.{little}
use Rattle.krb_profile.specs.Profile.{sealed, IsSealed}

-- a key, wrapped
unfoldable pub wrapped : Key → Key → List ℕ → List ℕ
wrapped master key confounder = little 2 (length key.bytes) ++ sealed master 0 confounder key.bytes

-- how long a key of the second type is, wrapped under one of the first: the length, the confounder, the key and the tag
unfoldable pub wrapped_len : Etype → Etype → ℕ
wrapped_len master etype = 18 + key_len etype + tag_len master

-- under the master key, the blob holds this key, which is of this type
pub record Unwraps (master : Key) (etype : Etype) (blob : List ℕ) (key : Key) : Type 0 where
  pub of_type : key.etype ≡ etype
  pub long : length key.bytes ≡ key_len etype
  pub text : List ℕ
  pub blob_is : blob ≡ little 2 (key_len etype) ++ text
  pub sealed : IsSealed master 0 text key.bytes

-- The entries of a keytab, and the text that holds them and nothing else.
use Rattle.std.specs.Prelude.{◌≡◌, ℕ, true, List, ◌++◌, length}
use Rattle.std.specs.List.{flat_map}
use Rattle.kdb_format.specs.Spellings.{big}
use Rattle.stash_file.specs.Keytabs.{has_key, with_version}
use Rattle.stash_file.specs.Pieces.{Entry, IsHeld, Told, told_of}

-- what a keytab can hold: an entry and the bytes behind it, fewer than 2 ^ 31, with a key as long as keys of its type
-- are
pub record IsListed (t : Told) : Type 0 where
  pub front : Entry
  pub more : List ℕ
  pub held : IsHeld front more
  pub told : t ≡ told_of front more
  pub key : has_key t ≡ true

-- an entry behind its size
abbrev pub sized : Told → List ℕ
sized t = big 4 (length t.bytes) ++ t.bytes

-- version 0502 and the entries: no hole, and no mark of the end
unfoldable pub keytab_text : List Told → List ℕ
keytab_text entries = with_version (flat_map sized entries)

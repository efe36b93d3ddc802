-- The entries that are made of a principal's keys.
use Rattle.std.specs.Prelude.{ℕ, ◌%◌, List, ◌++◌, map}
use Rattle.kdb_base.specs.Etypes.{number_of}
use Rattle.kdb_base.specs.declared.extracts.Extract.{Extract}
use Rattle.kdb_format.specs.Spellings.{big}
use Rattle.princ_name.specs.Names.{NameParts}
use Rattle.stash_file.specs.Pieces.{Entry, Told, entry_text}

-- the entry of a key up to the key, of a principal's name type (1), with the low byte of the version
abbrev pub front_of : NameParts → ℕ → Extract → Entry
front_of name secs x = record {
  realm = name.realm;
  components = name.parts;
  name_type = 1;
  time = secs;
  version = x.kvno % 256;
  key_type = number_of x.key.etype;
  key = x.key.bytes;
}

-- and the 32-bit version behind it
unfoldable pub bytes_of : NameParts → ℕ → Extract → List ℕ
bytes_of name secs x = entry_text (front_of name secs x) ++ big 4 x.kvno

abbrev pub entry_of : NameParts → ℕ → Extract → Told
entry_of name secs x = record {
  realm = name.realm;
  parts = name.parts;
  name_type = 1;
  time = secs;
  version = x.kvno;
  key_type = number_of x.key.etype;
  key = x.key.bytes;
  bytes = bytes_of name secs x;
}

-- in the order of the keys
abbrev pub entries_of : NameParts → ℕ → List Extract → List Told
entries_of name secs keys = map (entry_of name secs) keys

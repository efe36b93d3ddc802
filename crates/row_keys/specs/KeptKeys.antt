-- Keys of a record that stay as they are wrapped.
use Rattle.std.specs.Prelude.{ℕ, Bool, nat_le, List, map, filter}
use Rattle.princ_name.specs.Names.{NameParts}
use Rattle.princ_keys.specs.declared.keys.KeyItem.{KeyItem}
use Rattle.plain_keys.specs.Keys.{settled_salt}

-- ---- purgekeys

abbrev pub is_kept_from : ℕ → KeyItem → Bool
is_kept_from kvno item = nat_le kvno item.kvno

-- the keys of this version and of later ones
unfoldable pub kept_from : ℕ → List KeyItem → List KeyItem
kept_from kvno items = filter (is_kept_from kvno) items

-- ---- renprinc

abbrev pub settled_kept : NameParts → KeyItem → KeyItem
settled_kept name item = record item { salt = settled_salt name item.salt }

-- the keys of a principal that had this name, under another name
unfoldable pub settled_keys : NameParts → List KeyItem → List KeyItem
settled_keys name items = map (settled_kept name) items

-- The stash of master keys, as it is written.
use Rattle.std.specs.Prelude.{◌≡◌, ℕ, ◌%◌, ◌^◌, ◌<◌, List, [], ◌∷◌, length, map, codes, reverse}
use Rattle.std.specs.List.{flat_map}
use Rattle.kdb_base.specs.Etypes.{key_len, number_of}
use Rattle.kdb_base.specs.declared.versions.Master.{Master}
use Rattle.kdb_format.specs.Spellings.{big}
use Rattle.stash_file.specs.Pieces.{Entry, Piece, piece_text}
use Rattle.stash_file.specs.Pieces.Piece.{Held}
use Rattle.stash_file.specs.Keytabs.{with_version}
use Rattle.stash_file.specs.declared.keys.StashKey.{StashKey}

-- the entry of K/M of the realm, of a principal's name type (1), with the low byte of the version
abbrev pub entry_of : List ℕ → ℕ → Master → Entry
entry_of realm secs m = record {
  realm = realm;
  components = codes "K" ∷ codes "M" ∷ [];
  name_type = 1;
  time = secs;
  version = m.version % 256;
  key_type = number_of m.key.etype;
  key = m.key.bytes;
}

-- the entry, and the 32-bit version behind it
abbrev pub piece_of : List ℕ → ℕ → Master → Piece
piece_of realm secs m = Held (entry_of realm secs m) (big 4 m.version)

-- the greatest version first
unfoldable pub stash_text : List ℕ → ℕ → List Master → List ℕ
stash_text realm secs masters = with_version (flat_map piece_text (map (piece_of realm secs) (reverse masters)))

unfoldable pub stash_keys : List Master → List StashKey
stash_keys masters = map (λ m. record { version = m.version; key = m.key }) (reverse masters)

-- a master key as long as keys of its type are, with a version of 32 bits
pub record IsStashed (m : Master) : Type 0 where
  pub whole : length m.key.bytes ≡ key_len m.key.etype
  pub version : m.version < 2 ^ 32

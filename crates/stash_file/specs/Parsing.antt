-- Readings of pieces. By the laws in proofs/ they are the inverse of the spellings.
use Rattle.std.specs.Prelude.{ℕ, ◌-◌, List, [], ◌∷◌, Option, nat_lt, option_map, if◌then◌else◌}
use Rattle.kdb_format.specs.Readings.{Reading, ◌>>=◌, done, known, big_at, bytes_at, counted_at, list_at}
use Rattle.stash_file.specs.Pieces.{Entry, Piece, Told, told_of}
use Rattle.stash_file.specs.Pieces.Piece.{Hole, Held}

-- an entry up to its key
unfoldable pub entry_at : Reading Entry
entry_at = do
  count ← big_at 2
  realm ← counted_at
  components ← list_at counted_at count
  name_type ← big_at 4
  time ← big_at 4
  version ← big_at 1
  key_type ← big_at 2
  key ← counted_at
  done (record {
    realm = realm;
    components = components;
    name_type = name_type;
    time = time;
    version = version;
    key_type = key_type;
    key = key;
  })

-- an entry, and what remains of the bytes
unfoldable pub entry_in : List ℕ → Option Piece
entry_in bytes = option_map (λ x. Held x.0 x.1) (entry_at bytes)

abbrev pub held_at : ℕ → Reading Piece
held_at size = do
  bytes ← bytes_at size
  known (entry_in bytes)

abbrev pub hole_at : ℕ → Reading Piece
hole_at size = do
  bytes ← bytes_at (4294967296 - size)
  done (Hole bytes)

unfoldable pub piece_at : Reading Piece
piece_at = do
  size ← big_at 4
  if nat_lt size 2147483648 then held_at size else hole_at size

-- ---- what a reader tells of it

unfoldable pub told_in : List ℕ → Option Told
told_in bytes = option_map (λ x. told_of x.0 x.1) (entry_at bytes)

abbrev pub told_held : ℕ → Reading (List Told)
told_held size = do
  bytes ← bytes_at size
  known (option_map (λ t. t ∷ []) (told_in bytes))

abbrev pub told_hole : ℕ → Reading (List Told)
told_hole size = do
  bytes ← bytes_at (4294967296 - size)
  done []

unfoldable pub told_at : Reading (List Told)
told_at = do
  size ← big_at 4
  if nat_lt size 2147483648 then told_held size else told_hole size

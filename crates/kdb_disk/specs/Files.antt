-- The files of a disk by their bytes, and a write into one of them.
use Rattle.std.specs.Prelude.{ℕ, List, ◌++◌, ◌+◌, ◌==◌, length, take, drop, if◌then◌else◌}

-- the bytes of each file, by its number
abbrev pub Files : Type 0
Files = ℕ → List ℕ

-- the content with these bytes at this offset, over what stands there and past the end
unfoldable pub put : ℕ → List ℕ → List ℕ → List ℕ
put at bytes old = take at old ++ bytes ++ drop (at + length bytes) old

-- the files with another content of one
unfoldable pub with_file : ℕ → List ℕ → Files → Files
with_file file content files g = if g == file then content else files g

-- the files with these bytes at this offset of one
unfoldable pub written : ℕ → ℕ → List ℕ → Files → Files
written file at bytes files = with_file file (put at bytes (files file)) files

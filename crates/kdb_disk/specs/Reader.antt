-- A file that is read in pieces.
use Rattle.std.specs.Prelude.{ℕ, List, ◌≡◌, ◌++◌, length, drop}
use Rattle.kdb_disk.specs.declared.reader.FileReader.{FileReader}
use Rattle.kdb_disk.specs.Files.{Files}

-- the bytes that were read and not yet taken
abbrev pub held_of : FileReader → List ℕ
held_of r = drop r.from r.buffer.items

-- the bytes that are left, where the disk's files are these
abbrev pub left_of : FileReader → Files → List ℕ
left_of r files = held_of r ++ drop r.at (files r.file)

-- the file is as long as it was when the reader was made
abbrev pub IsOver : FileReader → Files → Type 0
IsOver r files = r.end ≡ length (files r.file)

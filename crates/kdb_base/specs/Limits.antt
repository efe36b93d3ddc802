-- The limits that several crates go by. `src/limits.rt` names the same numbers for code.
use Rattle.std.specs.Prelude.{ℕ}

-- the rows of a database, principals and policies together
abbrev pub most_rows : ℕ
most_rows = 100000

-- the bytes of a principal's row
abbrev pub longest_row : ℕ
longest_row = 16000

-- the bytes of a principal's row in files of format 1 and dumps of version 1
abbrev pub longest_row_1 : ℕ
longest_row_1 = 8000

-- the bytes of a line before its line feed
abbrev pub longest_line : ℕ
longest_line = 65536

-- the keys of a principal
abbrev pub most_keys : ℕ
most_keys = 32

-- the versions of the master key
abbrev pub most_masters : ℕ
most_masters = 32

-- the remembered sets of a principal
abbrev pub most_old_sets : ℕ
most_old_sets = 15

-- the string attributes of a principal
abbrev pub most_strings : ℕ
most_strings = 16

-- The numbers of open files.
use Rattle.std.specs.Prelude.{ℤ, pos, ◌≤ℤ◌}

-- neither standard input, standard output nor standard error has this number
abbrev pub IsAboveStreams : ℤ → Type 0
IsAboveStreams fd = pos 3 ≤ℤ fd

-- Lists by version.
use Rattle.std.specs.Prelude.{ℕ, List}
use Rattle.std.specs.List.Sorted.{IsStrictlySortedBy}
use Rattle.std.specs.Ordering.{nat_cmp}

-- each number is above the one before it
abbrev pub AreRising : List ℕ → Type 0
AreRising versions = IsStrictlySortedBy nat_cmp versions

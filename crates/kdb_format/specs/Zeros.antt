-- Bytes that are all zero, told from the first to the last.
use Rattle.std.specs.Prelude.{ℕ, List, Bool, true, ◌&&◌, nat_eq}
use Rattle.std.specs.List.{fold}

-- whether all bytes are zero with this one, where it is known whether those before it are
abbrev pub still_zero : Bool → ℕ → Bool
still_zero zero byte = zero && nat_eq byte 0

-- whether all bytes are zero, told so
unfoldable pub all_zero : List ℕ → Bool
all_zero bytes = fold still_zero true bytes

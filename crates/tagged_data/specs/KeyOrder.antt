-- Keys in the order of their bytes.
use Rattle.std.specs.Prelude.{ℕ, Bool, true, ◌&&◌, List, [], ◌∷◌, Option, Some, None}
use Rattle.std.specs.List.Sorted.{IsStrictlySortedBy}
use Rattle.std.specs.Cmp.Lexicographic.{slice_cmp}
use Rattle.std.specs.Ordering.{nat_cmp, is_lt}
use Rattle.std.specs.declared.cmp.Ordering.{Ordering}

-- byte by byte, and a front comes before what it begins
abbrev pub key_cmp : List ℕ → List ℕ → Ordering
key_cmp = slice_cmp nat_cmp

-- each key once, in that order
abbrev pub AreInOrder : List (List ℕ) → Type 0
AreInOrder keys = IsStrictlySortedBy key_cmp keys

abbrev pub is_behind : Option (List ℕ) → List ℕ → Bool
is_behind None key = true
is_behind (Some last) key = is_lt (key_cmp last key)

-- the same as a test: each key is behind the one before it
unfoldable pub rises_from : Option (List ℕ) → List (List ℕ) → Bool
rises_from last [] = true
rises_from last (key ∷ keys) = is_behind last key && rises_from (Some key) keys

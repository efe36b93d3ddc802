-- Keys that were in use before.
use Rattle.std.specs.Prelude.{Bool, ◌||◌, List, Any, Contains, ◌⊎◌}
use Rattle.std.specs.List.{list_any}
use Rattle.kdb_base.specs.Key.{Key, is_same_key}

-- some new key is, in its encryption type and its bytes, one of the standing or the remembered keys
abbrev pub IsReused : List Key → List Key → List Key → Type 0
IsReused fresh standing remembered = Any (λ key. Contains standing key ⊎ Contains remembered key) fresh

abbrev pub is_among : List Key → Key → Bool
is_among keys key = list_any (λ other. is_same_key other key) keys

-- the same as a test
abbrev pub is_reused : List Key → List Key → List Key → Bool
is_reused fresh standing remembered = list_any (λ key. is_among standing key || is_among remembered key) fresh

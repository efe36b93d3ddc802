-- Short lists of versions rise.
use Rattle.std.proofs.Common.{◌≡◌, ℕ, List, [], ◌∷◌, length, arith}
use Rattle.std.specs.List.Sorted.{IsStrictlySortedBy}
use Rattle.kdb_base.specs.Versions.{AreRising}

pub rising_none : (versions : List ℕ) → length versions ≡ 0 → AreRising versions
unfolding IsStrictlySortedBy
rising_none [] e = tt
rising_none (v ∷ versions) e = absurd (omega arith)

pub rising_one : (version : ℕ) → AreRising (version ∷ [])
unfolding IsStrictlySortedBy
rising_one version = (tt, tt)

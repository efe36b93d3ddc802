-- The wildcards that were found so far.
use Rattle.std.specs.Prelude.{ℕ, ◌≡◌, List, length, min}
use Rattle.princ_name.specs.Patterns.{first_of}
use Rattle.princ_name.specs.declared.patterns.Found.{Found}

pub record IsFound (places : List ℕ) (found : Found) : Type 0 where
  pub at_is : found.at ≡ first_of 9 places
  pub count_is : found.count ≡ min 9 (length places)

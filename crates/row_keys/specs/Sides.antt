-- What is found on two sides: in both, or in neither.
use Rattle.std.specs.Prelude.{◌≡◌, Option, Some, None}

abbrev pub AreBoth : {A B : Type 0} → (A → B → Type 0) → Option A → Option B → Type 0
AreBoth R None None = Unit {0}
AreBoth R (Some x) (Some y) = R x y
AreBoth R (Some x) None = ⊥
AreBoth R None (Some y) = ⊥

-- what stands beside x
pub record IsBeside {A B : Type 0} (R : A → B → Type 0) (x : A) (found : Option B) : Type 0 where
  pub other : B
  pub there : found ≡ Some other
  pub beside : R x other

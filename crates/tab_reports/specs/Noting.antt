-- Counting the principals that name each policy, one principal at a time.
use Rattle.std.specs.Prelude.{ℕ, ◌≡◌, ◌+◌, ◌<◌, false, nat_eq, List, length, get_or, if◌then◌else◌}
use Rattle.policy_rules.specs.Rules.{Rules}
use Rattle.princ_record.specs.declared.princs.Princ.{Princ}
use Rattle.tab_reports.specs.Counts.{names_policy, users_of}

-- beside each policy, how many principals name it
pub record AreCounted (users : List ℕ) (policies : List Rules) (princs : List Princ) : Type 0 where
  pub long : length users ≡ length policies
  pub each : (j : ℕ) (d : Rules) → j < length policies → get_or users j 0 ≡ users_of (get_or policies j d).name princs

-- one more beside the policy that the principal names
pub record IsNoted (p : Princ) (policies : List Rules) (old new : List ℕ) : Type 0 where
  pub long : length new ≡ length old
  pub each : (j : ℕ) (d : Rules) → j < length policies
      → get_or new j 0 ≡ get_or old j 0 + (if names_policy (get_or policies j d).name p then 1 else 0)

-- the policy that the principal names, and the only one
pub record IsNamed (p : Princ) (policies : List Rules) (at : ℕ) : Type 0 where
  pub in_range : at < length policies
  pub each : (j : ℕ) (d : Rules) → j < length policies → names_policy (get_or policies j d).name p ≡ nat_eq j at

-- the principal names none of the policies
pub record NamesNone (p : Princ) (policies : List Rules) : Type 0 where
  pub each : (j : ℕ) (d : Rules) → j < length policies → names_policy (get_or policies j d).name p ≡ false

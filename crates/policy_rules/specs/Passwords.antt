-- What the numbers of a policy ask of a password.
use Rattle.std.specs.Prelude.{ℕ, Bool, nat_lt, List, length, Result, Ok, Err, if◌then◌else◌}
use Rattle.kdb_base.specs.declared.outcomes.Refusal.{Refusal}
use Rattle.kdb_base.specs.declared.outcomes.Refusal.TheVariants.{PassTooShort, PassClasses}
use Rattle.policy_rules.specs.Classes.{classes_in}
use Rattle.policy_rules.specs.Numbers.{Numbers}

abbrev pub is_short : Numbers → List ℕ → Bool
is_short n password = nat_lt (length password) n.min_length

abbrev pub has_few_classes : Numbers → List ℕ → Bool
has_few_classes n password = nat_lt (classes_in password) n.min_classes

-- the length is looked at first
abbrev pub checked : Numbers → List ℕ → Result (Unit {0}) Refusal
checked n password = if is_short n password then Err PassTooShort else if has_few_classes n password
    then Err PassClasses else Ok tt

-- Names of policies are short.
use Rattle.std.proofs.Common.{◌≡◌, ℕ, ◌^◌, ◌<◌, ◌≤◌, List, true, length, arith}
use Rattle.policy_rules.specs.Names.{is_policy_name}
use Rattle.princ_record.specs.PolicyLaws.{short_name}

pub short_policy_name : (name : List ℕ) → is_policy_name name ≡ true → length name < 2 ^ 16
short_policy_name name e = let le = short_name name e in omega arith

pub policy_name_short : (name : List ℕ) → is_policy_name name ≡ true → length name ≤ 64
policy_name_short name e = short_name name e

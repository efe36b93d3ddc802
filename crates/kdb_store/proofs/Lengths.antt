-- How long keys and rows are.
use Rattle.std.proofs.Common.{◌≡◌, ℕ, ◌+◌, ◌≤◌, List, length}
use Rattle.std.specs.Prelude.{IsTrue}
use Rattle.policy_rules.specs.Names.{is_policy_name}
use Rattle.policy_rules.specs.Rules.{Rules}
use Rattle.princ_record.specs.PolicyLaws.{length-policy, short_name}
use Rattle.princ_record.specs.Policies.{policy}

pub policy_length : (p : Rules) → length (policy p) ≡ 16 + length p.name
policy_length p = length-policy p

pub policy_name_short : (name : List ℕ) → IsTrue (is_policy_name name) → length name ≤ 64
policy_name_short name is = short_name name is

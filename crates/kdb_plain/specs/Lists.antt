-- Principals and policies in the byte order of their names.
use Rattle.std.specs.Prelude.{ℕ, ◌≤◌, List, length, map}
use Rattle.kdb_base.specs.Limits.{most_rows}
use Rattle.policy_rules.specs.Rules.{Rules}
use Rattle.princ_rows.specs.Rows.{policy_keys}
use Rattle.tagged_data.specs.KeyOrder.{AreInOrder}
use Rattle.kdb_plain.specs.declared.princs.PlainPrinc.{PlainPrinc}

abbrev pub princ_names : List PlainPrinc → List (List ℕ)
princ_names princs = map (λ q. q.name) princs

-- each name once, in order, and no more principals than a database may have
pub record ArePrincs (princs : List PlainPrinc) : Type 0 where
  pub order : AreInOrder (princ_names princs)
  pub few : length princs ≤ most_rows

-- the same of policies
pub record ArePolicies (policies : List Rules) : Type 0 where
  pub order : AreInOrder (policy_keys policies)
  pub few : length policies ≤ most_rows

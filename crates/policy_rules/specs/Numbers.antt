-- What a policy asks, without its name.
use Rattle.std.specs.Prelude.{ℕ, List, IsTrue}
use Rattle.policy_rules.specs.Ranges.{is_min_length, is_min_classes, is_history}
use Rattle.policy_rules.specs.Rules.{Rules}

pub record Numbers : Type 0 where
  pub max_life : ℕ
  pub min_life : ℕ
  pub min_length : ℕ
  pub min_classes : ℕ
  pub history : ℕ

-- what holds of these numbers
pub record AreInRange (n : Numbers) : Type 0 where
  pub length : IsTrue (is_min_length n.min_length)
  pub classes : IsTrue (is_min_classes n.min_classes)
  pub remembered : IsTrue (is_history n.history)

abbrev pub numbers_of : Rules → Numbers
numbers_of r = record {
  max_life = r.max_life;
  min_life = r.min_life;
  min_length = r.min_length;
  min_classes = r.min_classes;
  history = r.history;
}

abbrev pub rules_of : List ℕ → Numbers → Rules
rules_of name n = record {
  name = name;
  max_life = n.max_life;
  min_life = n.min_life;
  min_length = n.min_length;
  min_classes = n.min_classes;
  history = n.history;
}

-- what goes for a principal without a policy
abbrev pub default_numbers : Numbers
default_numbers = record { max_life = 0; min_life = 0; min_length = 1; min_classes = 1; history = 1 }

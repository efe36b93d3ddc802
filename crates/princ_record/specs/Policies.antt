-- A policy as bytes: its name, its lives and its numbers, each in its range.
use Rattle.std.proofs.Common.{ℕ, ◌^◌, ◌<◌, List, ◌++◌}
use Rattle.std.specs.Prelude.{IsTrue}
use Rattle.kdb_format.specs.Readings.{Reading, ◌>>=◌, done, checked, big_at, counted_at}
use Rattle.kdb_format.specs.Spellings.{big, counted}
use Rattle.policy_rules.specs.Names.{is_policy_name}
use Rattle.policy_rules.specs.Ranges.{is_min_length, is_min_classes, is_history}
use Rattle.policy_rules.specs.Rules.{Rules}

unfoldable pub policy_at : Reading Rules
policy_at = do
  name ← checked is_policy_name counted_at
  max_life ← big_at 4
  min_life ← big_at 4
  min_length ← checked is_min_length (big_at 2)
  min_classes ← checked is_min_classes (big_at 2)
  history ← checked is_history (big_at 2)
  done (record {
    name = name;
    max_life = max_life;
    min_life = min_life;
    min_length = min_length;
    min_classes = min_classes;
    history = history;
  })

unfoldable pub policy : Rules → List ℕ
policy p = counted p.name
    ++ (big 4 p.max_life ++ (big 4 p.min_life ++ (big 2 p.min_length ++ (big 2 p.min_classes ++ big 2 p.history))))

pub record IsPolicy (p : Rules) : Type 0 where
  pub named : IsTrue (is_policy_name p.name)
  pub max_life : p.max_life < 2 ^ 32
  pub min_life : p.min_life < 2 ^ 32
  pub length : IsTrue (is_min_length p.min_length)
  pub classes : IsTrue (is_min_classes p.min_classes)
  pub remembered : IsTrue (is_history p.history)

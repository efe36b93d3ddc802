use Rattle.std.proofs.Common.{◌≡◌, ◌++◌, drop, find}
use Rattle.std.specs.List.{filter_map}
use Rattle.acl_text.specs.Rules.{is_bad, rule_in}
use Rattle.acl_text.specs.Texts.{said_lines}
use Rattle.acl_text.proofs.rules.read_rules.Given as goal

abbrev pub invariant-loop-line : goal.invariant-loop-line
invariant-loop-line l = record {
  first_bad : find (is_bad l.realm) (said_lines (drop l.line-index l.lines))
      ≡ find (is_bad l.realm) (said_lines l.lines);
  added : l.rules.items ++ filter_map (rule_in l.realm) (said_lines (drop l.line-index l.lines))
      ≡ filter_map (rule_in l.realm) (said_lines l.lines);
}

-- A window that holds nothing.
use Rattle.std.proofs.Common.{arith}
use Rattle.kadm_lines.proofs.Ranges.{lacks-none}
use Rattle.kadm_lines.proofs.windows.Window.new.Goals as goal

pub invariant_of-result : goal.invariant_of-result
invariant_of-result c = record {
  full = c.in_ok-bytes.ensures;
  text_order = omega arith;
  text_within = omega arith;
  start_order = omega arith;
  clear_order = omega arith;
  within = omega arith;
  lacks = lacks-none;
}

-- All that was pending is the text.
use Rattle.std.proofs.Common.{arith}
use Rattle.kadm_lines.proofs.Ranges.{lacks-empty}
use Rattle.kadm_lines.proofs.windows.Window.take_rest.Goals as goal

pub invariant_of-self : goal.invariant_of-self
invariant_of-self c = record {
  full = c.self.invariant.full;
  text_order = omega arith;
  text_within = c.self.invariant.within;
  start_order = omega arith;
  clear_order = omega arith;
  within = c.self.invariant.within;
  lacks = lacks-empty c.self.inside.bytes.items c.self.inside.end;
}

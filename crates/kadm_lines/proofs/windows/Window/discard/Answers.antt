-- No byte is left in the window.
use Rattle.std.proofs.Common.{arith}
use Rattle.kadm_lines.proofs.Ranges.{lacks-empty}
use Rattle.kadm_lines.proofs.windows.Window.discard.Goals as goal

pub invariant_of-self : goal.invariant_of-self
invariant_of-self c = record {
  full = c.self.invariant.full;
  text_order = omega arith;
  text_within = omega arith;
  start_order = omega arith;
  clear_order = omega arith;
  within = c.self.invariant.within;
  lacks = lacks-empty c.self.inside.bytes.items c.self.inside.end;
}

-- Between two reads: the same lines come, and the source was read only before its end.
use Rattle.std.proofs.Common.{◌≡◌, ◌+◌, ◌≤◌, List, ℕ, length, option_map, IsTrue, false}
use Rattle.kdb_ports.specs.Told.{IsSpent}
use Rattle.kadm_lines.specs.Reader.{to_come, turns_left, work_left}
use Rattle.kadm_lines.specs.Windows.{lacks_feed}
use Rattle.kadm_lines.proofs.readers.LineReader.advance.Given as goal

abbrev pub invariant-loop-line : goal.invariant-loop-line
invariant-loop-line g l = record {
  same : to_come l.self (g.S.Source.left l.source) ≡ to_come l.fn.self (g.S.Source.left l.fn.source);
  spent : IsTrue l.self.over → (IsTrue l.fn.self.over → IsSpent (g.S.Source.left l.fn.source))
      → IsSpent (g.S.Source.left l.source);
  stays : IsTrue l.fn.self.over → IsTrue l.self.over;
  rests : IsTrue l.fn.self.over → l.source ≡ l.fn.source;
  held : lacks_feed l.fn.self.pending ≡ false → (l.self ≡ l.fn.self) × (l.source ≡ l.fn.source);
  taken : option_map (λ (xs : List ℕ). length xs + l.fn.self.taken) (g.S.Source.left l.fn.source)
      ≡ option_map (λ (xs : List ℕ). length xs + l.self.taken) (g.S.Source.left l.source);
  counts : g.S.Source.faults l.fn.source ≤ g.S.Source.faults l.source;
  work : work_left l.self ≤ work_left l.fn.self;
}

abbrev pub decreases-loop-line : goal.decreases-loop-line
decreases-loop-line g l = turns_left l.self

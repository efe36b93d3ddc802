use Rattle.std.proofs.Common.{◌≡◌, ◌+◌, ◌-◌, ◌≤◌, drop, map, take}
use Rattle.iprop_reply.specs.Polls.{AreHeld}
use Rattle.kdb_base.specs.declared.moments.Point.{Point}
use Rattle.primary_answers.proofs.polling.entries_behind.Given as goal
use Rattle.update_log.specs.Logs.{entry_of}

-- the entries so far
abbrev pub invariant-loop-behind : goal.invariant-loop-behind
invariant-loop-behind l = (first end : Point) → AreHeld first end (map entry_of l.log.held) → end.sno ≡ l.last
    → first.sno ≤ l.sno
    → l.items.items ≡ take (l.behind - l.sno) (drop (l.sno + 1 - first.sno) (map entry_of l.log.held))

use Rattle.std.proofs.Common.{◌≡◌, ◌++◌, ◌+◌, ◌-◌, drop, map, take}
use Rattle.iprop_reply.specs.Polls.{AreHeld}
use Rattle.kdb_base.specs.declared.moments.Point.{Point}
use Rattle.ulog_text.specs.Ulogs.{entries_text}
use Rattle.ulog_text.proofs.ulogs.push_behind.Given as goal
use Rattle.update_log.specs.Logs.{entry_of}

-- the lines so far
abbrev pub invariant-loop-behind : goal.invariant-loop-behind
invariant-loop-behind l = (begin end : Point) → AreHeld begin end (map entry_of l.log.held) → begin.sno ≡ l.first
    → end.sno ≡ l.last
    → l.out.items ≡ l.fn.out.items
    ++ entries_text (take (l.behind - begin.sno) (drop (begin.sno + 1 - begin.sno) (map entry_of l.log.held)))

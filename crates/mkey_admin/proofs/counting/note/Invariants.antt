use Rattle.std.proofs.Common.{◌≡◌, ◌++◌, length, take, drop}
use Rattle.mkey_admin.specs.Counting.{noted}
use Rattle.mkey_admin.proofs.counting.note.Given as goal

-- the counts done, and what comes of those that are left
abbrev pub invariant-loop-at : goal.invariant-loop-at
invariant-loop-at l = record {
  long : length l.counts ≡ length l.fn.counts;
  left : drop l.at l.counts ≡ drop l.at l.fn.counts;
  whole : take l.at l.counts ++ noted l.version (drop l.at l.masters) (drop l.at l.counts)
      ≡ noted l.version l.masters l.fn.counts;
}

use Rattle.std.proofs.Common.{◌≡◌, ◌≤◌, ◌-◌}
use Rattle.iprop_links.specs.Arriving.{HasGiven, Steps, coming, in_all}
use Rattle.iprop_links.proofs.Needed.{ReadsSo}
use Rattle.iprop_links.proofs.inbox.Inbox.next.Given as goal

-- what was to come is still to come of what is left, and no more was read than was needed
abbrev pub invariant-loop-arrival : goal.invariant-loop-arrival
invariant-loop-arrival g l = record {
  steps : Steps l.fn.self.state (coming l.fn.self.pending (g.L.Link.wire l.fn.link)) l.self.state
      (coming l.self.pending (g.L.Link.wire l.link));
  gave : HasGiven (g.L.Link.wire l.fn.link) (g.L.Link.wire l.link);
  same : in_all l.fn.self.received (g.L.Link.wire l.fn.link) ≡ in_all l.self.received (g.L.Link.wire l.link);
  faults : g.L.Link.faults l.fn.link ≤ g.L.Link.faults l.link;
  reads : ReadsSo g.L.Link.wire l.fn.link l.link l.due l.fn.self.state l.fn.self.pending l.self.state l.self.pending;
}

abbrev pub decreases-loop-arrival : goal.decreases-loop-arrival
decreases-loop-arrival g l = 4294967296 - l.self.received

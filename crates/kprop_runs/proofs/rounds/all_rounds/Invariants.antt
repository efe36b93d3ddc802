use Rattle.std.proofs.Common.{◌≡◌, ◌≤◌, Some, false}
use Rattle.kdb_disk.specs.Moments.{LeavesOnly}
use Rattle.kdb_ports.specs.Links.{Wire}
use Rattle.kprop_runs.specs.Longs.{AllEnd}
use Rattle.kprop_runs.specs.Stages.{LeavesRounds, LeavesUntold, MayLead, StandsAt, after_rounds, stage_of}
use Rattle.replica_core.specs.Opened.{IsHeldOn, is_broken, place_of}
use Rattle.kprop_runs.proofs.rounds.all_rounds.Given as goal

-- So many rounds were done, a crash left no other place so far, and the disk holds the replica's.
abbrev pub invariant-loop-done : goal.invariant-loop-done
invariant-loop-done g l = record {
  stands : (w : Wire) → g.L.Link.wire l.fn.link ≡ Some w
      → StandsAt (after_rounds l.name l.fn.replica.size l.done (stage_of w (g.K.Sink.taken l.fn.sink)
      (place_of l.fn.replica) false)) (g.L.Link.wire l.link) (g.K.Sink.taken l.sink) (place_of l.replica) l.refused;
  crash : (w : Wire) → g.L.Link.wire l.fn.link ≡ Some w → g.D.Disk.tells
      → LeavesOnly (g.D.Disk.view l.fn.disk) (g.D.Disk.view l.disk)
      (LeavesRounds l.name l.fn.replica.size l.count
      (stage_of w (g.K.Sink.taken l.fn.sink) (place_of l.fn.replica) false));
  leads : g.D.Disk.tells → MayLead l.fn.replica.size l.done (place_of l.fn.replica) (place_of l.replica);
  some : g.D.Disk.tells → LeavesOnly (g.D.Disk.view l.fn.disk) (g.D.Disk.view l.disk)
      (LeavesUntold l.fn.replica.size l.count (place_of l.fn.replica));
  in_time : (w : Wire) → g.L.Link.wire l.fn.link ≡ Some w
      → AllEnd l.name l.fn.replica.size l.done (stage_of w (g.K.Sink.taken l.fn.sink) (place_of l.fn.replica) false);
  on : g.D.Disk.tells → IsHeldOn l.replica.database (g.D.Disk.view l.disk);
  whole : is_broken l.replica.database l.replica.failed ≡ false;
  sized : l.replica.size ≡ l.fn.replica.size;
  same : g.D.Disk.loans l.disk ≡ g.D.Disk.loans l.fn.disk;
  link : g.L.Link.faults l.fn.link ≤ g.L.Link.faults l.link;
  sink : g.K.Sink.faults l.fn.sink ≤ g.K.Sink.faults l.sink;
  disk : g.D.Disk.faults l.fn.disk ≤ g.D.Disk.faults l.disk;
}

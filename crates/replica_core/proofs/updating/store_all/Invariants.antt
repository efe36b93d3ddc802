use Rattle.std.proofs.Common.{◌≡◌, ◌≤◌, true, false, length, None}
use Rattle.std.specs.List.{All}
use Rattle.kdb_disk.specs.Moments.{LeavesOnly}
use Rattle.kdb_places.specs.Places.{point_of}
use Rattle.princ_rows.specs.Entries.{IsSent}
use Rattle.replica_core.specs.Taking.{IsSized}
use Rattle.replica_steps.specs.Judging.{all_updated, gap_in}
use Rattle.store_files.specs.Kept.{IsOnDisk, place_kept}
use Rattle.store_files.specs.Recovery.{LeavesPart}
use Rattle.replica_core.proofs.Ways.{IsOnWay}
use Rattle.replica_core.proofs.updating.store_all.Given as goal

abbrev pub invariant-loop-update : goal.invariant-loop-update
invariant-loop-update g l = record {
  way : IsOnWay (place_kept l.fn.database).size l.fn.updates (place_kept l.fn.database) l.left (place_kept l.database);
  sent : All IsSent l.left;
  gap : gap_in true (point_of (place_kept l.database)) l.left ≡ None;
  sized : IsSized (place_kept l.fn.database) (place_kept l.database);
  whole : l.database.broken ≡ false;
  on : g.D.Disk.tells → IsOnDisk l.database (g.D.Disk.view l.disk);
  crash : g.D.Disk.tells → LeavesOnly (g.D.Disk.view l.fn.disk) (g.D.Disk.view l.disk) (LeavesPart
      (place_kept l.fn.database) (all_updated (place_kept l.fn.database).size l.fn.updates (place_kept l.fn.database)));
  same : g.D.Disk.loans l.disk ≡ g.D.Disk.loans l.fn.disk;
  faults : g.D.Disk.faults l.fn.disk ≤ g.D.Disk.faults l.disk;
}

abbrev pub decreases-loop-update : goal.decreases-loop-update
decreases-loop-update g l = length l.left

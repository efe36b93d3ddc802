use Rattle.std.proofs.Common.{◌≡◌, ◌≤◌, ℕ, List, Option, false}
use Rattle.kdb_disk.specs.Moments.{LeavesOnly}
use Rattle.kdb_histories.specs.Seen.{seen}
use Rattle.kdb_plain.specs.declared.states.State.{State}
use Rattle.kadm_lines.specs.Reader.{work_left}
use Rattle.primary_core.specs.Opened.{HasState, place_of}
use Rattle.store_files.specs.Kept.{IsOnDisk}
use Rattle.kadm_session.specs.Courses.{GoesOnFrom, Leaves, course}
use Rattle.session_base.specs.Draws.{told_draws}
use Rattle.kadm_session.specs.Intake.{coming, HasTaken}
use Rattle.kadm_session.proofs.session.serve.Given as goal

-- The course goes on from where it is, a crash left no other place so far, and the disk holds the place of the primary.
abbrev pub invariant-loop-now_refused : goal.invariant-loop-now_refused
invariant-loop-now_refused g l = record {
  goes : (s : State) → HasState l.fn.primary s → GoesOnFrom
      (course (g.K.Sink.taken l.fn.sink) false
      (coming l.fn.primary.kept.realm l.fn.reader (g.S.Source.left l.fn.source))
      (told_draws (g.C.Clock.moments l.fn.clock) (g.E.Entropy.stream l.fn.entropy)) (seen (place_of l.fn.primary) s))
      l.primary (g.K.Sink.taken l.sink) l.refused (coming l.primary.kept.realm l.reader (g.S.Source.left l.source))
      (told_draws (g.C.Clock.moments l.clock) (g.E.Entropy.stream l.entropy));
  run : g.D.Disk.tells → (s : State) → HasState l.fn.primary s
      → LeavesOnly (g.D.Disk.view l.fn.disk) (g.D.Disk.view l.disk)
      (Leaves (course (g.K.Sink.taken l.fn.sink) false
      (coming l.fn.primary.kept.realm l.fn.reader (g.S.Source.left l.fn.source))
      (told_draws (g.C.Clock.moments l.fn.clock) (g.E.Entropy.stream l.fn.entropy)) (seen (place_of l.fn.primary) s)));
  on : g.D.Disk.tells → IsOnDisk l.primary.kept (g.D.Disk.view l.disk);
  whole : l.primary.kept.broken ≡ false;
  realm : l.primary.kept.realm ≡ l.fn.primary.kept.realm;
  same : g.D.Disk.loans l.disk ≡ g.D.Disk.loans l.fn.disk;
  takes : (first : Option (List ℕ)) → HasTaken first l.fn.reader (g.S.Source.left l.fn.source)
      → HasTaken first l.reader (g.S.Source.left l.source);
  source : g.S.Source.faults l.fn.source ≤ g.S.Source.faults l.source;
  sink : g.K.Sink.faults l.fn.sink ≤ g.K.Sink.faults l.sink;
  disk : g.D.Disk.faults l.fn.disk ≤ g.D.Disk.faults l.disk;
  entropy : g.E.Entropy.faults l.fn.entropy ≤ g.E.Entropy.faults l.entropy;
}

abbrev pub decreases-loop-now_refused : goal.decreases-loop-now_refused
decreases-loop-now_refused g l = work_left l.reader

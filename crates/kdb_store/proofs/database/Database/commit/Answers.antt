use Rattle.std.proofs.Common.{ap, ◌∙◌, Err}
use Rattle.kdb_places.specs.Places.{next_point}
use Rattle.store_files.specs.Kept.{Kept, place_kept}
use Rattle.kdb_store.proofs.Committed.{serial_below, time_behind, next_at, log_apart}
use Rattle.kdb_store.proofs.Committed.{stands_on, place_changed, crash_told, entered_at}
use Rattle.kdb_store.proofs.database.Database.commit.Goals as goal

pub next_in-point-requires : goal.next_in-point-requires
next_in-point-requires g c = serial_below (record {
  control = c.self.inside.control;
  log = c.self.inside.log;
  cells = c.self.inside.cells;
  rows = c.self.inside.rows;
  realm = c.self.inside.realm;
  stash = c.self.inside.stash;
  broken = c.self.inside.broken;
}) c.args.self.now c.self.view_is c.holds_journal.ensures.some c.requires.serial

pub change-requires-clause-time : goal.change-requires-clause-time
change-requires-clause-time g c = time_behind (record {
  control = c.self.inside.control;
  log = c.self.inside.log;
  cells = c.self.inside.cells;
  rows = c.self.inside.rows;
  realm = c.self.inside.realm;
  stash = c.self.inside.stash;
  broken = c.self.inside.broken;
}) c.args.self.now c.args.time c.next_in-next.result.time c.self.view_is c.next_in-next.ensures.time
    c.holds_journal.ensures.some c.requires.time

pub change-requires-clause-apart : goal.change-requires-clause-apart
change-requires-clause-apart g c = log_apart (record {
  control = c.self.inside.control;
  log = c.self.inside.log;
  cells = c.self.inside.cells;
  rows = c.self.inside.rows;
  realm = c.self.inside.realm;
  stash = c.self.inside.stash;
  broken = c.self.inside.broken;
}) c.self.invariant c.holds_journal.ensures.file.0 c.image_file-file.ensures.high

pub returns-in-Ok-clause-point : goal.returns-in-Ok-clause-point
returns-in-Ok-clause-point g c = next_at (record {
  control = c.self.inside.control;
  log = c.self.inside.log;
  cells = c.self.inside.cells;
  rows = c.self.inside.rows;
  realm = c.self.inside.realm;
  stash = c.self.inside.stash;
  broken = c.self.inside.broken;
}) c.args.self.now c.next_in-point.result c.args.time c.self.view_is c.next_in-point.ensures.time
    c.holds_journal.ensures.some c.next_in-point.ensures.sno

pub returns-in-Ok-clause-place : goal.returns-in-Ok-clause-place
returns-in-Ok-clause-place g c =
    place_changed (record {
      control = c.self.inside.control;
      log = c.self.inside.log;
      cells = c.self.inside.cells;
      rows = c.self.inside.rows;
      realm = c.self.inside.realm;
      stash = c.self.inside.stash;
      broken = c.self.inside.broken;
    }) c.args.self.now c.change.new.log c.change.new.cells c.change.new.rows c.args.op c.next_in-next.result c.args.time
    c.self.view_is c.self.invariant.chosen.size
    (next_at (record {
      control = c.self.inside.control;
      log = c.self.inside.log;
      cells = c.self.inside.cells;
      rows = c.self.inside.rows;
      realm = c.self.inside.realm;
      stash = c.self.inside.stash;
      broken = c.self.inside.broken;
    }) c.args.self.now c.next_in-next.result c.args.time c.self.view_is c.next_in-next.ensures.time
    c.holds_journal.ensures.some c.next_in-next.ensures.sno) c.in-Ok.ensures.rows c.in-Ok.ensures.held

pub returns-in-Ok-clause-on : goal.returns-in-Ok-clause-on
returns-in-Ok-clause-on g c tells =
    c.in-Ok.ensures.on tells (record {
      control = c.self.inside.control;
      log = c.self.inside.log;
      cells = c.self.inside.cells;
      rows = c.self.inside.rows;
      realm = c.self.inside.realm;
      stash = c.self.inside.stash;
      broken = c.self.inside.broken;
    }) (stands_on (record {
      control = c.self.inside.control;
      log = c.self.inside.log;
      cells = c.self.inside.cells;
      rows = c.self.inside.rows;
      realm = c.self.inside.realm;
      stash = c.self.inside.stash;
      broken = c.self.inside.broken;
    }) c.args.self.now c.next_in-next.result (g.D.Disk.view c.args.disk.now) c.self.view_is c.self.invariant
    (c.requires.on tells) c.holds_journal.ensures.some c.next_in-next.ensures.sno)

pub returns-in-Ok-clause-crash : goal.returns-in-Ok-clause-crash
returns-in-Ok-clause-crash g c = record {
  told = λ tells. crash_told (record {
    control = c.self.inside.control;
    log = c.self.inside.log;
    cells = c.self.inside.cells;
    rows = c.self.inside.rows;
    realm = c.self.inside.realm;
    stash = c.self.inside.stash;
    broken = c.self.inside.broken;
  }) c.args.self.now c.args.op c.next_in-next.result c.args.time c.self.view_is c.next_in-next.ensures.time
      (c.change.ensures.crash tells (record {
        control = c.self.inside.control;
        log = c.self.inside.log;
        cells = c.self.inside.cells;
        rows = c.self.inside.rows;
        realm = c.self.inside.realm;
        stash = c.self.inside.stash;
        broken = c.self.inside.broken;
      }) (stands_on (record {
        control = c.self.inside.control;
        log = c.self.inside.log;
        cells = c.self.inside.cells;
        rows = c.self.inside.rows;
        realm = c.self.inside.realm;
        stash = c.self.inside.stash;
        broken = c.self.inside.broken;
      }) c.args.self.now c.next_in-next.result (g.D.Disk.view c.args.disk.now) c.self.view_is c.self.invariant
      (c.requires.on tells) c.holds_journal.ensures.some c.next_in-next.ensures.sno));
}

pub returns-in-Err-DiskFault-clause-crash : goal.returns-in-Err-DiskFault-clause-crash
returns-in-Err-DiskFault-clause-crash g c = record {
  told = λ tells. crash_told (record {
    control = c.self.inside.control;
    log = c.self.inside.log;
    cells = c.self.inside.cells;
    rows = c.self.inside.rows;
    realm = c.self.inside.realm;
    stash = c.self.inside.stash;
    broken = c.self.inside.broken;
  }) c.args.self.now c.args.op c.next_in-next.result c.args.time c.self.view_is c.next_in-next.ensures.time
      (c.change.ensures.crash tells (record {
        control = c.self.inside.control;
        log = c.self.inside.log;
        cells = c.self.inside.cells;
        rows = c.self.inside.rows;
        realm = c.self.inside.realm;
        stash = c.self.inside.stash;
        broken = c.self.inside.broken;
      }) (stands_on (record {
        control = c.self.inside.control;
        log = c.self.inside.log;
        cells = c.self.inside.cells;
        rows = c.self.inside.rows;
        realm = c.self.inside.realm;
        stash = c.self.inside.stash;
        broken = c.self.inside.broken;
      }) c.args.self.now c.next_in-next.result (g.D.Disk.view c.args.disk.now) c.self.view_is c.self.invariant
      (c.requires.on tells) c.holds_journal.ensures.some c.next_in-next.ensures.sno));
}

pub returns-in-Err-MemoryOut-clause-crash : goal.returns-in-Err-MemoryOut-clause-crash
returns-in-Err-MemoryOut-clause-crash g c = record {
  told = λ tells. crash_told (record {
    control = c.self.inside.control;
    log = c.self.inside.log;
    cells = c.self.inside.cells;
    rows = c.self.inside.rows;
    realm = c.self.inside.realm;
    stash = c.self.inside.stash;
    broken = c.self.inside.broken;
  }) c.args.self.now c.args.op c.next_in-next.result c.args.time c.self.view_is c.next_in-next.ensures.time
      (c.change.ensures.crash tells (record {
        control = c.self.inside.control;
        log = c.self.inside.log;
        cells = c.self.inside.cells;
        rows = c.self.inside.rows;
        realm = c.self.inside.realm;
        stash = c.self.inside.stash;
        broken = c.self.inside.broken;
      }) (stands_on (record {
        control = c.self.inside.control;
        log = c.self.inside.log;
        cells = c.self.inside.cells;
        rows = c.self.inside.rows;
        realm = c.self.inside.realm;
        stash = c.self.inside.stash;
        broken = c.self.inside.broken;
      }) c.args.self.now c.next_in-next.result (g.D.Disk.view c.args.disk.now) c.self.view_is c.self.invariant
      (c.requires.on tells) c.holds_journal.ensures.some c.next_in-next.ensures.sno));
}

pub returns-in-Err-MemoryOut-clause-still : goal.returns-in-Err-MemoryOut-clause-still
returns-in-Err-MemoryOut-clause-still g c tells none =
    c.change.ensures.still tells (record {
      control = c.self.inside.control;
      log = c.self.inside.log;
      cells = c.self.inside.cells;
      rows = c.self.inside.rows;
      realm = c.self.inside.realm;
      stash = c.self.inside.stash;
      broken = c.self.inside.broken;
    }) (stands_on (record {
      control = c.self.inside.control;
      log = c.self.inside.log;
      cells = c.self.inside.cells;
      rows = c.self.inside.rows;
      realm = c.self.inside.realm;
      stash = c.self.inside.stash;
      broken = c.self.inside.broken;
    }) c.args.self.now c.next_in-next.result (g.D.Disk.view c.args.disk.now) c.self.view_is c.self.invariant
    (c.requires.on tells) c.holds_journal.ensures.some c.next_in-next.ensures.sno)
    (c.in-Err-MemoryOut.is ∙ ap Err c.in-Err-MemoryOut.field-0-is)

pub returns-in-Ok-clause-entered : goal.returns-in-Ok-clause-entered
returns-in-Ok-clause-entered g c =
    let k : Kept = record {
      control = c.self.inside.control;
      log = c.self.inside.log;
      cells = c.self.inside.cells;
      rows = c.self.inside.rows;
      realm = c.self.inside.realm;
      stash = c.self.inside.stash;
      broken = c.self.inside.broken;
    } in
    entered_at k c.args.self.now c.args.op c.next_in-next.result (next_point c.args.time (place_kept c.args.self.now))
    c.change.new.log c.self.view_is
    (next_at k c.args.self.now c.next_in-next.result c.args.time c.self.view_is c.next_in-next.ensures.time
    c.holds_journal.ensures.some c.next_in-next.ensures.sno)
    c.in-Ok.ensures.entered

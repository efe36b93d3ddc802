use Rattle.std.proofs.Common.{ap, ◌∙◌, Err}
use Rattle.store_files.specs.Kept.{Kept}
use Rattle.kdb_store.proofs.Switched.{is_under}
use Rattle.kdb_store.proofs.Anew.{anew_place, anew_told, anew_entered}
use Rattle.kdb_store.specs.Anew.{point_behind}
use Rattle.kdb_store.proofs.database.Database.reset_and_commit.Goals as goal

pub reset_change-requires-clause-on : goal.reset_change-requires-clause-on
reset_change-requires-clause-on g c tells =
    let k : Kept = record {
      control = c.self.inside.control;
      log = c.self.inside.log;
      cells = c.self.inside.cells;
      rows = c.self.inside.rows;
      realm = c.self.inside.realm;
      stash = c.self.inside.stash;
      broken = c.self.inside.broken;
    } in (
      k,
      is_under k c.args.self.now (g.D.Disk.view c.args.disk.now) c.self.view_is c.self.invariant (c.requires.on tells),
    )

pub returns-in-Ok-clause-place : goal.returns-in-Ok-clause-place
returns-in-Ok-clause-place g c =
    anew_place (record {
      control = c.self.inside.control;
      log = c.self.inside.log;
      cells = c.self.inside.cells;
      rows = c.self.inside.rows;
      realm = c.self.inside.realm;
      stash = c.self.inside.stash;
      broken = c.self.inside.broken;
    }) c.args.self.now c.reset_change.new.control c.reset_change.new.log c.reset_change.new.cells
    c.reset_change.new.rows c.args.op c.args.time c.args.base c.args.block c.self.view_is
    c.in-Ok.ensures.control c.in-Ok.ensures.rows c.in-Ok.ensures.held

pub returns-in-Ok-clause-on : goal.returns-in-Ok-clause-on
returns-in-Ok-clause-on g c tells =
    c.in-Ok.ensures.on tells (record {
      control = c.self.inside.control;
      log = c.self.inside.log;
      cells = c.self.inside.cells;
      rows = c.self.inside.rows;
      realm = c.self.inside.realm;
      stash = c.self.inside.stash;
      broken = c.self.inside.broken;
    }) (is_under (record {
      control = c.self.inside.control;
      log = c.self.inside.log;
      cells = c.self.inside.cells;
      rows = c.self.inside.rows;
      realm = c.self.inside.realm;
      stash = c.self.inside.stash;
      broken = c.self.inside.broken;
    }) c.args.self.now (g.D.Disk.view c.args.disk.now) c.self.view_is c.self.invariant (c.requires.on tells))

pub returns-in-Ok-clause-crash : goal.returns-in-Ok-clause-crash
returns-in-Ok-clause-crash g c = record {
  told = λ tells. anew_told (record {
    control = c.self.inside.control;
    log = c.self.inside.log;
    cells = c.self.inside.cells;
    rows = c.self.inside.rows;
    realm = c.self.inside.realm;
    stash = c.self.inside.stash;
    broken = c.self.inside.broken;
  }) c.args.self.now c.args.op c.args.time c.args.base c.args.block c.self.view_is
      (c.reset_change.ensures.crash tells (record {
        control = c.self.inside.control;
        log = c.self.inside.log;
        cells = c.self.inside.cells;
        rows = c.self.inside.rows;
        realm = c.self.inside.realm;
        stash = c.self.inside.stash;
        broken = c.self.inside.broken;
      }) (is_under (record {
        control = c.self.inside.control;
        log = c.self.inside.log;
        cells = c.self.inside.cells;
        rows = c.self.inside.rows;
        realm = c.self.inside.realm;
        stash = c.self.inside.stash;
        broken = c.self.inside.broken;
      }) c.args.self.now (g.D.Disk.view c.args.disk.now) c.self.view_is c.self.invariant (c.requires.on tells)));
}

pub returns-in-Err-DiskFault-clause-crash : goal.returns-in-Err-DiskFault-clause-crash
returns-in-Err-DiskFault-clause-crash g c = record {
  told = λ tells. anew_told (record {
    control = c.self.inside.control;
    log = c.self.inside.log;
    cells = c.self.inside.cells;
    rows = c.self.inside.rows;
    realm = c.self.inside.realm;
    stash = c.self.inside.stash;
    broken = c.self.inside.broken;
  }) c.args.self.now c.args.op c.args.time c.args.base c.args.block c.self.view_is
      (c.reset_change.ensures.crash tells (record {
        control = c.self.inside.control;
        log = c.self.inside.log;
        cells = c.self.inside.cells;
        rows = c.self.inside.rows;
        realm = c.self.inside.realm;
        stash = c.self.inside.stash;
        broken = c.self.inside.broken;
      }) (is_under (record {
        control = c.self.inside.control;
        log = c.self.inside.log;
        cells = c.self.inside.cells;
        rows = c.self.inside.rows;
        realm = c.self.inside.realm;
        stash = c.self.inside.stash;
        broken = c.self.inside.broken;
      }) c.args.self.now (g.D.Disk.view c.args.disk.now) c.self.view_is c.self.invariant (c.requires.on tells)));
}

pub returns-in-Err-MemoryOut-clause-crash : goal.returns-in-Err-MemoryOut-clause-crash
returns-in-Err-MemoryOut-clause-crash g c = record {
  told = λ tells. anew_told (record {
    control = c.self.inside.control;
    log = c.self.inside.log;
    cells = c.self.inside.cells;
    rows = c.self.inside.rows;
    realm = c.self.inside.realm;
    stash = c.self.inside.stash;
    broken = c.self.inside.broken;
  }) c.args.self.now c.args.op c.args.time c.args.base c.args.block c.self.view_is
      (c.reset_change.ensures.crash tells (record {
        control = c.self.inside.control;
        log = c.self.inside.log;
        cells = c.self.inside.cells;
        rows = c.self.inside.rows;
        realm = c.self.inside.realm;
        stash = c.self.inside.stash;
        broken = c.self.inside.broken;
      }) (is_under (record {
        control = c.self.inside.control;
        log = c.self.inside.log;
        cells = c.self.inside.cells;
        rows = c.self.inside.rows;
        realm = c.self.inside.realm;
        stash = c.self.inside.stash;
        broken = c.self.inside.broken;
      }) c.args.self.now (g.D.Disk.view c.args.disk.now) c.self.view_is c.self.invariant (c.requires.on tells)));
}

pub returns-in-Err-MemoryOut-clause-still : goal.returns-in-Err-MemoryOut-clause-still
returns-in-Err-MemoryOut-clause-still g c tells none =
    c.reset_change.ensures.still tells (record {
      control = c.self.inside.control;
      log = c.self.inside.log;
      cells = c.self.inside.cells;
      rows = c.self.inside.rows;
      realm = c.self.inside.realm;
      stash = c.self.inside.stash;
      broken = c.self.inside.broken;
    }) (is_under (record {
      control = c.self.inside.control;
      log = c.self.inside.log;
      cells = c.self.inside.cells;
      rows = c.self.inside.rows;
      realm = c.self.inside.realm;
      stash = c.self.inside.stash;
      broken = c.self.inside.broken;
    }) c.args.self.now (g.D.Disk.view c.args.disk.now) c.self.view_is c.self.invariant (c.requires.on tells))
    (c.in-Err-MemoryOut.is ∙ ap Err c.in-Err-MemoryOut.field-0-is)

pub returns-in-Ok-clause-entered : goal.returns-in-Ok-clause-entered
returns-in-Ok-clause-entered g c =
    anew_entered (record {
      control = c.self.inside.control;
      log = c.self.inside.log;
      cells = c.self.inside.cells;
      rows = c.self.inside.rows;
      realm = c.self.inside.realm;
      stash = c.self.inside.stash;
      broken = c.self.inside.broken;
    }) c.args.self.now c.args.op (point_behind c.args.base c.args.time) c.reset_change.new.control.log c.args.base
    c.args.block c.reset_change.new.log c.self.view_is c.in-Ok.ensures.entered

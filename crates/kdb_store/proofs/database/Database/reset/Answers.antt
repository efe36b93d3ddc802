use Rattle.std.proofs.Common.{ap, ◌∙◌, Err}
use Rattle.kdb_store.proofs.Switched.{is_under, in_force_now, place_reset, reset_told, still_reset}
use Rattle.kdb_store.proofs.database.Database.reset.Goals as goal

pub reset_parts-requires-clause-force : goal.reset_parts-requires-clause-force
reset_parts-requires-clause-force g c tells = in_force_now (record {
  control = c.self.inside.control;
  log = c.self.inside.log;
  cells = c.self.inside.cells;
  rows = c.self.inside.rows;
  realm = c.self.inside.realm;
  stash = c.self.inside.stash;
  broken = c.self.inside.broken;
}) c.args.self.now (g.D.Disk.view c.args.disk.now) c.self.view_is (c.requires.on tells)

pub returns-in-Ok-clause-place : goal.returns-in-Ok-clause-place
returns-in-Ok-clause-place g c = place_reset (record {
  control = c.self.inside.control;
  log = c.self.inside.log;
  cells = c.self.inside.cells;
  rows = c.self.inside.rows;
  realm = c.self.inside.realm;
  stash = c.self.inside.stash;
  broken = c.self.inside.broken;
}) c.args.self.now c.reset_parts.new.control c.reset_parts.new.log c.args.base c.args.size c.args.block c.self.view_is
    c.in-Ok.ensures.control c.in-Ok.ensures.log

pub returns-in-Ok-clause-on : goal.returns-in-Ok-clause-on
returns-in-Ok-clause-on g c tells = c.in-Ok.ensures.on tells (record {
  control = c.self.inside.control;
  log = c.self.inside.log;
  cells = c.self.inside.cells;
  rows = c.self.inside.rows;
  realm = c.self.inside.realm;
  stash = c.self.inside.stash;
  broken = c.self.inside.broken;
}) (is_under (record {
  control = c.self.inside.control;
  log = c.self.inside.log;
  cells = c.self.inside.cells;
  rows = c.self.inside.rows;
  realm = c.self.inside.realm;
  stash = c.self.inside.stash;
  broken = c.self.inside.broken;
}) c.args.self.now (g.D.Disk.view c.args.disk.now) c.self.view_is c.self.invariant (c.requires.on tells))

pub returns-in-Ok-clause-crash : goal.returns-in-Ok-clause-crash
returns-in-Ok-clause-crash g c = record {
  told = λ tells. reset_told (record {
    control = c.self.inside.control;
    log = c.self.inside.log;
    cells = c.self.inside.cells;
    rows = c.self.inside.rows;
    realm = c.self.inside.realm;
    stash = c.self.inside.stash;
    broken = c.self.inside.broken;
  }) c.args.self.now c.args.base c.args.size c.args.block c.self.view_is
      (c.reset_parts.ensures.crash tells (record {
        control = c.self.inside.control;
        log = c.self.inside.log;
        cells = c.self.inside.cells;
        rows = c.self.inside.rows;
        realm = c.self.inside.realm;
        stash = c.self.inside.stash;
        broken = c.self.inside.broken;
      }) (is_under (record {
        control = c.self.inside.control;
        log = c.self.inside.log;
        cells = c.self.inside.cells;
        rows = c.self.inside.rows;
        realm = c.self.inside.realm;
        stash = c.self.inside.stash;
        broken = c.self.inside.broken;
      }) c.args.self.now (g.D.Disk.view c.args.disk.now) c.self.view_is c.self.invariant (c.requires.on tells)));
}

pub returns-in-Err-DiskFault-clause-crash : goal.returns-in-Err-DiskFault-clause-crash
returns-in-Err-DiskFault-clause-crash g c = record {
  told = λ tells. reset_told (record {
    control = c.self.inside.control;
    log = c.self.inside.log;
    cells = c.self.inside.cells;
    rows = c.self.inside.rows;
    realm = c.self.inside.realm;
    stash = c.self.inside.stash;
    broken = c.self.inside.broken;
  }) c.args.self.now c.args.base c.args.size c.args.block c.self.view_is
      (c.reset_parts.ensures.crash tells (record {
        control = c.self.inside.control;
        log = c.self.inside.log;
        cells = c.self.inside.cells;
        rows = c.self.inside.rows;
        realm = c.self.inside.realm;
        stash = c.self.inside.stash;
        broken = c.self.inside.broken;
      }) (is_under (record {
        control = c.self.inside.control;
        log = c.self.inside.log;
        cells = c.self.inside.cells;
        rows = c.self.inside.rows;
        realm = c.self.inside.realm;
        stash = c.self.inside.stash;
        broken = c.self.inside.broken;
      }) c.args.self.now (g.D.Disk.view c.args.disk.now) c.self.view_is c.self.invariant (c.requires.on tells)));
}

pub returns-in-Err-MemoryOut-clause-crash : goal.returns-in-Err-MemoryOut-clause-crash
returns-in-Err-MemoryOut-clause-crash g c = record {
  told = λ tells. reset_told (record {
    control = c.self.inside.control;
    log = c.self.inside.log;
    cells = c.self.inside.cells;
    rows = c.self.inside.rows;
    realm = c.self.inside.realm;
    stash = c.self.inside.stash;
    broken = c.self.inside.broken;
  }) c.args.self.now c.args.base c.args.size c.args.block c.self.view_is
      (c.reset_parts.ensures.crash tells (record {
        control = c.self.inside.control;
        log = c.self.inside.log;
        cells = c.self.inside.cells;
        rows = c.self.inside.rows;
        realm = c.self.inside.realm;
        stash = c.self.inside.stash;
        broken = c.self.inside.broken;
      }) (is_under (record {
        control = c.self.inside.control;
        log = c.self.inside.log;
        cells = c.self.inside.cells;
        rows = c.self.inside.rows;
        realm = c.self.inside.realm;
        stash = c.self.inside.stash;
        broken = c.self.inside.broken;
      }) c.args.self.now (g.D.Disk.view c.args.disk.now) c.self.view_is c.self.invariant (c.requires.on tells)));
}

pub returns-in-Err-MemoryOut-clause-still : goal.returns-in-Err-MemoryOut-clause-still
returns-in-Err-MemoryOut-clause-still g c tells none =
    still_reset g.D.Disk.view (record {
      control = c.self.inside.control;
      log = c.self.inside.log;
      cells = c.self.inside.cells;
      rows = c.self.inside.rows;
      realm = c.self.inside.realm;
      stash = c.self.inside.stash;
      broken = c.self.inside.broken;
    }) c.args.self.now c.reset_parts.new.control c.reset_parts.new.log c.args.disk.now c.reset_parts.new.disk
    c.self.view_is
    c.in-Err-MemoryOut.ensures.same_control c.in-Err-MemoryOut.ensures.same_log
    (c.reset_parts.ensures.memory (c.in-Err-MemoryOut.is ∙ ap Err c.in-Err-MemoryOut.field-0-is)) (c.requires.on tells)

use Rattle.std.proofs.Common.{ap, ◌∙◌, Err}
use Rattle.kdb_store.proofs.Switched.{is_under, in_force_now, place_restashed, on_restashed, stash_told, still_stash}
use Rattle.kdb_store.proofs.database.Database.put_stash.Goals as goal

pub restash_parts-requires : goal.restash_parts-requires
restash_parts-requires g c = record {
  force = λ tells. in_force_now (record {
    control = c.self.inside.control;
    log = c.self.inside.log;
    cells = c.self.inside.cells;
    rows = c.self.inside.rows;
    realm = c.self.inside.realm;
    stash = c.self.inside.stash;
    broken = c.self.inside.broken;
  }) c.args.self.now (g.D.Disk.view c.args.disk.now) c.self.view_is (c.requires.on tells);
}

pub returns-in-Ok-clause-place : goal.returns-in-Ok-clause-place
returns-in-Ok-clause-place g c = place_restashed (record {
  control = c.self.inside.control;
  log = c.self.inside.log;
  cells = c.self.inside.cells;
  rows = c.self.inside.rows;
  realm = c.self.inside.realm;
  stash = c.self.inside.stash;
  broken = c.self.inside.broken;
}) c.args.self.now c.restash_parts.new.control c.args.bytes.now c.restash_parts.new.stash c.self.view_is
    c.in-Ok.ensures.control c.in-Ok.ensures.stash

pub returns-in-Ok-clause-on : goal.returns-in-Ok-clause-on
returns-in-Ok-clause-on g c tells = on_restashed (record {
  control = c.self.inside.control;
  log = c.self.inside.log;
  cells = c.self.inside.cells;
  rows = c.self.inside.rows;
  realm = c.self.inside.realm;
  stash = c.self.inside.stash;
  broken = c.self.inside.broken;
}) c.restash_parts.new.control c.args.bytes.now c.restash_parts.new.stash
    (g.D.Disk.view c.restash_parts.new.disk) c.in-Ok.ensures.stash (c.in-Ok.ensures.on tells (record {
      control = c.self.inside.control;
      log = c.self.inside.log;
      cells = c.self.inside.cells;
      rows = c.self.inside.rows;
      realm = c.self.inside.realm;
      stash = c.self.inside.stash;
      broken = c.self.inside.broken;
    }) (is_under (record {
      control = c.self.inside.control;
      log = c.self.inside.log;
      cells = c.self.inside.cells;
      rows = c.self.inside.rows;
      realm = c.self.inside.realm;
      stash = c.self.inside.stash;
      broken = c.self.inside.broken;
    }) c.args.self.now (g.D.Disk.view c.args.disk.now) c.self.view_is c.self.invariant (c.requires.on tells)))

pub returns-in-Ok-clause-crash : goal.returns-in-Ok-clause-crash
returns-in-Ok-clause-crash g c = record {
  told = λ tells. stash_told (record {
    control = c.self.inside.control;
    log = c.self.inside.log;
    cells = c.self.inside.cells;
    rows = c.self.inside.rows;
    realm = c.self.inside.realm;
    stash = c.self.inside.stash;
    broken = c.self.inside.broken;
  }) c.args.self.now c.args.bytes.now c.self.view_is
      (c.restash_parts.ensures.crash tells (record {
        control = c.self.inside.control;
        log = c.self.inside.log;
        cells = c.self.inside.cells;
        rows = c.self.inside.rows;
        realm = c.self.inside.realm;
        stash = c.self.inside.stash;
        broken = c.self.inside.broken;
      }) (is_under (record {
        control = c.self.inside.control;
        log = c.self.inside.log;
        cells = c.self.inside.cells;
        rows = c.self.inside.rows;
        realm = c.self.inside.realm;
        stash = c.self.inside.stash;
        broken = c.self.inside.broken;
      }) c.args.self.now (g.D.Disk.view c.args.disk.now) c.self.view_is c.self.invariant (c.requires.on tells)));
}

pub returns-in-Err-DiskFault-clause-crash : goal.returns-in-Err-DiskFault-clause-crash
returns-in-Err-DiskFault-clause-crash g c = record {
  told = λ tells. stash_told (record {
    control = c.self.inside.control;
    log = c.self.inside.log;
    cells = c.self.inside.cells;
    rows = c.self.inside.rows;
    realm = c.self.inside.realm;
    stash = c.self.inside.stash;
    broken = c.self.inside.broken;
  }) c.args.self.now c.args.bytes.now c.self.view_is
      (c.restash_parts.ensures.crash tells (record {
        control = c.self.inside.control;
        log = c.self.inside.log;
        cells = c.self.inside.cells;
        rows = c.self.inside.rows;
        realm = c.self.inside.realm;
        stash = c.self.inside.stash;
        broken = c.self.inside.broken;
      }) (is_under (record {
        control = c.self.inside.control;
        log = c.self.inside.log;
        cells = c.self.inside.cells;
        rows = c.self.inside.rows;
        realm = c.self.inside.realm;
        stash = c.self.inside.stash;
        broken = c.self.inside.broken;
      }) c.args.self.now (g.D.Disk.view c.args.disk.now) c.self.view_is c.self.invariant (c.requires.on tells)));
}

pub returns-in-Err-MemoryOut-clause-crash : goal.returns-in-Err-MemoryOut-clause-crash
returns-in-Err-MemoryOut-clause-crash g c = record {
  told = λ tells. stash_told (record {
    control = c.self.inside.control;
    log = c.self.inside.log;
    cells = c.self.inside.cells;
    rows = c.self.inside.rows;
    realm = c.self.inside.realm;
    stash = c.self.inside.stash;
    broken = c.self.inside.broken;
  }) c.args.self.now c.args.bytes.now c.self.view_is
      (c.restash_parts.ensures.crash tells (record {
        control = c.self.inside.control;
        log = c.self.inside.log;
        cells = c.self.inside.cells;
        rows = c.self.inside.rows;
        realm = c.self.inside.realm;
        stash = c.self.inside.stash;
        broken = c.self.inside.broken;
      }) (is_under (record {
        control = c.self.inside.control;
        log = c.self.inside.log;
        cells = c.self.inside.cells;
        rows = c.self.inside.rows;
        realm = c.self.inside.realm;
        stash = c.self.inside.stash;
        broken = c.self.inside.broken;
      }) c.args.self.now (g.D.Disk.view c.args.disk.now) c.self.view_is c.self.invariant (c.requires.on tells)));
}

pub returns-in-Err-MemoryOut-clause-still : goal.returns-in-Err-MemoryOut-clause-still
returns-in-Err-MemoryOut-clause-still g c tells none =
    still_stash g.D.Disk.view (record {
      control = c.self.inside.control;
      log = c.self.inside.log;
      cells = c.self.inside.cells;
      rows = c.self.inside.rows;
      realm = c.self.inside.realm;
      stash = c.self.inside.stash;
      broken = c.self.inside.broken;
    }) c.args.self.now c.restash_parts.new.control c.restash_parts.new.stash c.args.disk.now c.restash_parts.new.disk
    c.self.view_is
    c.in-Err-MemoryOut.ensures.same_control c.in-Err-MemoryOut.ensures.same_stash
    (c.restash_parts.ensures.memory (c.in-Err-MemoryOut.is ∙ ap Err c.in-Err-MemoryOut.field-0-is))
    (c.requires.on tells)

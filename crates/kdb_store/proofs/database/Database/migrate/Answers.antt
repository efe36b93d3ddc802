use Rattle.std.proofs.Common.{ap, refl, ◌∙◌, Err}
use Rattle.kdb_places.specs.Places.{log_anew}
use Rattle.store_files.specs.Kept.{Kept, place_kept}
use Rattle.store_switches.specs.Renewed.{renewed}
use Rattle.kdb_store.proofs.Switched.{is_under, in_force_now}
use Rattle.kdb_store.proofs.Renewals.{place_is_renewed, told_at, same_parts, still_on}
use Rattle.kdb_store.proofs.database.Database.migrate.Goals as goal

pub renew_parts-requires-clause-force : goal.renew_parts-requires-clause-force
renew_parts-requires-clause-force g c tells =
    let k : Kept = record {
      control = c.self.inside.control;
      log = c.self.inside.log;
      cells = c.self.inside.cells;
      rows = c.self.inside.rows;
      realm = c.self.inside.realm;
      stash = c.self.inside.stash;
      broken = c.self.inside.broken;
    } in
    in_force_now k c.args.self.now (g.D.Disk.view c.args.disk.now) c.self.view_is (c.requires.on tells)

pub returns-in-Ok-clause-place : goal.returns-in-Ok-clause-place
returns-in-Ok-clause-place g c =
    let k : Kept = record {
      control = c.self.inside.control;
      log = c.self.inside.log;
      cells = c.self.inside.cells;
      rows = c.self.inside.rows;
      realm = c.self.inside.realm;
      stash = c.self.inside.stash;
      broken = c.self.inside.broken;
    } in
    place_is_renewed k c.args.base c.args.size c.args.block c.renew_parts.new.control c.renew_parts.new.log
    c.renew_parts.new.cells k.realm k.rows c.in-Ok.ensures.renewed
    ∙ ap (λ (x : Kept). log_anew c.args.base c.args.size c.args.block (place_kept x)) c.self.view_is

pub returns-in-Ok-clause-on : goal.returns-in-Ok-clause-on
returns-in-Ok-clause-on g c tells =
    let k : Kept = record {
      control = c.self.inside.control;
      log = c.self.inside.log;
      cells = c.self.inside.cells;
      rows = c.self.inside.rows;
      realm = c.self.inside.realm;
      stash = c.self.inside.stash;
      broken = c.self.inside.broken;
    } in
    c.in-Ok.ensures.on tells k
    (is_under k c.args.self.now (g.D.Disk.view c.args.disk.now) c.self.view_is c.self.invariant (c.requires.on tells))

pub returns-in-Ok-clause-crash : goal.returns-in-Ok-clause-crash
returns-in-Ok-clause-crash g c =
    let k : Kept = record {
      control = c.self.inside.control;
      log = c.self.inside.log;
      cells = c.self.inside.cells;
      rows = c.self.inside.rows;
      realm = c.self.inside.realm;
      stash = c.self.inside.stash;
      broken = c.self.inside.broken;
    } in
    record {
      told = λ tells. told_at (λ (x : Kept). log_anew c.args.base c.args.size c.args.block (place_kept x))
          k c.args.self.now c.self.view_is (c.renew_parts.ensures.crash tells k (is_under k c.args.self.now
          (g.D.Disk.view c.args.disk.now) c.self.view_is c.self.invariant (c.requires.on tells)));
    }

pub returns-in-Err-DiskFault-clause-crash : goal.returns-in-Err-DiskFault-clause-crash
returns-in-Err-DiskFault-clause-crash g c =
    let k : Kept = record {
      control = c.self.inside.control;
      log = c.self.inside.log;
      cells = c.self.inside.cells;
      rows = c.self.inside.rows;
      realm = c.self.inside.realm;
      stash = c.self.inside.stash;
      broken = c.self.inside.broken;
    } in
    record {
      told = λ tells. told_at (λ (x : Kept). log_anew c.args.base c.args.size c.args.block (place_kept x))
          k c.args.self.now c.self.view_is (c.renew_parts.ensures.crash tells k (is_under k c.args.self.now
          (g.D.Disk.view c.args.disk.now) c.self.view_is c.self.invariant (c.requires.on tells)));
    }

pub returns-in-Err-MemoryOut-clause-crash : goal.returns-in-Err-MemoryOut-clause-crash
returns-in-Err-MemoryOut-clause-crash g c =
    let k : Kept = record {
      control = c.self.inside.control;
      log = c.self.inside.log;
      cells = c.self.inside.cells;
      rows = c.self.inside.rows;
      realm = c.self.inside.realm;
      stash = c.self.inside.stash;
      broken = c.self.inside.broken;
    } in
    record {
      told = λ tells. told_at (λ (x : Kept). log_anew c.args.base c.args.size c.args.block (place_kept x))
          k c.args.self.now c.self.view_is (c.renew_parts.ensures.crash tells k (is_under k c.args.self.now
          (g.D.Disk.view c.args.disk.now) c.self.view_is c.self.invariant (c.requires.on tells)));
    }

pub returns-in-Err-MemoryOut-clause-still : goal.returns-in-Err-MemoryOut-clause-still
returns-in-Err-MemoryOut-clause-still g c tells none =
    let k : Kept = record {
      control = c.self.inside.control;
      log = c.self.inside.log;
      cells = c.self.inside.cells;
      rows = c.self.inside.rows;
      realm = c.self.inside.realm;
      stash = c.self.inside.stash;
      broken = c.self.inside.broken;
    } in
    let e = c.in-Err-MemoryOut.ensures in
    still_on g.D.Disk.view k c.args.self.now
    (renewed c.renew_parts.new.control c.renew_parts.new.log c.renew_parts.new.cells k.realm k.rows k) c.args.disk.now
    c.renew_parts.new.disk
    (same_parts k c.renew_parts.new.control c.renew_parts.new.log c.renew_parts.new.cells k.rows e.same_control
    e.same_log e.same_cells refl) c.self.view_is
    (c.renew_parts.ensures.memory (c.in-Err-MemoryOut.is ∙ ap Err c.in-Err-MemoryOut.field-0-is)) (c.requires.on tells)

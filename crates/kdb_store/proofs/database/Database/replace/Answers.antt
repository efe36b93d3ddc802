use Rattle.std.proofs.Common.{ℕ, List, ap, ◌∙◌, Err}
use Rattle.princ_rows.specs.Rows.{RowLists}
use Rattle.kdb_places.specs.Places.{replaced}
use Rattle.store_files.specs.Kept.{Kept, place_kept}
use Rattle.store_switches.specs.Renewed.{renewed}
use Rattle.kdb_store.proofs.Switched.{is_under, in_force_now}
use Rattle.kdb_store.proofs.Renewals.{place_is_renewed, told_at, same_renewal, still_on}
use Rattle.kdb_store.proofs.database.Database.replace.Goals as goal

pub replace_parts-requires : goal.replace_parts-requires
replace_parts-requires g c =
    let k : Kept = record {
      control = c.self.inside.control;
      log = c.self.inside.log;
      cells = c.self.inside.cells;
      rows = c.self.inside.rows;
      realm = c.self.inside.realm;
      stash = c.self.inside.stash;
      broken = c.self.inside.broken;
    } in
    record {
      force =
          λ tells. in_force_now k c.args.self.now (g.D.Disk.view c.args.disk.now) c.self.view_is (c.requires.on tells);
    }

pub returns-in-Ok-clause-place : goal.returns-in-Ok-clause-place
returns-in-Ok-clause-place g c =
    let k : Kept = record {
      control = c.self.inside.control;
      log = c.self.inside.log;
      cells = c.self.inside.cells;
      rows = c.self.inside.rows;
      realm = c.self.inside.realm;
      stash = c.self.inside.stash;
      broken = c.self.inside.broken;
    } in
    let p = c.replace_parts.new in
    ap (λ (r : RowLists). place_kept (renewed p.control p.log p.cells p.realm r k)) c.in-Ok.ensures.rows
    ∙ ap (λ (m : List ℕ). place_kept (renewed p.control p.log p.cells m c.args.rows k)) c.in-Ok.ensures.realm
    ∙ place_is_renewed k c.args.base k.control.size k.control.block p.control p.log p.cells c.args.realm c.args.rows
    c.in-Ok.ensures.renewed
    ∙ ap (λ (x : Kept). replaced c.args.realm c.args.rows c.args.base (place_kept x)) c.self.view_is

pub returns-in-Ok-clause-on : goal.returns-in-Ok-clause-on
returns-in-Ok-clause-on g c tells =
    let k : Kept = record {
      control = c.self.inside.control;
      log = c.self.inside.log;
      cells = c.self.inside.cells;
      rows = c.self.inside.rows;
      realm = c.self.inside.realm;
      stash = c.self.inside.stash;
      broken = c.self.inside.broken;
    } in
    c.in-Ok.ensures.on tells k
    (is_under k c.args.self.now (g.D.Disk.view c.args.disk.now) c.self.view_is c.self.invariant (c.requires.on tells))

pub returns-in-Ok-clause-crash : goal.returns-in-Ok-clause-crash
returns-in-Ok-clause-crash g c =
    let k : Kept = record {
      control = c.self.inside.control;
      log = c.self.inside.log;
      cells = c.self.inside.cells;
      rows = c.self.inside.rows;
      realm = c.self.inside.realm;
      stash = c.self.inside.stash;
      broken = c.self.inside.broken;
    } in
    record {
      told = λ tells. told_at (λ (x : Kept). replaced c.args.realm c.args.rows c.args.base (place_kept x))
          k c.args.self.now c.self.view_is (c.replace_parts.ensures.crash tells k (is_under k c.args.self.now
          (g.D.Disk.view c.args.disk.now) c.self.view_is c.self.invariant (c.requires.on tells)));
    }

pub returns-in-Err-DiskFault-clause-crash : goal.returns-in-Err-DiskFault-clause-crash
returns-in-Err-DiskFault-clause-crash g c =
    let k : Kept = record {
      control = c.self.inside.control;
      log = c.self.inside.log;
      cells = c.self.inside.cells;
      rows = c.self.inside.rows;
      realm = c.self.inside.realm;
      stash = c.self.inside.stash;
      broken = c.self.inside.broken;
    } in
    record {
      told = λ tells. told_at (λ (x : Kept). replaced c.args.realm c.args.rows c.args.base (place_kept x))
          k c.args.self.now c.self.view_is (c.replace_parts.ensures.crash tells k (is_under k c.args.self.now
          (g.D.Disk.view c.args.disk.now) c.self.view_is c.self.invariant (c.requires.on tells)));
    }

pub returns-in-Err-MemoryOut-clause-crash : goal.returns-in-Err-MemoryOut-clause-crash
returns-in-Err-MemoryOut-clause-crash g c =
    let k : Kept = record {
      control = c.self.inside.control;
      log = c.self.inside.log;
      cells = c.self.inside.cells;
      rows = c.self.inside.rows;
      realm = c.self.inside.realm;
      stash = c.self.inside.stash;
      broken = c.self.inside.broken;
    } in
    record {
      told = λ tells. told_at (λ (x : Kept). replaced c.args.realm c.args.rows c.args.base (place_kept x))
          k c.args.self.now c.self.view_is (c.replace_parts.ensures.crash tells k (is_under k c.args.self.now
          (g.D.Disk.view c.args.disk.now) c.self.view_is c.self.invariant (c.requires.on tells)));
    }

pub returns-in-Err-MemoryOut-clause-still : goal.returns-in-Err-MemoryOut-clause-still
returns-in-Err-MemoryOut-clause-still g c tells none =
    let k : Kept = record {
      control = c.self.inside.control;
      log = c.self.inside.log;
      cells = c.self.inside.cells;
      rows = c.self.inside.rows;
      realm = c.self.inside.realm;
      stash = c.self.inside.stash;
      broken = c.self.inside.broken;
    } in
    let e = c.in-Err-MemoryOut.ensures in
    still_on g.D.Disk.view k c.args.self.now
    (renewed c.replace_parts.new.control c.replace_parts.new.log c.replace_parts.new.cells c.replace_parts.new.realm
    c.replace_parts.new.rows k) c.args.disk.now c.replace_parts.new.disk
    (same_renewal k c.replace_parts.new.control c.replace_parts.new.log c.replace_parts.new.cells
    c.replace_parts.new.realm c.replace_parts.new.rows e.same_control e.same_log e.same_cells e.same_realm e.same_rows)
    c.self.view_is
    (c.replace_parts.ensures.memory (c.in-Err-MemoryOut.is ∙ ap Err c.in-Err-MemoryOut.field-0-is))
    (c.requires.on tells)

use Rattle.std.proofs.Common.{◌≡◌, Some, ap, subst, ◌∙◌}
use Rattle.std.specs.Prelude.{OnOk, [], ◌∷◌, ◌++◌}
use Rattle.std.proofs.lemmas.Result.{on_ok_weaker}
use Rattle.kdb_disk.specs.Moments.{LeavesOnly}
use Rattle.princ_rows.specs.declared.entries.Entry.{Entry}
use Rattle.kdb_cells.specs.FileCells.{IsFileOf}
use Rattle.kdb_places.specs.Places.{committed}
use Rattle.update_log.specs.Logs.{Journal, newest, with_prepared, log_committed}
use Rattle.store_files.specs.Found.{Found}
use Rattle.store_files.specs.Kept.{place_kept, with_parts, found_with}
use Rattle.store_files.specs.Standing.{Holds, IsUnderWay, after}
use Rattle.kdb_store.specs.Parts.{MayCommit}
use Rattle.kdb_store.specs.Writes.{number_of}
use Rattle.kdb_store.proofs.Changed.{index_may, plan_within, indexed_after, held_now, IsReady}
use Rattle.kdb_store.proofs.Changed.{may_commit, change_leaves, nothing_leaves, change_on}
use Rattle.kdb_store.proofs.changing.change.Goals as goal

pub write_begun-requires-clause-may : goal.write_begun-requires-clause-may
write_begun-requires-clause-may g c =
    index_may c.in-Ok.field-0.write c.args.op c.args.rows.now c.begin_change.ensures.alike c.requires.indexed
    c.holds_rows.ensures c.in-Ok.ensures.plan c.requires.op c.requires.name c.requires.room c.in-Ok.ensures.given

pub write_begun-requires-clause-within : goal.write_begun-requires-clause-within
write_begun-requires-clause-within g c tells =
    let file = c.requires.file tells in
    plan_within c.in-Ok.field-0.write c.args.op c.args.rows.now file.0
    (g.D.Disk.view c.args.disk.now).seen c.begin_change.ensures.alike c.in-Ok.ensures.plan file.1

pub returns-in-Ok-clause-indexed : goal.returns-in-Ok-clause-indexed
returns-in-Ok-clause-indexed g c =
    indexed_after c.write_begun.result c.args.cells.now c.begin_change.new.cells c.write_begun.new.cells
    c.args.rows.now c.begin_change.new.rows c.write_begun.new.rows c.in-Ok.field-0.begun c.in-Ok.field-0.write c.args.op
    c.in-Ok.field-0.entry.op
    c.begin_change.ensures.alike c.requires.indexed c.holds_rows.ensures c.in-Ok.ensures.plan c.requires.op
    c.requires.name c.requires.room (ap (λ (e : Entry). e.op) c.in-Ok.ensures.entry) c.in-Ok.ensures.finished
    c.in-Ok.ensures.back
    c.write_begun.ensures.rows c.write_begun.ensures.back c.write_begun.ensures.leads c.write_begun.ensures.err

pub returns-in-Ok-clause-held : goal.returns-in-Ok-clause-held
returns-in-Ok-clause-held g c =
    on_ok_weaker c.write_begun.result (λ is. held_now c.args.log.now c.write_begun.new.log c.in-Ok.field-0.entry
    (number_of c.in-Ok.field-0.write) c.args.point c.args.op c.in-Ok.ensures.entry is) c.write_begun.ensures.held

pub returns-in-Ok-clause-crash : goal.returns-in-Ok-clause-crash
returns-in-Ok-clause-crash g c tells k stands =
    let now = g.D.Disk.view c.args.disk.now in
    let n = number_of c.in-Ok.field-0.write in
    let is : IsReady c.args.log.now c.args.cells.now c.begin_change.new.cells c.args.rows.now k c.args.point c.args.op
    c.in-Ok.field-0.write now = record {
      newer = c.requires.format;
      same = c.begin_change.ensures.alike;
      sound = c.holds_rows.ensures;
      plan = c.in-Ok.ensures.plan;
      fits = c.requires.op;
      name = c.requires.name;
      room = c.requires.room;
      stands = stands;
    } in
    let o : Found = found_with (with_parts c.args.log.now c.args.cells.now c.args.rows.now k) stands.on.cells in
    let may = may_commit c.args.log.now c.args.cells.now c.begin_change.new.cells c.args.rows.now k c.args.point
    c.args.op c.in-Ok.field-0.write now is in
    let crash = subst (λ (e : Entry). MayCommit c.args.log.now c.begin_change.new.cells (record {
      entry = e;
      cell = n;
    }) o now → LeavesOnly now (g.D.Disk.view c.write_begun.new.disk) (IsUnderWay (record { entry = e; cell = n }) o))
    c.in-Ok.ensures.entry
    (c.write_begun.ensures.crash tells o) in
    change_leaves c.args.log.now c.args.cells.now c.begin_change.new.cells c.args.rows.now k c.args.point c.args.op
    c.in-Ok.field-0.write now is (crash may)

pub returns-in-Ok-clause-on : goal.returns-in-Ok-clause-on
returns-in-Ok-clause-on g c tells k stands =
    let now = g.D.Disk.view c.args.disk.now in
    let new = g.D.Disk.view c.write_begun.new.disk in
    let n = number_of c.in-Ok.field-0.write in
    let is : IsReady c.args.log.now c.args.cells.now c.begin_change.new.cells c.args.rows.now k c.args.point c.args.op
    c.in-Ok.field-0.write now = record {
      newer = c.requires.format;
      same = c.begin_change.ensures.alike;
      sound = c.holds_rows.ensures;
      plan = c.in-Ok.ensures.plan;
      fits = c.requires.op;
      name = c.requires.name;
      room = c.requires.room;
      stands = stands;
    } in
    let o : Found = found_with (with_parts c.args.log.now c.args.cells.now c.args.rows.now k) stands.on.cells in
    let may = may_commit c.args.log.now c.args.cells.now c.begin_change.new.cells c.args.rows.now k c.args.point
    c.args.op c.in-Ok.field-0.write now is in
    let e = c.in-Ok.ensures.entry in
    let held = subst (λ (x : Entry). OnOk c.write_begun.result
    (c.write_begun.new.log ≡ log_committed (with_prepared (Some (record { entry = x; cell = n })) c.args.log.now))) e
    c.write_begun.ensures.held in
    let all = subst (λ (x : Entry). MayCommit c.args.log.now c.begin_change.new.cells (record {
      entry = x;
      cell = n;
    }) o now → OnOk c.write_begun.result (Holds (after (record { entry = x; cell = n }) o) new)) e
    (c.write_begun.ensures.stands tells o) in
    let tie = subst (λ (x : Entry). MayCommit c.args.log.now c.begin_change.new.cells (record {
      entry = x;
      cell = n;
    }) o now → OnOk c.write_begun.result (IsFileOf c.write_begun.new.cells (after (record {
      entry = x;
      cell = n;
    }) o).sheet (new.seen c.begin_change.new.cells.file))) e (c.write_begun.ensures.file tells o) in
    change_on new c.write_begun.result c.args.log.now c.write_begun.new.log c.args.cells.now c.begin_change.new.cells
    c.write_begun.new.cells c.args.rows.now c.write_begun.new.rows k c.args.point c.args.op c.in-Ok.field-0.write now is
    held (on_ok_weaker c.write_begun.result (λ done. done ∙ c.in-Ok.ensures.finished) c.write_begun.ensures.rows)
    c.write_begun.ensures.number (all may) (tie may) (c.write_begun.ensures.log tells)
    (c.write_begun.ensures.durable tells)

pub returns-in-Err-clause-crash : goal.returns-in-Err-clause-crash
returns-in-Err-clause-crash g c tells k stands =
    let kept = with_parts c.args.log.now c.args.cells.now c.args.rows.now k in
    nothing_leaves kept (committed c.args.op c.args.point.time (place_kept kept))
    (g.D.Disk.view c.args.disk.now) stands.on

pub returns-in-Ok-clause-entered : goal.returns-in-Ok-clause-entered
returns-in-Ok-clause-entered g c =
    let n = number_of c.in-Ok.field-0.write in
    on_ok_weaker c.write_begun.result (λ is. record {
      cell = n;
      unit = record {
        given = c.in-Ok.ensures.plan.given;
        none = c.in-Ok.ensures.plan.none;
        only = c.in-Ok.ensures.plan.only;
      };
      held = ap (λ (j : Journal). j.held) is ∙ ap (λ (e : Entry). newest c.args.log.now.size
          (c.args.log.now.held ++ record { entry = e; cell = n } ∷ [])) c.in-Ok.ensures.entry;
    }) c.write_begun.ensures.held

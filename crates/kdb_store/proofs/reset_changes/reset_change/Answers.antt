use Rattle.std.proofs.Common.{ℕ, Some, refl, ap, sym, subst, ◌∙◌}
use Rattle.std.proofs.lemmas.Result.{on_ok_weaker}
use Rattle.princ_rows.specs.declared.entries.Entry.{Entry}
use Rattle.princ_rows.specs.Effects.{effect}
use Rattle.kdb_places.specs.Places.{change, committed, log_anew}
use Rattle.store_files.specs.Kept.{place_kept, with_parts}
use Rattle.store_files.specs.Switches.{reset_choice}
use Rattle.store_switches.specs.Switched.{with_log}
use Rattle.kdb_store.specs.Anew.{IsBehind}
use Rattle.kdb_store.specs.Parts.{LeadsAlike}
use Rattle.kdb_store.specs.Writes.{number_of}
use Rattle.kdb_store.proofs.Changed.{index_may, plan_within, indexed_after}
use Rattle.kdb_store.proofs.Anew.{comes_behind, nothing_anew, same_size, rows_on}
use Rattle.kdb_store.proofs.Anew.{anew_entry, anew_held, anew_numbers, on_err_at, still_anew}
use Rattle.kdb_store.proofs.reset_changes.reset_change.Goals as goal

pub reset_begun-requires-clause-comes : goal.reset_begun-requires-clause-comes
reset_begun-requires-clause-comes g c = comes_behind c.in-Ok.field-0.entry (number_of c.in-Ok.field-0.write) c.args.base
    c.behind-point.result c.args.time c.args.op c.in-Ok.ensures.entry c.behind-point.ensures c.requires.time

pub reset_begun-requires-clause-kept : goal.reset_begun-requires-clause-kept
reset_begun-requires-clause-kept g c tells =
    (with_parts c.args.log.now c.args.cells.now c.args.rows.now (c.requires.on tells).0, (c.requires.on tells).1)

pub reset_begun-requires-clause-may : goal.reset_begun-requires-clause-may
reset_begun-requires-clause-may g c =
    index_may c.in-Ok.field-0.write c.args.op c.args.rows.now c.begin_change.ensures.alike c.requires.indexed
    c.holds_rows.ensures c.in-Ok.ensures.plan c.requires.op c.requires.name c.requires.room c.in-Ok.ensures.given

pub reset_begun-requires-clause-within : goal.reset_begun-requires-clause-within
reset_begun-requires-clause-within g c tells =
    plan_within c.in-Ok.field-0.write c.args.op c.args.rows.now _ (g.D.Disk.view c.args.disk.now).seen
    c.begin_change.ensures.alike c.in-Ok.ensures.plan (c.requires.on tells).1.on.file

pub returns-in-Ok-clause-indexed : goal.returns-in-Ok-clause-indexed
returns-in-Ok-clause-indexed g c =
    indexed_after c.reset_begun.result c.args.cells.now c.begin_change.new.cells c.reset_begun.new.cells
    c.args.rows.now c.begin_change.new.rows c.reset_begun.new.rows c.in-Ok.field-0.begun c.in-Ok.field-0.write c.args.op
    c.in-Ok.field-0.entry.op
    c.begin_change.ensures.alike c.requires.indexed c.holds_rows.ensures c.in-Ok.ensures.plan c.requires.op
    c.requires.name c.requires.room (ap (λ (e : Entry). e.op) c.in-Ok.ensures.entry) c.in-Ok.ensures.finished
    c.in-Ok.ensures.back
    c.reset_begun.ensures.rows c.reset_begun.ensures.back c.reset_begun.ensures.leads c.reset_begun.ensures.err

pub returns-in-Ok-clause-crash : goal.returns-in-Ok-clause-crash
returns-in-Ok-clause-crash g c tells k under =
    let kept = with_parts c.args.log.now c.args.cells.now c.args.rows.now k in
    let behind : IsBehind c.args.control.now c.args.base c.args.time kept c.begin_change.new.cells c.in-Ok.field-0.entry
    c.in-Ok.field-0.write c.args.op (g.D.Disk.view c.args.disk.now) = record {
      under = under;
      planned = record {
        newer = c.requires.format;
        same = c.begin_change.ensures.alike;
        sound = c.holds_rows.ensures;
        plan = c.in-Ok.ensures.plan;
        fits = c.requires.op;
        name = c.requires.name;
        room = c.requires.room;
      };
      entry_is = c.in-Ok.ensures.entry ∙ ap (change c.args.op) c.behind-point.ensures;
    } in
    same_size (place_kept kept) c.args.op c.args.time c.args.base c.size_of-size.result c.args.control.now.size
    c.args.block c.size_of-size.ensures.value (c.reset_begun.ensures.crash tells kept c.args.op c.args.time behind)

pub returns-in-Ok-clause-on : goal.returns-in-Ok-clause-on
returns-in-Ok-clause-on g c tells k under =
    let kept = with_parts c.args.log.now c.args.cells.now c.args.rows.now k in
    let behind : IsBehind c.args.control.now c.args.base c.args.time kept c.begin_change.new.cells c.in-Ok.field-0.entry
    c.in-Ok.field-0.write c.args.op (g.D.Disk.view c.args.disk.now) = record {
      under = under;
      planned = record {
        newer = c.requires.format;
        same = c.begin_change.ensures.alike;
        sound = c.holds_rows.ensures;
        plan = c.in-Ok.ensures.plan;
        fits = c.requires.op;
        name = c.requires.name;
        room = c.requires.room;
      };
      entry_is = c.in-Ok.ensures.entry ∙ ap (change c.args.op) c.behind-point.ensures;
    } in
    rows_on c.reset_begun.result c.reset_begun.new.log c.reset_begun.new.cells (effect (Some c.args.op) c.args.rows.now)
    c.reset_begun.new.rows (with_log c.reset_begun.new.control c.reset_begun.new.log k)
    (g.D.Disk.view c.reset_begun.new.disk)
    (on_ok_weaker c.reset_begun.result (λ done. done ∙ c.in-Ok.ensures.finished) c.reset_begun.ensures.rows)
    (c.reset_begun.ensures.on tells kept c.args.op c.args.time behind)

pub returns-in-Ok-clause-control : goal.returns-in-Ok-clause-control
returns-in-Ok-clause-control g c =
    on_ok_weaker c.reset_begun.result
    (λ is. is ∙ ap (λ (n : ℕ). reset_choice c.reset_begun.new.control.log c.args.base n c.args.block c.args.control.now)
    c.size_of-size.ensures.value) c.reset_begun.ensures.control

pub returns-in-Ok-clause-alike : goal.returns-in-Ok-clause-alike
returns-in-Ok-clause-alike g c =
    on_ok_weaker c.reset_begun.result (λ is. anew_numbers c.reset_begun.new.control.log c.args.base
    c.size_of-size.result c.args.control.now.size c.args.block c.reset_begun.new.log (Some (record {
      entry = c.in-Ok.field-0.entry;
      cell = number_of c.in-Ok.field-0.write;
    })) c.size_of-size.ensures.value is) c.reset_begun.ensures.held

pub returns-in-Ok-clause-held : goal.returns-in-Ok-clause-held
returns-in-Ok-clause-held g c =
    on_ok_weaker c.reset_begun.result (λ is.
    anew_held c.reset_begun.new.control.log c.args.base c.size_of-size.result c.args.control.now.size c.args.block
    c.reset_begun.new.log c.in-Ok.field-0.entry (number_of c.in-Ok.field-0.write) c.behind-point.result c.args.time
    c.args.op c.in-Ok.ensures.entry c.behind-point.ensures c.size_of-size.ensures.value is) c.reset_begun.ensures.held

pub returns-in-Ok-clause-still : goal.returns-in-Ok-clause-still
returns-in-Ok-clause-still g c tells k under none =
    still_anew g.D.Disk.view c.args.control.now c.reset_begun.new.control k c.args.log.now c.reset_begun.new.log
    c.args.cells.now c.reset_begun.new.cells c.args.rows.now c.reset_begun.new.rows c.args.disk.now
    c.reset_begun.new.disk under
    (on_err_at none c.reset_begun.ensures.same_control) (on_err_at none c.reset_begun.ensures.same_log)
    (subst (LeadsAlike c.args.cells.now) (sym (on_err_at none c.reset_begun.ensures.err)) c.begin_change.ensures.alike)
    (on_err_at none c.reset_begun.ensures.back ∙ c.in-Ok.ensures.back) (c.reset_begun.ensures.memory none)

pub returns-in-Err-clause-still : goal.returns-in-Err-clause-still
returns-in-Err-clause-still g c tells k under none =
    still_anew g.D.Disk.view c.args.control.now c.args.control.now k c.args.log.now c.args.log.now c.args.cells.now
    c.begin_change.new.cells c.args.rows.now c.begin_change.new.rows c.args.disk.now c.args.disk.now under
    refl refl c.begin_change.ensures.alike c.in-Err.ensures.err refl

pub returns-in-Err-clause-crash : goal.returns-in-Err-clause-crash
returns-in-Err-clause-crash g c tells k under =
    let kept = with_parts c.args.log.now c.args.cells.now c.args.rows.now k in
    let anew = log_anew c.args.base c.args.control.now.size c.args.block (place_kept kept) in
    nothing_anew kept anew (committed c.args.op c.args.time anew) (g.D.Disk.view c.args.disk.now) under.on

pub returns-in-Ok-clause-entered : goal.returns-in-Ok-clause-entered
returns-in-Ok-clause-entered g c =
    on_ok_weaker c.reset_begun.result (λ is.
    anew_entry c.reset_begun.new.control.log c.args.base c.size_of-size.result c.args.control.now.size c.args.block
    c.reset_begun.new.log c.in-Ok.field-0.entry c.in-Ok.field-0.write c.behind-point.result c.args.time
    c.args.op c.args.cells.now c.args.rows.now c.in-Ok.ensures.plan c.in-Ok.ensures.entry c.behind-point.ensures
    c.size_of-size.ensures.value is) c.reset_begun.ensures.held

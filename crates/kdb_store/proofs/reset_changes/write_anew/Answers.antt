use Rattle.std.proofs.Common.{◌≢◌, ℕ, ◌*◌, ◌≤◌, List, length, Some, sym, ap, subst, ◌∙◌}
use Rattle.std.proofs.lemmas.Result.{on_ok_weaker}
use Rattle.kdb_control.specs.Choice.{Choice}
use Rattle.princ_rows.specs.declared.entries.Logged.{Logged}
use Rattle.update_log.specs.Logs.{Journal, with_prepared}
use Rattle.update_log.specs.Moments.{IsBodyFor, IsDurable}
use Rattle.update_log.proofs.Preparing.{noted_log}
use Rattle.kdb_cells.specs.Cells.{unit_size}
use Rattle.kdb_places.specs.Places.{committed, log_anew}
use Rattle.store_files.specs.Kept.{IsOnDisk, place_kept}
use Rattle.store_switches.specs.Switched.{with_log}
use Rattle.kdb_store.specs.Writes.{number_of}
use Rattle.kdb_store.proofs.Anew.{begun_run, in_force_under, IsFollowed, follow_leaves, follow_on}
use Rattle.kdb_store.proofs.reset_changes.write_anew.Goals as goal

pub reset_files-requires-clause-force : goal.reset_files-requires-clause-force
reset_files-requires-clause-force g c tells =
    let kept = c.requires.kept tells in
    in_force_under c.args.now.now kept.0 (g.D.Disk.view c.args.disk.now) kept.1

pub write_prepared-requires-clause-ready : goal.write_prepared-requires-clause-ready
write_prepared-requires-clause-ready g c = ap (λ (j : Journal). j.prepared) c.requires.log

pub write_prepared-requires-clause-body : goal.write_prepared-requires-clause-body
write_prepared-requires-clause-body g c =
    let l : Logged = record { entry = c.args.entry.now; cell = number_of c.args.write } in
    subst (λ (n : ℕ). IsBodyFor l n c.args.body.now) (sym (ap (λ (j : Journal). j.block) c.requires.log))
    c.requires.body

pub write_prepared-requires-clause-log : goal.write_prepared-requires-clause-log
write_prepared-requires-clause-log g c tells =
    let kept = c.requires.kept tells in
    let l : Logged = record { entry = c.args.entry.now; cell = number_of c.args.write } in
    noted_log c.args.marker.now c.args.log.now (Some l)
    (c.requires.log ∙ ap (with_prepared (Some l)) (sym c.requires.marker))
    (c.in_ok-reset_files.ensures.on tells kept.0 kept.1).log

pub write_prepared-requires-clause-durable : goal.write_prepared-requires-clause-durable
write_prepared-requires-clause-durable g c tells =
    let kept = c.requires.kept tells in
    subst (λ (f : ℕ). IsDurable f (g.D.Disk.view c.reset_files.new.disk))
    (ap (λ (j : Journal). j.file) c.requires.marker ∙ sym (ap (λ (j : Journal). j.file) c.requires.log))
    (c.in_ok-reset_files.ensures.on tells kept.0 kept.1).durable

pub write_prepared-requires-clause-apart : goal.write_prepared-requires-clause-apart
write_prepared-requires-clause-apart g c e =
    c.requires.spare.image (sym c.requires.image ∙ sym e ∙ ap (λ (j : Journal). j.file) c.requires.log)

pub write_prepared-requires-clause-within : goal.write_prepared-requires-clause-within
write_prepared-requires-clause-within g c tells =
    let kept = c.requires.kept tells in
    let some : c.args.cells.now.file ≢ 0 =
    λ e. kept.1.on.stands.files.image (ap (λ (x : Choice). x.image) kept.1.control_is ∙ sym c.requires.image ∙ e) in
    let other : c.args.cells.now.file ≢ c.args.next.now.log = λ e. c.requires.spare.image (sym c.requires.image ∙ e) in
    subst (λ (b : List ℕ). number_of c.args.write * unit_size c.args.cells.now.format ≤ length b)
    (sym (c.in_ok-reset_files.ensures.others tells c.args.cells.now.file some other)) (c.requires.within tells)

pub returns-in_err-reset_files-clause-crash : goal.returns-in_err-reset_files-clause-crash
returns-in_err-reset_files-clause-crash g c tells k op time behind =
    let next = c.args.next.now in
    let anew = log_anew next.base next.size next.block (place_kept k) in
    begun_run (place_kept k) anew (committed op time anew) (c.reset_files.ensures.crash tells k behind.under)

pub returns-clause-crash : goal.returns-clause-crash
returns-clause-crash g c tells k op time behind =
    let mid = g.D.Disk.view c.reset_files.new.disk in
    let next = c.args.next.now in
    let is : IsFollowed c.args.now.now next time k c.args.cells.now c.args.entry.now c.args.write op c.args.log.now
    (g.D.Disk.view c.args.disk.now) mid = record {
      next_is = c.requires.next;
      behind = behind;
      on = subst (λ (j : Journal). IsOnDisk (with_log next j k) mid) c.requires.marker
          (c.in_ok-reset_files.ensures.on tells k behind.under);
      noted_is = c.requires.log;
    } in
    follow_leaves is (c.reset_files.ensures.crash tells k behind.under) (c.write_prepared.ensures.crash tells)

pub returns-clause-on : goal.returns-clause-on
returns-clause-on g c tells k op time behind =
    let mid = g.D.Disk.view c.reset_files.new.disk in
    let next = c.args.next.now in
    let is : IsFollowed c.args.now.now next time k c.args.cells.now c.args.entry.now c.args.write op c.args.log.now
    (g.D.Disk.view c.args.disk.now) mid = record {
      next_is = c.requires.next;
      behind = behind;
      on = subst (λ (j : Journal). IsOnDisk (with_log next j k) mid) c.requires.marker
          (c.in_ok-reset_files.ensures.on tells k behind.under);
      noted_is = c.requires.log;
    } in
    follow_on (g.D.Disk.view c.write_prepared.new.disk) c.write_prepared.result c.write_prepared.new.log
    c.write_prepared.new.cells is c.write_prepared.ensures.held c.write_prepared.ensures.number
    (c.write_prepared.ensures.stands tells) (c.write_prepared.ensures.file tells) (c.write_prepared.ensures.log tells)
    (c.write_prepared.ensures.durable tells)

pub returns-clause-others : goal.returns-clause-others
returns-clause-others g c tells =
    on_ok_weaker c.write_prepared.result
    (λ wrote file some log image. wrote file (λ e. log (e ∙ ap (λ (j : Journal). j.file) c.requires.log)) image
    ∙ c.in_ok-reset_files.ensures.others tells file some log)
    (c.write_prepared.ensures.others tells)

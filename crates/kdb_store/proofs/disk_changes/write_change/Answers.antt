use Rattle.std.proofs.Common.{ℕ, inl, Some, ap, ◌∙◌}
use Rattle.kdb_disk.proofs.Runs.{started}
use Rattle.princ_rows.specs.declared.entries.Logged.{Logged}
use Rattle.update_log.specs.Logs.{Journal, with_prepared, log_committed}
use Rattle.update_log.proofs.Preparing.{noted_log}
use Rattle.store_files.specs.Standing.{IsUnderWay}
use Rattle.kdb_store.specs.Writes.{number_of}
use Rattle.kdb_store.proofs.DiskChanges.{noted_commit}
use Rattle.kdb_store.proofs.disk_changes.write_change.Goals as goal

pub write_prepared-requires-clause-ready : goal.write_prepared-requires-clause-ready
write_prepared-requires-clause-ready g c =
    let made : ℕ → Logged = λ (k : ℕ). record { entry = c.args.entry.now; cell = k } in
    ap (λ (j : Journal). j.prepared) c.in-Ok.ensures.ok ∙ ap (λ (k : ℕ). Some (made k)) c.number.ensures.value

pub write_prepared-requires-clause-log : goal.write_prepared-requires-clause-log
write_prepared-requires-clause-log g c tells =
    noted_log c.args.log.now c.ready.new.self _ c.in-Ok.ensures.ok (c.requires.log tells)

pub returns-in-Ok-write_prepared-clause-crash : goal.returns-in-Ok-write_prepared-clause-crash
returns-in-Ok-write_prepared-clause-crash g c tells o may =
    c.write_prepared.ensures.crash tells o (noted_commit c.ready.new.self _ c.in-Ok.ensures.ok may)

pub returns-in-Ok-clause-crash : goal.returns-in-Ok-clause-crash
returns-in-Ok-clause-crash g c tells o may =
    c.write_prepared.ensures.crash tells o (noted_commit c.ready.new.self _ c.in-Ok.ensures.ok may)

pub returns-in-Ok-write_prepared-clause-stands : goal.returns-in-Ok-write_prepared-clause-stands
returns-in-Ok-write_prepared-clause-stands g c tells o may =
    c.in-Ok-write_prepared.ensures.stands tells o (noted_commit c.ready.new.self _ c.in-Ok.ensures.ok may)

pub returns-in-Ok-write_prepared-clause-file : goal.returns-in-Ok-write_prepared-clause-file
returns-in-Ok-write_prepared-clause-file g c tells o may =
    c.in-Ok-write_prepared.ensures.file tells o (noted_commit c.ready.new.self _ c.in-Ok.ensures.ok may)

pub returns-in-Ok-write_prepared-clause-held : goal.returns-in-Ok-write_prepared-clause-held
returns-in-Ok-write_prepared-clause-held g c =
    let made : ℕ → Logged = λ (k : ℕ). record { entry = c.args.entry.now; cell = k } in
    c.in-Ok-write_prepared.ensures.held ∙ ap log_committed c.in-Ok.ensures.ok
    ∙ ap (λ (k : ℕ). log_committed (with_prepared (Some (made k)) c.args.log.now)) c.number.ensures.value

pub returns-clause-crash : goal.returns-clause-crash
returns-clause-crash g c tells o may =
    let l : Logged = record { entry = c.args.entry.now; cell = number_of c.args.write } in
    started (g.D.Disk.view c.args.disk.now) (IsUnderWay l o) (λ files here. inl (may.stands.each files here))

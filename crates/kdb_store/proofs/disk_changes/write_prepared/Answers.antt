use Rattle.std.proofs.Common.{◌*◌, ℕ, sym, subst, ap}
use Rattle.kdb_disk.specs.Moments.{LeavesOnly}
use Rattle.kdb_cells.specs.Cells.{unit_size}
use Rattle.princ_rows.specs.declared.entries.Logged.{Logged}
use Rattle.update_log.specs.Logs.{Journal, log_committed}
use Rattle.update_log.specs.Moments.{HasLog, IsDurable}
use Rattle.store_files.proofs.Committing.{other_log}
use Rattle.store_files.specs.Found.{left_by}
use Rattle.store_files.specs.Standing.{IsChange, IsUnderWay}
use Rattle.kdb_store.specs.Parts.{ArePending}
use Rattle.kdb_store.specs.Writes.{number_of}
use Rattle.kdb_store.proofs.DiskChanges.{change_crash, change_stands, change_durable}
use Rattle.kdb_store.proofs.DiskChanges.{others_stay, tie_kept, writes_there}
use Rattle.kdb_store.proofs.disk_changes.write_prepared.Goals as goal

pub returns-in-Ok-write_unit-clause-crash : goal.returns-in-Ok-write_unit-clause-crash
returns-in-Ok-write_unit-clause-crash g c tells o may =
    let made : ℕ → Logged = λ (k : ℕ). record { entry = c.args.entry.now; cell = k } in
    let n = c.number.ensures.value in
    let change = subst (λ (k : ℕ). IsChange o (made k)) (sym n) may.change in
    let pending = subst (λ (k : ℕ). ArePending (made k) o (g.D.Disk.view c.write_entry.new.disk)) n
    (c.in-Ok.ensures.pending tells o may.log_is may.stands change) in
    let first = subst (λ (k : ℕ). LeavesOnly (g.D.Disk.view c.args.disk.now) (g.D.Disk.view c.write_entry.new.disk)
    (IsUnderWay (made k) o)) n (c.write_entry.ensures.crash tells o may.log_is may.stands change) in
    change_crash g.D.Disk.view c.args.disk.now c.write_entry.new.disk c.write_unit.new.disk
    c.args.log.now c.args.cells.now (made (number_of c.args.write)) o may pending c.write_unit.ensures.nothing
    (c.write_unit.ensures.crash tells) first

pub returns-in-Err-write_unit-clause-crash : goal.returns-in-Err-write_unit-clause-crash
returns-in-Err-write_unit-clause-crash g c tells o may =
    let made : ℕ → Logged = λ (k : ℕ). record { entry = c.args.entry.now; cell = k } in
    let n = c.number.ensures.value in
    let change = subst (λ (k : ℕ). IsChange o (made k)) (sym n) may.change in
    let pending = subst (λ (k : ℕ). ArePending (made k) o (g.D.Disk.view c.write_entry.new.disk)) n
    (c.in-Ok.ensures.pending tells o may.log_is may.stands change) in
    let first = subst (λ (k : ℕ). LeavesOnly (g.D.Disk.view c.args.disk.now) (g.D.Disk.view c.write_entry.new.disk)
    (IsUnderWay (made k) o)) n (c.write_entry.ensures.crash tells o may.log_is may.stands change) in
    change_crash g.D.Disk.view c.args.disk.now c.write_entry.new.disk c.write_unit.new.disk
    c.args.log.now c.args.cells.now (made (number_of c.args.write)) o may pending c.write_unit.ensures.nothing
    (c.write_unit.ensures.crash tells) first

pub returns-in-Ok-write_unit-clause-stands : goal.returns-in-Ok-write_unit-clause-stands
returns-in-Ok-write_unit-clause-stands g c tells o may =
    let made : ℕ → Logged = λ (k : ℕ). record { entry = c.args.entry.now; cell = k } in
    let n = c.number.ensures.value in
    let change = subst (λ (k : ℕ). IsChange o (made k)) (sym n) may.change in
    let pending = subst (λ (k : ℕ). ArePending (made k) o (g.D.Disk.view c.write_entry.new.disk)) n
    (c.in-Ok.ensures.pending tells o may.log_is may.stands change) in
    let tie = c.in-Ok-write_unit.ensures.file tells (left_by c.args.entry.now.op) o.sheet
    (writes_there c.args.cells.now c.args.write (left_by c.args.entry.now.op) c.requires.format c.requires.writes)
    (tie_kept (g.D.Disk.view c.write_entry.new.disk) c.args.log.now c.args.cells.now
    (made (number_of c.args.write)) o c.requires.apart may (c.in-Ok.ensures.others tells)) in
    change_stands g.D.Disk.view c.write_entry.new.disk
    c.write_unit.new.disk c.args.log.now c.args.cells.now c.write_unit.new.cells (made (number_of c.args.write)) o
    (g.D.Disk.view c.args.disk.now) may pending c.write_unit.ensures.nothing (c.write_unit.ensures.crash tells)
    (c.in-Ok-write_unit.ensures.written tells) c.write_unit.ensures.same_format tie

pub returns-in-Ok-write_unit-clause-file : goal.returns-in-Ok-write_unit-clause-file
returns-in-Ok-write_unit-clause-file g c tells o may =
    c.in-Ok-write_unit.ensures.file tells (left_by c.args.entry.now.op) o.sheet
    (writes_there c.args.cells.now c.args.write (left_by c.args.entry.now.op) c.requires.format c.requires.writes)
    (tie_kept (g.D.Disk.view c.write_entry.new.disk) c.args.log.now c.args.cells.now _ o c.requires.apart may
    (c.in-Ok.ensures.others tells))

pub returns-in-Ok-write_unit-clause-log : goal.returns-in-Ok-write_unit-clause-log
returns-in-Ok-write_unit-clause-log g c tells =
    subst (λ (j : Journal). HasLog j (g.D.Disk.view c.write_unit.new.disk)) (sym c.take_prepared.ensures)
    (other_log (log_committed c.args.log.now) c.args.cells.now.file
    (number_of c.args.write * unit_size c.args.cells.now.format) (unit_size c.args.cells.now.format) c.requires.apart
    (c.in-Ok.ensures.log tells) (c.write_unit.ensures.crash tells))

pub returns-in-Ok-write_unit-clause-durable : goal.returns-in-Ok-write_unit-clause-durable
returns-in-Ok-write_unit-clause-durable g c tells =
    subst (λ (f : ℕ). IsDurable f (g.D.Disk.view c.write_unit.new.disk))
    (sym (ap (λ (j : Journal). j.file) c.take_prepared.ensures))
    (change_durable g.D.Disk.view c.write_entry.new.disk c.write_unit.new.disk c.args.cells.now (number_of c.args.write)
    c.args.log.now.file c.requires.apart c.write_unit.ensures.nothing (c.write_unit.ensures.crash tells)
    (c.in-Ok-write_unit.ensures.written tells) (c.in-Ok.ensures.durable tells))

pub write_unit-requires-clause-writes : goal.write_unit-requires-clause-writes
write_unit-requires-clause-writes g c = (
  left_by c.args.entry.now.op,
  writes_there c.args.cells.now c.args.write (left_by c.args.entry.now.op) c.requires.format c.requires.writes,
)

pub returns-in-Ok-write_unit-clause-leads : goal.returns-in-Ok-write_unit-clause-leads
returns-in-Ok-write_unit-clause-leads g c held holds within =
    c.in-Ok-write_unit.ensures.leads (left_by c.args.entry.now.op) held (writes_there c.args.cells.now c.args.write
    (left_by c.args.entry.now.op) c.requires.format c.requires.writes) holds within

pub returns-in-Ok-write_unit-clause-others : goal.returns-in-Ok-write_unit-clause-others
returns-in-Ok-write_unit-clause-others g c tells =
    others_stay g.D.Disk.view c.args.disk.now c.write_entry.new.disk c.write_unit.new.disk c.args.log.now.file
    c.args.cells.now.file (number_of c.args.write * unit_size c.args.cells.now.format) (number_of c.args.write)
    (c.in-Ok.ensures.others tells) c.write_unit.ensures.nothing (c.in-Ok-write_unit.ensures.written tells)

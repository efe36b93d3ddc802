use Rattle.std.proofs.Common.{◌≡◌, sym, ap, subst, ◌∙◌}
use Rattle.kdb_base.specs.declared.outcomes.Stop.TheVariants.{Refused}
use Rattle.std.specs.Prelude.{Err}
use Rattle.kdb_disk.specs.Files.{Files}
use Rattle.kdb_disk.proofs.Runs.{settled_keeps, keeps_then}
use Rattle.update_log.specs.Scanning.{scanned, Scans}
use Rattle.store_opening.proofs.Looked.{damage_stops, log_damage, log_refusal, stop_same, head_made}
use Rattle.store_opening.proofs.looking.read_log.Goals as goal

pub returns-in-Ok-scan-clause-headed : goal.returns-in-Ok-scan-clause-headed
returns-in-Ok-scan-clause-headed g c = record {
  log_is = c.in-Ok-scan.ensures.chosen;
  stands = c.in-Ok-scan.ensures.stands;
  journal = c.holds_journal.ensures;
  files = c.holds_files.ensures;
}

pub returns-in-Ok-scan-clause-read : goal.returns-in-Ok-scan-clause-read
returns-in-Ok-scan-clause-read g c tells =
    head_made c.in-Ok.control c.in-Ok-scan.log (g.D.Disk.view c.args.disk.now).seen
    (g.D.Disk.view c.read_control.new.disk).seen (c.read_control.ensures.keeps tells).seen (c.in-Ok.ensures.force tells)
    (c.in-Ok-scan.ensures.answer tells)

pub returns-in-Ok-scan-clause-log : goal.returns-in-Ok-scan-clause-log
returns-in-Ok-scan-clause-log g c tells settled =
    c.in-Ok-scan.ensures.log tells (record {
      durable = λ d now. ap (λ (files : Files). files c.in-Ok.control.log)
          ((settled_keeps settled (c.read_control.ensures.keeps tells)).only d now);
    })

pub returns-in-Err-scan-clause-refused : goal.returns-in-Err-scan-clause-refused
returns-in-Err-scan-clause-refused g c tells r is =
    let control = c.in-Ok.control in
    let stop = c.in-Err-scan.stop in
    let mid = (g.D.Disk.view c.read_control.new.disk).seen in
    let scans = c.in-Err-scan.ensures.answer tells in
    let same : c.log_stop.result ≡ Refused r = cc in
    let was = stop_same stop c.log_stop.result c.log_stop.ensures.same c.log_stop.ensures.halted
    (log_damage control (mid control.log) stop scans) in
    log_refusal (g.D.Disk.view c.args.disk.now).seen control stop r (c.in-Ok.ensures.force tells)
    (subst (λ (files : Files). Scans (Err stop) (scanned control (files control.log)))
    (c.read_control.ensures.keeps tells).seen scans) (sym was ∙ same)

pub returns-in-Err-scan-clause-stops : goal.returns-in-Err-scan-clause-stops
returns-in-Err-scan-clause-stops g c = damage_stops c.log_stop.result c.log_stop.ensures.damage

pub returns-in-Ok-scan-clause-keeps : goal.returns-in-Ok-scan-clause-keeps
returns-in-Ok-scan-clause-keeps g c tells = keeps_then (c.read_control.ensures.keeps tells) (c.scan.ensures.keeps tells)

pub returns-in-Err-scan-clause-keeps : goal.returns-in-Err-scan-clause-keeps
returns-in-Err-scan-clause-keeps g c tells =
    keeps_then (c.read_control.ensures.keeps tells) (c.scan.ensures.keeps tells)

use Rattle.std.proofs.Common.{◌∙◌, Some, ap, sym, subst}
use Rattle.kdb_disk.specs.Moments.{LeavesOnly}
use Rattle.princ_rows.specs.declared.entries.Logged.{Logged}
use Rattle.update_log.specs.Logs.{Journal, with_prepared}
use Rattle.update_log.specs.Moments.{HasLog, IsDurable, LeavesLog}
use Rattle.update_log.proofs.Preparing.{noted_log}
use Rattle.update_log.proofs.log.Log.prepare.Goals as goal

pub write_ready-requires-clause-log : goal.write_ready-requires-clause-log
write_ready-requires-clause-log g c tells =
    noted_log c.args.self.now c.ready.new.self _ c.in-Ok.ensures.ok (c.requires.log tells)

use Rattle.update_log.proofs.Readings.{reads_logs}
use Rattle.update_log.proofs.Scans.{holds_log}
use Rattle.update_log.proofs.laws.logs_are_read.Goals as goal

pub returns-clause-reads : goal.returns-clause-reads
returns-clause-reads c = reads_logs

pub returns-clause-holds : goal.returns-clause-holds
returns-clause-holds c = holds_log

use Rattle.kadm_top.proofs.Accounts.{log_is}
use Rattle.kadm_top.proofs.accounting.print_log.Goals as goal

pub returns : goal.returns
returns c = log_is c.args.database.now c.log-log.result.now c.log_size.result c.block.result c.print_ulog.result
    c.log-log.ensures c.holds_journal.ensures.some c.log_size.ensures c.block.ensures.value c.print_ulog.ensures

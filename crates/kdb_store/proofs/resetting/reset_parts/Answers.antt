use Rattle.kdb_places.specs.Places.{log_anew}
use Rattle.store_files.specs.Kept.{place_kept}
use Rattle.kdb_store.proofs.Switched.{nothing_done, own_leaves}
use Rattle.kdb_store.proofs.resetting.reset_parts.Goals as goal

pub returns-in-Ok-put_log-clause-crash : goal.returns-in-Ok-put_log-clause-crash
returns-in-Ok-put_log-clause-crash g c tells k under =
    own_leaves k c.reset_control-next.result c.args.control.now c.args.base c.args.size c.args.block
    c.reset_control-next.ensures.value (c.put_log.ensures.crash tells k under)

pub returns-in-Err-put_log-clause-crash : goal.returns-in-Err-put_log-clause-crash
returns-in-Err-put_log-clause-crash g c tells k under =
    own_leaves k c.reset_control-next.result c.args.control.now c.args.base c.args.size c.args.block
    c.reset_control-next.ensures.value (c.put_log.ensures.crash tells k under)

pub returns-in-Err-clause-crash : goal.returns-in-Err-clause-crash
returns-in-Err-clause-crash g c tells k under =
    nothing_done k (log_anew c.args.base c.args.size c.args.block (place_kept k))
    (g.D.Disk.view c.args.disk.now) c.args.control.now under

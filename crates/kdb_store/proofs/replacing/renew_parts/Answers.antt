use Rattle.store_files.specs.Kept.{place_kept}
use Rattle.store_switches.specs.Renewed.{place_renewed}
use Rattle.kdb_store.proofs.Switched.{nothing_done}
use Rattle.kdb_store.proofs.Renewals.{are_renewed, own_renewal}
use Rattle.kdb_store.proofs.replacing.renew_parts.Goals as goal

pub returns-in-Ok-put_renewal-clause-renewed : goal.returns-in-Ok-put_renewal-clause-renewed
returns-in-Ok-put_renewal-clause-renewed g c =
    are_renewed c.args.base c.args.size c.args.block c.args.realm.now c.args.rows.now c.args.control.now
    c.renewed_control-next.result c.put_renewal.new.log c.put_renewal.new.cells c.in-Ok.plan
    c.renewed_control-next.ensures.value c.in-Ok.ensures c.in-Ok-put_renewal.ensures.log
    c.in-Ok-put_renewal.ensures.cells

pub returns-in-Ok-put_renewal-clause-crash : goal.returns-in-Ok-put_renewal-clause-crash
returns-in-Ok-put_renewal-clause-crash g c tells k under =
    own_renewal k c.renewed_control-next.result c.args.control.now c.args.base c.args.size c.args.block c.args.realm.now
    c.args.rows.now c.renewed_control-next.ensures.value
    (c.put_renewal.ensures.crash tells k c.args.realm.now c.args.rows.now under c.in-Ok.ensures.has_rows)

pub returns-in-Err-put_renewal-clause-crash : goal.returns-in-Err-put_renewal-clause-crash
returns-in-Err-put_renewal-clause-crash g c tells k under =
    own_renewal k c.renewed_control-next.result c.args.control.now c.args.base c.args.size c.args.block c.args.realm.now
    c.args.rows.now c.renewed_control-next.ensures.value
    (c.put_renewal.ensures.crash tells k c.args.realm.now c.args.rows.now under c.in-Ok.ensures.has_rows)

pub returns-in-Err-clause-crash : goal.returns-in-Err-clause-crash
returns-in-Err-clause-crash g c tells k under =
    nothing_done k (place_renewed c.args.base c.args.size c.args.block c.args.realm.now c.args.rows.now (place_kept k))
    (g.D.Disk.view c.args.disk.now) c.args.control.now under

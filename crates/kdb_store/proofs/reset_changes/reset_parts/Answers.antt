use Rattle.kdb_places.specs.Places.{committed, log_anew}
use Rattle.store_files.specs.Kept.{place_kept}
use Rattle.kdb_store.proofs.Anew.{behind_next, own_parts, nothing_anew}
use Rattle.kdb_store.proofs.reset_changes.reset_parts.Goals as goal

pub returns-in-Ok-put_anew-clause-crash : goal.returns-in-Ok-put_anew-clause-crash
returns-in-Ok-put_anew-clause-crash g c tells k op time behind =
    let next = c.reset_control-next in
    own_parts (place_kept k) op time c.args.control.now next.result c.args.base c.args.size c.args.block
    next.ensures.value
    (c.put_anew.ensures.crash tells k op time (behind_next c.args.control.now next.result next.ensures.value behind))

pub returns-in-Ok-clause-crash : goal.returns-in-Ok-clause-crash
returns-in-Ok-clause-crash g c tells k op time behind =
    let next = c.reset_control-next in
    own_parts (place_kept k) op time c.args.control.now next.result c.args.base c.args.size c.args.block
    next.ensures.value
    (c.put_anew.ensures.crash tells k op time (behind_next c.args.control.now next.result next.ensures.value behind))

pub returns-in-Ok-put_anew-clause-on : goal.returns-in-Ok-put_anew-clause-on
returns-in-Ok-put_anew-clause-on g c tells k op time behind =
    let next = c.reset_control-next in
    c.in-Ok-put_anew.ensures.on tells k op time (behind_next c.args.control.now next.result next.ensures.value behind)

pub returns-clause-crash : goal.returns-clause-crash
returns-clause-crash g c tells k op time behind =
    let anew = log_anew c.args.base c.args.size c.args.block (place_kept k) in
    nothing_anew k anew (committed op time anew) (g.D.Disk.view c.args.disk.now) behind.under.on

use Rattle.kdb_places.specs.Places.{restashed}
use Rattle.store_files.specs.Kept.{place_kept}
use Rattle.kdb_store.proofs.Switched.{nothing_done}
use Rattle.kdb_store.proofs.stashing.restash_parts.Goals as goal

pub returns-in-Err-clause-crash : goal.returns-in-Err-clause-crash
returns-in-Err-clause-crash g c tells k under =
    nothing_done k (restashed c.args.bytes.now (place_kept k)) (g.D.Disk.view c.args.disk.now) c.args.control.now under

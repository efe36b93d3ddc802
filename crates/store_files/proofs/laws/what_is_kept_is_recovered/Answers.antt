use Rattle.store_files.proofs.Placed.{kept_recovers}
use Rattle.store_files.proofs.laws.what_is_kept_is_recovered.Goals as goal

pub returns : goal.returns
returns g c k is = kept_recovers k (g.D.Disk.view c.args.«_disk».now) is

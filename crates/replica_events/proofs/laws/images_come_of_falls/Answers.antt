use Rattle.std.proofs.Common.{false, refl}
use Rattle.replica_events.proofs.Falling.{held_falls, images_alike, opened_falls, rest_falls}
use Rattle.replica_events.proofs.laws.images_come_of_falls.Goals as goal

pub returns-clause-like : goal.returns-clause-like
returns-clause-like g c = images_alike (g.D.Disk.view c.args.«_disk».now)

pub returns-clause-read : goal.returns-clause-read
returns-clause-read g c = λ tells sent r each. each _ (g.met.D.Disk.reads_as_image c.args.«_disk».now tells)

pub returns-clause-kept : goal.returns-clause-kept
returns-clause-kept g c = λ sent o r h on c_ image. rest_falls sent r c_ (held_falls (g.D.Disk.view c.args.«_disk».now)
    o.database r.place c_ c.what_is_kept_is_recovered.ensures h.place on image)

pub returns-clause-opened : goal.returns-clause-opened
returns-clause-opened g c = λ sent r c_ h n each some leaves.
    opened_falls (λ s q task after. c.tasks_are_events.ensures.stopped s q task false after)
    (g.D.Disk.view c.args.«_disk».now) sent r _ c_ h n each some _ refl leaves

-- A file of a disk in memory, as far as its calls were done again.
use Rattle.kdb_disk.specs.declared.replay.Replay.{Replay}
use Rattle.kdb_disk.specs.Memory.{Pending}

abbrev pub pending_of : Replay → Pending
pending_of r =
    record { now = r.bytes.items; base = r.base.items; least = r.least; greatest = r.greatest; ranges = r.ranges.items }

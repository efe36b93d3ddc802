use Rattle.std.proofs.Common.{length, take, ◌-◌, ◌≡◌, ◌≤◌}
use Rattle.kdb_ports.specs.Told.{after_told}
use Rattle.kdb_ports.proofs.writing.write_whole.Given as goal

-- so many of the bytes were taken
abbrev pub invariant-loop-at : goal.invariant-loop-at
invariant-loop-at g l =
    (l.at ≤ length l.bytes)
    × (g.K.Sink.taken l.sink ≡ after_told (g.K.Sink.taken l.fn.sink) (take l.at l.bytes))
    × (g.K.Sink.faults l.fn.sink ≤ g.K.Sink.faults l.sink)

abbrev pub decreases-loop-at : goal.decreases-loop-at
decreases-loop-at g l = length l.bytes - l.at

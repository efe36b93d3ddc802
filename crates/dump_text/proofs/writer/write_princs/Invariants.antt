use Rattle.std.proofs.Common.{take, ◌++◌, ◌≤◌}
use Rattle.std.specs.List.{flat_map}
use Rattle.dump_text.specs.Dumps.{marked, princ_line}
use Rattle.dump_text.specs.Parts.{Holds}
use Rattle.dump_text.proofs.writer.write_princs.Given as goal

-- the lines so far were written, or are held
abbrev pub invariant-loop-princ : goal.invariant-loop-princ
invariant-loop-princ g l =
    Holds (l.fn.out.items ++ flat_map (λ p. marked l.mark (princ_line p)) (take l.princ-index l.princs))
    (g.K.Sink.taken l.fn.sink) (g.K.Sink.taken l.sink) l.out.items
    × (g.K.Sink.faults l.fn.sink ≤ g.K.Sink.faults l.sink)

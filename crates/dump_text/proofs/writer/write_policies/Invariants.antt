use Rattle.std.proofs.Common.{take, ◌++◌, ◌≤◌}
use Rattle.std.specs.List.{flat_map}
use Rattle.dump_text.specs.Dumps.{marked, policy_line}
use Rattle.dump_text.specs.Parts.{Holds}
use Rattle.dump_text.proofs.writer.write_policies.Given as goal

-- the lines so far were written, or are held
abbrev pub invariant-loop-policy : goal.invariant-loop-policy
invariant-loop-policy g l =
    Holds (l.fn.out.items ++ flat_map (λ p. marked l.mark (policy_line p)) (take l.policy-index l.policies))
    (g.K.Sink.taken l.fn.sink) (g.K.Sink.taken l.sink) l.out.items
    × (g.K.Sink.faults l.fn.sink ≤ g.K.Sink.faults l.sink)

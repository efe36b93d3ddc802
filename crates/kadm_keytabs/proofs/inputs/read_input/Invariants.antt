-- Between two reads: so many bytes were taken, and the first of them are kept.
use Rattle.std.proofs.Common.{◌-◌, ◌≡◌, ◌≤◌, length, []}
use Rattle.kadm_keytabs.specs.Inputs.{IsTaken}
use Rattle.kadm_keytabs.proofs.inputs.read_input.Given as goal

abbrev pub invariant-loop-taken : goal.invariant-loop-taken
invariant-loop-taken g l = record {
  whole : IsTaken (g.S.Source.left l.fn.source) (g.S.Source.left l.source) l.taken [] l.kept.items;
  room : l.taken ≤ 4294967296;
  piece : length l.piece.items ≡ 65536;
  counts : g.S.Source.faults l.fn.source ≤ g.S.Source.faults l.source;
}

abbrev pub decreases-loop-taken : goal.decreases-loop-taken
decreases-loop-taken g l = 4294967296 - l.taken

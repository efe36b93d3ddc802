use Rattle.std.proofs.Common.{◌≡◌, ◌-◌}
use Rattle.tagged_data.specs.Contents.{items_within}
use Rattle.tagged_data.proofs.Rests.{behind}
use Rattle.tagged_data.proofs.rest.read_rest.Given as goal

abbrev pub invariant-loop : goal.invariant-loop
invariant-loop g l = behind l.items.items (items_within g.F.Format.reading (l.most - l.counter) l.reader)
    ≡ items_within g.F.Format.reading l.most l.bytes

use Rattle.std.proofs.Common.{◌≡◌, ◌-◌}
use Rattle.kdb_format.specs.Readings.{list_at}
use Rattle.kdb_format.specs.Items.{with_front}
use Rattle.kdb_format.proofs.lists.read_items.Given as goal

abbrev pub invariant-loop : goal.invariant-loop
invariant-loop g l = with_front l.items.items (list_at g.F.Format.reading (l.count - l.counter) l.reader)
    ≡ list_at g.F.Format.reading l.count l.fn.reader

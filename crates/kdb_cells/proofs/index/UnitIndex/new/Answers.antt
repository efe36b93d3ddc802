use Rattle.std.proofs.Common.{heap_items, None, length, ap}
use Rattle.kdb_cells.specs.Indexes.{Entries, Index, unit_of, units}
use Rattle.kdb_cells.proofs.Indexing.{begun_index}
use Rattle.kdb_cells.proofs.index.UnitIndex.new.Goals as goal

pub invariant_of-result : goal.invariant_of-result
invariant_of-result c = (
  begun_index c.new.result.entries (heap_items c.new-2.result) c.new.ensures.empty c.new-2.ensures.items
      c.new-2.ensures.heap_order,
  tt,
)

pub returns-clause-units : goal.returns-clause-units
unfolding unit_of
returns-clause-units c =
    let made : Entries → Index = λ es. record { entries = es; next = 1; placed = None } in
    ap (λ (es : Entries). units (made es)) c.new.ensures.empty

pub returns-clause-count : goal.returns-clause-count
returns-clause-count c = ap (λ (es : Entries). length es) c.new.ensures.empty

use Rattle.std.proofs.Common.{heap_items, refl, arith}
use Rattle.kdb_cells.proofs.Indexing.{extended_far, extended_free, from_ok}
use Rattle.kdb_cells.proofs.index.extend_free.Goals as goal

pub returns-then-next-from-clause-index : goal.returns-then-next-from-clause-index
returns-then-next-from-clause-index c = extended_far c.args.entries.now.entries (heap_items c.args.free.now) c.args.next
    c.args.placed.now (omega (arith, c.if-next-from.true, c.from.ensures)) c.requires.other c.requires.index

pub returns-clause-index : goal.returns-clause-index
returns-clause-index c =
    let ok = c.push.ensures.succeeds (omega (arith, c.requires.room)) in
    extended_free c.args.entries.now.entries (heap_items c.args.free.now) (heap_items c.push.new.self) c.args.next
    c.args.placed.now _ refl (omega (arith, c.if-next-from.false, c.from.ensures)) c.requires.other
    (from_ok c.push.result ok c.push.ensures.permutation) (from_ok c.push.result ok c.push.ensures.heap_order)
    c.requires.index

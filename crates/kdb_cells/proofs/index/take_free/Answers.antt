use Rattle.std.proofs.Common.{heap_items, length, ap, arith}
use Rattle.std.proofs.lemmas.List.{nil_from_length}
use Rattle.kdb_cells.proofs.Indexing.{taken_out, taken_parts, least_taken, least_next}
use Rattle.kdb_cells.proofs.index.take_free.Goals as goal

pub returns-in-Some-clause-index : goal.returns-in-Some-clause-index
returns-in-Some-clause-index c =
    taken_out c.args.entries.now.entries c.args.next c.in-Some.field-0 (heap_items c.args.free.now)
    (heap_items c.pop.new.self) c.in-Some.ensures.permutation c.in-Some.ensures.heap_order c.requires.index

pub returns-in-Some-clause-least : goal.returns-in-Some-clause-least
returns-in-Some-clause-least c = least_taken c.args.entries.now.entries c.args.next c.in-Some.field-0
    (heap_items c.args.free.now) (heap_items c.pop.new.self) c.len-count.ensures.unique c.in-Some.ensures.permutation
    c.in-Some.ensures.heap_order c.requires.index

pub returns-in-Some-clause-high : goal.returns-in-Some-clause-high
returns-in-Some-clause-high c =
    let x = taken_out c.args.entries.now.entries c.args.next c.in-Some.field-0 (heap_items c.args.free.now)
    (heap_items c.pop.new.self) c.in-Some.ensures.permutation c.in-Some.ensures.heap_order c.requires.index in
    omega (
      arith,
      (taken_parts c.args.entries.now.entries (heap_items c.pop.new.self) c.args.next c.in-Some.field-0.0 x).1.1.0,
    )

pub returns-in-None-clause-least : goal.returns-in-None-clause-least
returns-in-None-clause-least c =
    let none = nil_from_length (heap_items c.args.free.now) (omega (arith, c.in-None.ensures.none)) in
    least_next c.args.entries.now.entries c.args.next (heap_items c.args.free.now) c.len-count.ensures.unique none
    (omega (arith, ap length none, c.requires.index.all, c.requires.index.few)) c.requires.index

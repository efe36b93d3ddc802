use Rattle.std.proofs.Common.{heap_items, refl}
use Rattle.kdb_cells.proofs.Indexing.{given_back, from_ok}
use Rattle.kdb_cells.proofs.index.set_free.Goals as goal

pub returns : goal.returns
returns c =
    let ok = c.push.ensures.succeeds c.requires.room in
    λ entries next x. given_back entries next c.args.unit _ (heap_items c.args.free.now) (heap_items c.push.new.self)
    refl (from_ok c.push.result ok c.push.ensures.permutation) (from_ok c.push.result ok c.push.ensures.heap_order) x

use Rattle.std.proofs.Common.{◌≡◌, ◌++◌, ◌∷◌, []}
use Rattle.std.proofs.lemmas.Result.{err_from_is_err_and}
use Rattle.kdb_format.specs.Readings.{list_at}
use Rattle.kdb_format.specs.Items.{items_more, items_refused, items_done}
use Rattle.kdb_format.proofs.lists.read_items.Goals as goal

pub returns-in_err-item : goal.returns-in_err-item
returns-in_err-item g c =
    let p = err_from_is_err_and c.from_residual.result c.from_residual.ensures.1 in
    rw (p.1, p.2) (items_refused c.in_err-item.field-0.0 g.F.Format.reading c.loop.items.items c.args.count
    c.loop.counter c.loop.reader (list_at g.F.Format.reading c.args.count c.args.reader.now) c.loop-test.true
    c.in_err-item.ensures c.loop.invariant)

pub loop-preserved : goal.loop-preserved
loop-preserved g c =
    let x = c.in_ok-item.item in
    let e : c.push.new.self.items ≡ c.loop.items.items ++ x ∷ [] = c.in_ok-push.ensures.items in
    rw e (items_more g.F.Format.reading c.loop.items.items c.args.count c.loop.counter c.loop.reader x c.read.new.reader
    (list_at g.F.Format.reading c.args.count c.args.reader.now) c.loop-test.true c.in_ok-item.ensures c.loop.invariant)

pub returns : goal.returns
returns g c = items_done g.F.Format.reading c.loop.items.items c.args.count c.loop.counter c.loop.reader
    (list_at g.F.Format.reading c.args.count c.args.reader.now) c.loop-test.false c.loop.invariant

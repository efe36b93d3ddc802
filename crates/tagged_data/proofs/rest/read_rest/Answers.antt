use Rattle.std.proofs.Common.{◌≡◌, ◌-◌, [], ◌∷◌, ◌++◌, length}
use Rattle.std.proofs.lemmas.Bool.{both_ways}
use Rattle.std.proofs.lemmas.Result.{err_from_is_err_and}
use Rattle.tagged_data.specs.Contents.{items_of, items_within}
use Rattle.tagged_data.proofs.Rests.{more, refused, done, over, some_left}
use Rattle.tagged_data.proofs.rest.read_rest.Goals as goal

pub returns-then-is_empty : goal.returns-then-is_empty
unfolding items_of
returns-then-is_empty g c =
    done g.F.Format.reading c.loop.items.items (length c.args.bytes.now - c.loop.counter) c.loop.reader
    (items_within g.F.Format.reading (length c.args.bytes.now) c.args.bytes.now)
    (c.is_empty.ensures.0 c.if-is_empty.true) c.loop.invariant

pub returns-in_err-item : goal.returns-in_err-item
unfolding items_of
returns-in_err-item g c =
    let p = err_from_is_err_and c.from_residual.result c.from_residual.ensures.1 in
    let left =
    some_left c.loop.reader (λ e. both_ways c.is_empty.result c.if-is_empty.false (c.is_empty.ensures.1 e)) in
    rw (p.1, p.2) (refused c.in_err-item.field-0.0 g.F.Format.reading c.loop.items.items (length c.args.bytes.now)
    c.loop.counter c.loop.reader (items_within g.F.Format.reading (length c.args.bytes.now) c.args.bytes.now)
    c.loop-test.true left c.in_err-item.ensures c.loop.invariant)

pub loop-preserved : goal.loop-preserved
loop-preserved g c =
    let x = c.in_ok-item.item in
    let e : c.push.new.self.items ≡ c.loop.items.items ++ x ∷ [] = c.in_ok-push.ensures.items in
    let left =
    some_left c.loop.reader (λ e. both_ways c.is_empty.result c.if-is_empty.false (c.is_empty.ensures.1 e)) in
    rw e (more g.F.Format.reading c.loop.items.items (length c.args.bytes.now) c.loop.counter c.loop.reader x
    c.read.new.reader (items_within g.F.Format.reading (length c.args.bytes.now) c.args.bytes.now) c.loop-test.true left
    c.in_ok-item.ensures c.loop.invariant)

pub returns-then-not-is_empty : goal.returns-then-not-is_empty
unfolding items_of
returns-then-not-is_empty g c =
    let left =
    some_left c.loop.reader (λ e. both_ways c.is_empty-2.result c.if-not-is_empty.true (c.is_empty-2.ensures.1 e)) in
    over g.F.Format.reading c.loop.items.items (length c.args.bytes.now) c.loop.counter c.loop.reader
    (items_within g.F.Format.reading (length c.args.bytes.now) c.args.bytes.now) c.loop-test.false left c.loop.invariant

pub returns : goal.returns
unfolding items_of
returns g c =
    done g.F.Format.reading c.loop.items.items (length c.args.bytes.now - c.loop.counter) c.loop.reader
    (items_within g.F.Format.reading (length c.args.bytes.now) c.args.bytes.now)
    (c.is_empty-2.ensures.0 c.if-not-is_empty.false) c.loop.invariant

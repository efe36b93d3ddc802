use Rattle.std.proofs.Common.{◌∙◌}
use Rattle.princ_rows.proofs.Edits.{put_absent}
use Rattle.princ_rows.proofs.Undos.{inserted, removed_order, moved_back}
use Rattle.princ_rows.proofs.sorted.move_row.Goals as goal

pub gap_of-to-requires-clause-order : goal.gap_of-to-requires-clause-order
gap_of-to-requires-clause-order g c =
    removed_order g.T.Keyed.key_of c.args.items.now.items c.deref.result.now c.args.from c.remove-was.result
    (c.deref.ensures.value ∙ c.remove-was.ensures.items) c.requires.place c.requires.order

pub returns-clause-moved : goal.returns-clause-moved
returns-clause-moved g c =
    inserted c.insert.result c.unwrap.result c.insert.new.self.items c.remove-was.new.self.items c.args.items.now.items
    c.args.from c.gap_of-to.result c.args.item c.insert.ensures.items c.unwrap.ensures c.remove-was.ensures.items
    ∙ put_absent g.T.Keyed.key_of _ c.deref.result.now c.args.item c.key.result.now c.gap_of-to.result
    (c.deref.ensures.value ∙ c.remove-was.ensures.items) c.key.ensures c.gap_of-to.ensures

pub returns-clause-back : goal.returns-clause-back
returns-clause-back g c =
    moved_back g.T.Keyed.key_of c.args.items.now.items c.deref.result.now c.insert.new.self.items c.key.result.now
    c.args.from c.gap_of-to.result c.args.item c.remove-was.result
    (c.deref.ensures.value ∙ c.remove-was.ensures.items) c.requires.place c.gap_of-to.ensures c.remove-was.ensures.value
    (inserted c.insert.result c.unwrap.result c.insert.new.self.items c.remove-was.new.self.items c.args.items.now.items
    c.args.from c.gap_of-to.result c.args.item c.insert.ensures.items c.unwrap.ensures c.remove-was.ensures.items)

use Rattle.std.proofs.Common.{refl, ap, ◌∙◌}
use Rattle.princ_rows.specs.Effects.{put_by, drop_by}
use Rattle.princ_rows.proofs.Edits.{drop_found}
use Rattle.princ_rows.proofs.Undos.{stayed, put_as}
use Rattle.princ_rows.proofs.sorted.begin_rename.Goals as goal

pub returns-in-Some-clause-ok : goal.returns-in-Some-clause-ok
returns-in-Some-clause-ok g c =
    c.move_row.ensures.moved
    ∙ ap (put_by g.T.Keyed.key_of c.args.item) (drop_found g.T.Keyed.key_of c.args.items.now.items c.deref.result.now
    c.args.old.now c.in-Some.from c.deref.ensures.value c.requires.order c.in-Some.ensures.there)

pub returns-in-None-clause-ok : goal.returns-in-None-clause-ok
returns-in-None-clause-ok g c =
    put_as c.begin_put.result c.begin_put.new.items.items (put_by g.T.Keyed.key_of c.args.item c.args.items.now.items)
    (put_by g.T.Keyed.key_of c.args.item (drop_by g.T.Keyed.key_of c.args.old.now c.args.items.now.items))
    (stayed g.T.Keyed.key_of c.args.items.now.items c.deref.result.now c.args.item c.key.result.now c.args.old.now
    c.deref.ensures.value c.key.ensures (c.in-None.ensures.none refl))
    c.begin_put.ensures.ok

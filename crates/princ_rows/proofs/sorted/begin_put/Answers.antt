use Rattle.std.proofs.Common.{refl, ap, set, ◌∙◌}
use Rattle.princ_rows.proofs.Edits.{put_found, put_absent}
use Rattle.princ_rows.proofs.Undos.{replaced_back, added_back}
use Rattle.princ_rows.proofs.sorted.begin_put.Goals as goal

pub returns-in-Ok-clause-ok : goal.returns-in-Ok-clause-ok
returns-in-Ok-clause-ok g c =
    ap (set c.args.items.now.items c.in-Ok.at) c.replace.ensures.after
    ∙ put_found g.T.Keyed.key_of c.args.items.now.items c.deref.result.now c.args.item c.key.result.now c.in-Ok.at
    c.deref.ensures.value c.key.ensures c.requires (c.in-Ok.ensures.found c.in-Ok.at refl)

pub returns-in-Ok-clause-back : goal.returns-in-Ok-clause-back
returns-in-Ok-clause-back g c =
    replaced_back g.T.Keyed.key_of c.args.items.now.items c.deref.result.now
    c.key.result.now c.in-Ok.at c.replace.new.dest c.replace.result c.index_mut.result.now c.deref.ensures.value
    (c.in-Ok.ensures.found c.in-Ok.at refl) c.replace.ensures.value c.index_mut.ensures.value

pub returns-in_ok-insert-in-Err-clause-ok : goal.returns-in_ok-insert-in-Err-clause-ok
returns-in_ok-insert-in-Err-clause-ok g c =
    c.in_ok-insert-in-Err.ensures.items
    ∙ put_absent g.T.Keyed.key_of c.args.items.now.items c.deref.result.now c.args.item c.key.result.now c.in-Err.at
    c.deref.ensures.value c.key.ensures (c.in-Err.ensures.absent c.in-Err.at refl)

pub returns-in_ok-insert-in-Err-clause-back : goal.returns-in_ok-insert-in-Err-clause-back
returns-in_ok-insert-in-Err-clause-back g c =
    added_back g.T.Keyed.key_of c.args.items.now.items
    c.deref.result.now c.insert.new.self.items c.key.result.now c.in-Err.at c.args.item c.deref.ensures.value
    (c.in-Err.ensures.absent c.in-Err.at refl) c.in_ok-insert-in-Err.ensures.items

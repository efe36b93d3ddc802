use Rattle.std.proofs.Common.{refl, ◌∙◌}
use Rattle.princ_rows.proofs.Edits.{put_found, put_absent}
use Rattle.princ_rows.proofs.sorted.put_row.Goals as goal

pub returns-in-Ok-clause-ok : goal.returns-in-Ok-clause-ok
returns-in-Ok-clause-ok g c =
    put_found g.T.Keyed.key_of c.args.items.now.items c.deref.result.now c.args.item c.key.result.now c.in-Ok.at
    c.deref.ensures.value c.key.ensures c.requires (c.in-Ok.ensures.found c.in-Ok.at refl)

pub returns-in_ok-insert-in-Err-clause-ok : goal.returns-in_ok-insert-in-Err-clause-ok
returns-in_ok-insert-in-Err-clause-ok g c =
    c.in_ok-insert-in-Err.ensures.items
    ∙ put_absent g.T.Keyed.key_of c.args.items.now.items c.deref.result.now c.args.item c.key.result.now c.in-Err.at
    c.deref.ensures.value c.key.ensures (c.in-Err.ensures.absent c.in-Err.at refl)

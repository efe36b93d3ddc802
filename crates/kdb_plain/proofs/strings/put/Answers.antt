use Rattle.std.proofs.Common.{refl, ◌∙◌}
use Rattle.princ_rows.proofs.Edits.{put_found, put_absent}
use Rattle.kdb_plain.specs.Strings.{key_of}
use Rattle.kdb_plain.proofs.strings.put.Goals as goal

pub returns-in-Ok : goal.returns-in-Ok
returns-in-Ok c =
    put_found key_of c.args.items.now.items c.deref.result.now c.args.item c.as_slice.result.now c.in-Ok.at
    c.deref.ensures.value c.as_slice.ensures c.requires (c.in-Ok.ensures.found c.in-Ok.at refl)

pub returns-in_ok-insert-in-Err : goal.returns-in_ok-insert-in-Err
returns-in_ok-insert-in-Err c =
    c.in_ok-insert-in-Err.ensures.items
    ∙ put_absent key_of c.args.items.now.items c.deref.result.now c.args.item c.as_slice.result.now c.in-Err.at
    c.deref.ensures.value c.as_slice.ensures (c.in-Err.ensures.absent c.in-Err.at refl)

use Rattle.std.proofs.Common.{refl, ◌∙◌}
use Rattle.princ_rows.proofs.Edits.{drop_found, drop_absent}
use Rattle.kdb_plain.specs.Strings.{key_of}
use Rattle.kdb_plain.proofs.strings.take_away.Goals as goal

pub returns-in-Ok : goal.returns-in-Ok
returns-in-Ok c =
    c.remove.ensures.items
    ∙ drop_found key_of c.args.items.now.items c.deref.result.now c.args.key.now c.in-Ok.at c.deref.ensures.value
    c.requires (c.in-Ok.ensures.found c.in-Ok.at refl)

pub returns-in-Err : goal.returns-in-Err
returns-in-Err c =
    drop_absent key_of c.args.items.now.items c.deref.result.now c.args.key.now c.in-Err.field-0 c.deref.ensures.value
    (c.in-Err.ensures.absent c.in-Err.field-0 refl)

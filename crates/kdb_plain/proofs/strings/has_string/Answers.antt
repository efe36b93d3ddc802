use Rattle.std.proofs.Common.{refl}
use Rattle.kdb_plain.specs.Strings.{has_string, key_of}
use Rattle.kdb_plain.proofs.Finds.{any_at, any_gap}
use Rattle.kdb_plain.proofs.strings.has_string.Goals as goal

pub returns-in-Ok : goal.returns-in-Ok
unfolding has_string
returns-in-Ok c = any_at key_of c.args.key.now c.args.strings.now c.as_slice.result.now c.in-Ok.field-0
    c.as_slice.ensures.value (c.in-Ok.ensures.found c.in-Ok.field-0 refl)

pub returns-in-Err : goal.returns-in-Err
unfolding has_string
returns-in-Err c = any_gap key_of c.args.key.now c.args.strings.now c.as_slice.result.now c.in-Err.field-0
    c.as_slice.ensures.value (c.in-Err.ensures.absent c.in-Err.field-0 refl)

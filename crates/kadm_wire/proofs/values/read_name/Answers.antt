use Rattle.std.proofs.Common.{ap, Err, arith}
use Rattle.kadm_wire.proofs.WordLemmas.{fault_given, name_given, refused_within}
use Rattle.kadm_wire.proofs.values.read_name.Goals as goal

pub overflow_cast-result : goal.overflow_cast-result
overflow_cast-result c =
    let h = refused_within c.args.word.now c.args.realm.now c.in-Err-BadName.offset
    (c.in-Err-BadName.ensures.refused c.in-Err-BadName.offset (ap Err c.in-Err-BadName.field-0-is)) in
    let short = c.requires in
    omega arith

pub returns-in-Ok : goal.returns-in-Ok
returns-in-Ok c = name_given _ c.in-Ok.name c.in-Ok.ensures.value

pub returns-in-Err-BadName : goal.returns-in-Err-BadName
returns-in-Err-BadName c = fault_given _ c.in-Err-BadName.field-0 c.in-Err-BadName.offset c.in-Err-BadName.field-0-is
    c.in-Err-BadName.ensures.value

use Rattle.std.proofs.Common.{ap, arith, sym, Err}
use Rattle.keytab_words.proofs.Places.{place_within}
use Rattle.keytab_words.proofs.WholeNames.{fault_read, name_read, no_answer}
use Rattle.keytab_words.proofs.names.read_whole_name.Goals as goal

pub overflow_cast-result : goal.overflow_cast-result
overflow_cast-result c =
    let place = c.in-Err-BadName.ensures.place c.in-Err-BadName.offset (ap Err c.in-Err-BadName.field-0-is) in
    let within = place_within c.args.word.now in
    let short = c.requires in
    omega arith

pub returns-in-Ok : goal.returns-in-Ok
returns-in-Ok c = sym (name_read c.args.word.now c.in-Ok.name c.in-Ok.ensures.spelled c.in-Ok.ensures.limits)

pub returns-in-Err-BadName : goal.returns-in-Err-BadName
returns-in-Err-BadName c =
    sym (fault_read c.args.word.now c.in-Err-BadName.offset (λ name h is. no_answer name c.in-Err-BadName.field-0
    c.in-Err-BadName.offset c.in-Err-BadName.field-0-is (c.in-Err-BadName.ensures.only name h is))
    (c.in-Err-BadName.ensures.place c.in-Err-BadName.offset (ap Err c.in-Err-BadName.field-0-is)))

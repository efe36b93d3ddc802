use Rattle.std.proofs.Common.{ap, sym, Err}
use Rattle.keytab_words.proofs.WholeNames.{fault_read, name_read, no_answer}
use Rattle.kprop_runs.specs.Words.{named_by}
use Rattle.kprop_runs.proofs.words.read_name.Goals as goal

pub returns-in-Ok-clause-value : goal.returns-in-Ok-clause-value
returns-in-Ok-clause-value c =
    sym (ap named_by (name_read c.args.word.now c.in-Ok.name c.in-Ok.ensures.spelled c.in-Ok.ensures.limits))

pub returns-in-Err-BadName-clause-value : goal.returns-in-Err-BadName-clause-value
returns-in-Err-BadName-clause-value c =
    sym (ap named_by (fault_read c.args.word.now c.in-Err-BadName.field-0-0
    (λ name h is. no_answer name c.in-Err-BadName.field-0 c.in-Err-BadName.field-0-0 c.in-Err-BadName.field-0-is
    (c.in-Err-BadName.ensures.only name h is))
    (c.in-Err-BadName.ensures.place c.in-Err-BadName.field-0-0 (ap Err c.in-Err-BadName.field-0-is))))

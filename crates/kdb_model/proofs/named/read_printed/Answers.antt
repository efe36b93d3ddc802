use Rattle.std.proofs.Common.{subst}
use Rattle.princ_name.specs.Spelling.{Spells}
use Rattle.kdb_model.proofs.named.read_printed.Goals as goal

pub returns-in-Ok : goal.returns-in-Ok
returns-in-Ok c = λ who is at.
    c.word_spells_one_name.ensures c.args.text.now c.args.realm.now c.in-Ok.name who c.in-Ok.ensures.spelled
    (subst (λ t. Spells t c.args.realm.now who) at (c.printed_form_spells_the_name.ensures who c.args.realm.now is))

-- The word's one name.
use Rattle.std.proofs.Common.{sym, subst, ◌∙◌}
use Rattle.princ_name.specs.Answers.{AnswersName}
use Rattle.princ_name.specs.Names.{NameParts}
use Rattle.princ_name.specs.Spelling.{Spells}
use Rattle.princ_name.proofs.Parsed.{fault_answers, whole_spells, whole_is}
use Rattle.princ_name.proofs.names.parse_name.Goals as goal

pub returns-in-Err-clause-only : goal.returns-in-Err-clause-only
returns-in-Err-clause-only c =
    λ name h is. fault_answers c.args.text.now c.args.realm.now name c.in-Err.fault c.in-Err.ensures.only h is

pub returns-in-Ok-name_from-clause-spelled : goal.returns-in-Ok-name_from-clause-spelled
returns-in-Ok-name_from-clause-spelled c =
    subst (λ (n : NameParts). Spells c.args.text.now c.args.realm.now n) (sym c.in-Ok-name_from.ensures)
    (whole_spells c.args.text.now c.args.realm.now c.in-Ok.whole c.in-Ok.ensures.whole)

pub returns-in-Ok-name_from-clause-only : goal.returns-in-Ok-name_from-clause-only
unfolding AnswersName
returns-in-Ok-name_from-clause-only c = λ name h is. c.in-Ok-name_from.ensures
    ∙ whole_is c.args.text.now c.args.realm.now c.in-Ok.whole name c.in-Ok.ensures.whole h

pub returns-in-Err-name_from-clause-only : goal.returns-in-Err-name_from-clause-only
unfolding AnswersName
returns-in-Err-name_from-clause-only c = λ name h is. tt

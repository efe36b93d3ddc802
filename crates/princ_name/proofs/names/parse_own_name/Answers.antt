-- The word's one name, and its realm.
use Rattle.std.proofs.Common.{◌≡◌, Err, sym, subst, ap, inl, inr, refl, ◌∙◌}
use Rattle.princ_name.specs.Answers.{AnswersName, AnswersReading}
use Rattle.princ_name.specs.Names.{NameParts, IsName}
use Rattle.princ_name.specs.Spelling.{Spells}
use Rattle.princ_name.specs.declared.faults.NameFault.TheVariants.{BadName}
use Rattle.princ_name.proofs.OwnNames.{answers_fault, answers_name}
use Rattle.princ_name.proofs.Parsed.{fault_answers, spells_none, whole_spells, whole_is, other_realm, own_realm}
use Rattle.princ_name.proofs.names.parse_own_name.Goals as goal

pub returns-in-Err-clause-only : goal.returns-in-Err-clause-only
returns-in-Err-clause-only c =
    λ name h is own. fault_answers c.args.text.now c.args.realm.now name c.in-Err.fault c.in-Err.ensures.only h is

pub returns-in-Err-clause-refused : goal.returns-in-Err-clause-refused
returns-in-Err-clause-refused c = λ offset is.
    let fault : c.in-Err.fault ≡ BadName offset = cc in
    inl (
      spells_none c.args.text.now c.args.realm.now c.in-Err.fault offset fault c.in-Err.ensures.only,
      c.in-Err.ensures.place offset (ap Err fault),
    )

pub returns-in-Some-clause-only : goal.returns-in-Some-clause-only
returns-in-Some-clause-only c = λ name h is own.
    let same = whole_is c.args.text.now c.args.realm.now c.in-Ok.whole name c.in-Ok.ensures.whole h in
    absurd (c.in-Some.ensures.differs (ap (λ (n : NameParts). n.realm) same ∙ own))

pub returns-in-Some-clause-refused : goal.returns-in-Some-clause-refused
returns-in-Some-clause-refused c = λ offset is.
    let same : c.in-Some.offset ≡ offset = cc in
    inr (other_realm c.args.text.now c.args.realm.now c.in-Ok.whole c.in-Some.offset offset c.in-Ok.ensures.whole
    c.in-Some.ensures.other same c.in-Some.ensures.differs)

pub returns-in-Ok-name_from-clause-spelled : goal.returns-in-Ok-name_from-clause-spelled
returns-in-Ok-name_from-clause-spelled c =
    subst (λ (n : NameParts). Spells c.args.text.now c.args.realm.now n) (sym c.in-Ok-name_from.ensures)
    (whole_spells c.args.text.now c.args.realm.now c.in-Ok.whole c.in-Ok.ensures.whole)

pub returns-in-Ok-name_from-clause-own : goal.returns-in-Ok-name_from-clause-own
returns-in-Ok-name_from-clause-own c =
    ap (λ (n : NameParts). n.realm) c.in-Ok-name_from.ensures
    ∙ own_realm c.args.text.now c.args.realm.now c.in-Ok.whole c.in-Ok.ensures.whole (c.in-None.ensures.same refl)

pub returns-in-Ok-name_from-clause-only : goal.returns-in-Ok-name_from-clause-only
unfolding AnswersName
returns-in-Ok-name_from-clause-only c = λ name h is own. c.in-Ok-name_from.ensures
    ∙ whole_is c.args.text.now c.args.realm.now c.in-Ok.whole name c.in-Ok.ensures.whole h

pub returns-in-Err-name_from-clause-only : goal.returns-in-Err-name_from-clause-only
unfolding AnswersName
returns-in-Err-name_from-clause-only c = λ name h is own. tt

pub returns-in-Err-clause-value : goal.returns-in-Err-clause-value
returns-in-Err-clause-value c = answers_fault c.args.text.now c.args.realm.now c.in-Err.fault
    (λ offset is. returns-in-Err-clause-refused c offset (ap Err is))

pub returns-in-Some-clause-value : goal.returns-in-Some-clause-value
returns-in-Some-clause-value c = answers_fault c.args.text.now c.args.realm.now (BadName c.in-Some.offset)
    (λ offset is. returns-in-Some-clause-refused c offset (ap Err is))

pub returns-in-Ok-name_from-clause-value : goal.returns-in-Ok-name_from-clause-value
returns-in-Ok-name_from-clause-value c =
    answers_name c.args.text.now c.args.realm.now c.in-Ok-name_from.name (returns-in-Ok-name_from-clause-spelled c)
    (subst IsName (sym c.in-Ok-name_from.ensures) c.in-Ok.ensures.whole.name) (returns-in-Ok-name_from-clause-own c)

pub returns-in-Err-name_from-clause-value : goal.returns-in-Err-name_from-clause-value
unfolding AnswersReading
returns-in-Err-name_from-clause-value c = tt

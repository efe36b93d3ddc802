use Rattle.std.proofs.Common.{Err, ap, sym, ◌∙◌}
use Rattle.kadm_keytabs.proofs.Wholes.{read_so, refused_so}
use Rattle.kadm_keytabs.proofs.adding.answer_input.Goals as goal

pub returns-in-Ok : goal.returns-in-Ok
returns-in-Ok c = λ s has. read_so _ _ _ c.in-Ok.list c.in-Ok.ensures.ok (c.answer_list.ensures s has)

pub returns-in-Err-BadKeytab : goal.returns-in-Err-BadKeytab
returns-in-Err-BadKeytab c = λ s has.
    refused_so _ _ _ c.in-Err-BadKeytab.place _ (c.read_keytab_input.ensures.bad c.in-Err-BadKeytab.place
    (c.in-Err-BadKeytab.is ∙ ap Err c.in-Err-BadKeytab.field-0-is))
    (sym c.in-Err-BadKeytab.place-is) c.refusal_answer.ensures

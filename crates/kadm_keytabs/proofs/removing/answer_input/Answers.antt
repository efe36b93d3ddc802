use Rattle.std.proofs.Common.{Err, ap, sym, ◌∙◌}
use Rattle.kadm_keytabs.proofs.Wholes.{read_so, refused_so}
use Rattle.kadm_keytabs.proofs.removing.answer_input.Goals as goal

pub returns-in-Ok : goal.returns-in-Ok
returns-in-Ok c = read_so _ _ _ c.in-Ok.list c.in-Ok.ensures.ok c.answer_list.ensures

pub returns-in-Err-BadKeytab : goal.returns-in-Err-BadKeytab
returns-in-Err-BadKeytab c =
    refused_so _ _ _ c.in-Err-BadKeytab.place _ (c.read_keytab_input.ensures.bad c.in-Err-BadKeytab.place
    (c.in-Err-BadKeytab.is ∙ ap Err c.in-Err-BadKeytab.field-0-is))
    (sym c.in-Err-BadKeytab.place-is) c.refusal_answer.ensures

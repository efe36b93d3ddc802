use Rattle.std.proofs.Common.{sym, subst, ◌∙◌}
use Rattle.kdb_model.proofs.OwnParts.{master_is}
use Rattle.kdb_model.specs.Access.{master_parts}
use Rattle.primary_answers.proofs.denying.master_parts.Goals as goal
use Rattle.princ_name.specs.Spelling.{Spells}

pub returns-in-Ok : goal.returns-in-Ok
returns-in-Ok c =
    c.word_spells_one_name.ensures c.as_slice.result.now c.args.realm.now c.in-Ok.name
    (master_parts c.args.realm.now) c.in-Ok.ensures.spelled
    (subst (λ t. Spells t c.args.realm.now (master_parts c.args.realm.now))
    (sym (c.own_names_are_printed.ensures.master c.args.realm.now c.requires)
    ∙ (let a = c.as_slice.ensures in let b = c.in_ok-text.ensures in cc))
    (c.printed_form_spells_the_name.ensures (master_parts c.args.realm.now) c.args.realm.now
    (master_is c.args.realm.now c.requires)))

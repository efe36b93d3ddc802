use Rattle.std.proofs.Common.{◌∙◌, ap, subst}
use Rattle.store_files.specs.Kept.{Kept}
use Rattle.princ_rows.specs.Rows.{AreRows}
use Rattle.kadm_session.proofs.Moving.{told_few, told_printed}
use Rattle.kadm_session.proofs.rekeying.names_of.Goals as goal

pub returns-in-Ok-names-clause-printed : goal.returns-in-Ok-names-clause-printed
returns-in-Ok-names-clause-printed c =
    told_printed c.args.glob.now c.in-Ok-names.names c.args.primary.now.kept.rows c.in-Ok-names.ensures.names
    (subst AreRows (c.rows.ensures ∙ ap (λ (k : Kept). k.rows) c.database.ensures) c.princs.ensures.rows)

pub returns-in-Ok-names-clause-few : goal.returns-in-Ok-names-clause-few
returns-in-Ok-names-clause-few c =
    told_few c.args.glob.now c.in-Ok-names.names c.args.primary.now.kept.rows c.in-Ok-names.ensures.names
    (subst AreRows (c.rows.ensures ∙ ap (λ (k : Kept). k.rows) c.database.ensures) c.princs.ensures.rows)

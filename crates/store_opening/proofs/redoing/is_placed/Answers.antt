use Rattle.std.proofs.Common.{Option, ap, subst, sym, ◌∙◌}
use Rattle.kdb_cells.specs.Cells.{IsCell}
use Rattle.princ_rows.specs.declared.entries.Op.{Op}
use Rattle.store_files.specs.Found.{left_by, is_placed}
use Rattle.store_opening.proofs.redoing.is_placed.Goals as goal

pub returns-in-Some : goal.returns-in-Some
returns-in-Some c = λ format all are fits.
    c.may_stand.ensures format all are (subst (λ (o : Option Op). IsCell format (left_by o)) c.in-Some.is fits)
    ∙ ap (λ (o : Option Op). is_placed c.args.unit (left_by o) all) (sym c.in-Some.is)

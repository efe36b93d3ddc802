use Rattle.std.proofs.Common.{◌≡◌, ℕ, List, sym, subst}
use Rattle.command_plans.specs.Targets.{IsPut}
use Rattle.command_plans.proofs.RenamePlans.{rename_fits, renames}
use Rattle.princ_rows.specs.declared.entries.Op.TheVariants as op
use Rattle.princ_name.specs.Names.{printed}
use Rattle.princ_record.specs.Princs.{IsPrinc}
use Rattle.princ_record.specs.declared.princs.Princ.{Princ}
use Rattle.command_plans.proofs.renaming.rename.Goals as goal

pub put_renamed-requires : goal.put_renamed-requires
put_renamed-requires c =
    subst IsPrinc (sym c.in_ok-made.ensures.princ) (rename_fits c.args.given.now c.args.c.now c.args.princ.now
    c.requires.renamed c.in_ok-made.ensures.by c.requires.realm c.requires.command)

pub returns : goal.returns
returns c =
    renames c.args.given.now c.args.c.now c.args.princ.now c.requires.renamed c.in_ok-made.ensures.by c.requires.realm
    c.requires.command c.put_renamed.result
    (subst (λ (p : Princ). IsPut (op.Rename (printed c.args.c.now.name)) p c.put_renamed.result)
    c.in_ok-made.ensures.princ
    (subst (λ (old : List ℕ). IsPut (op.Rename old) c.in_ok-made.made c.put_renamed.result) c.requires.old
    c.put_renamed.ensures))

use Rattle.std.proofs.Common.{sym, subst}
use Rattle.command_plans.specs.Targets.{IsPut}
use Rattle.command_plans.proofs.PurgePlans.{purge_so, purges}
use Rattle.princ_rows.specs.declared.entries.Op.TheVariants as op
use Rattle.princ_record.specs.Princs.{IsPrinc}
use Rattle.princ_record.specs.declared.princs.Princ.{Princ}
use Rattle.command_plans.proofs.purging.purge.Goals as goal

pub put-requires : goal.put-requires
put-requires c =
    subst IsPrinc (sym c.in_ok-made.ensures.princ) (purge_so c.args.given.now c.args.c.now c.args.princ.now
    c.requires.target c.in_ok-made.ensures.by c.requires.realm c.requires.command)

pub returns : goal.returns
returns c =
    purges c.args.given.now c.args.c.now c.args.princ.now c.requires.target c.put.result c.in_ok-made.ensures.by
    c.requires.realm c.requires.command
    (subst (λ (p : Princ). IsPut op.PutPrinc p c.put.result) c.in_ok-made.ensures.princ c.put.ensures)

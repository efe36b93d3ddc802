use Rattle.std.proofs.Common.{ap, subst, ◌∙◌}
use Rattle.cell_files.specs.NewFiles.{NewCells}
use Rattle.store_opening.specs.Parts.{IsToBeMade}
use Rattle.store_opening.proofs.Making.{same_kept, is_on_disk}
use Rattle.store_opening.proofs.creating.make_plan.Goals as goal

pub make_files-requires : goal.make_files-requires
make_files-requires g c =
    let m = c.requires.plan.0 in
    record {
      made = (
        m,
        subst (IsToBeMade m c.args.plan.control c.args.plan.image c.args.plan.log) c.requires.plan.1.1
            c.requires.plan.1.0.made,
      );
    }

pub returns-in-Ok-clause-kept : goal.returns-in-Ok-clause-kept
returns-in-Ok-clause-kept g c = λ m plan.
    same_kept m c.args.plan.control c.into_log.result c.into_cells.result c.args.plan.image.cells
    c.args.plan.rows c.args.plan.realm c.args.plan.stash plan.made.chosen (c.into_log.ensures ∙ plan.made.log_is)
    (c.into_cells.ensures ∙ ap (λ (n : NewCells). n.cells) c.make_files.ensures.stays)
    plan.rows_are plan.realm_is plan.stash_is

pub returns-in-Ok-clause-on : goal.returns-in-Ok-clause-on
returns-in-Ok-clause-on g c = λ tells m plan same.
    let to = subst (IsToBeMade m c.args.plan.control c.args.plan.image c.args.plan.log) same plan.made in
    is_on_disk m c.args.plan.image (g.D.Disk.view c.make_files.new.disk) to plan.in_order
    (g.met.D.Disk.reads_as_image c.make_files.new.disk tells) (c.in-Ok.ensures.image tells) (c.in-Ok.ensures.log tells)
    (c.in-Ok.ensures.durable tells) (c.in-Ok.ensures.holds tells m to)

pub returns-in-Ok-clause-moments : goal.returns-in-Ok-clause-moments
returns-in-Ok-clause-moments g c = λ tells m plan same.
    c.make_files.ensures.moments tells m
    (subst (IsToBeMade m c.args.plan.control c.args.plan.image c.args.plan.log) same plan.made)

pub returns-in-Err-clause-moments : goal.returns-in-Err-clause-moments
returns-in-Err-clause-moments g c = λ tells m plan same.
    c.make_files.ensures.moments tells m
    (subst (IsToBeMade m c.args.plan.control c.args.plan.image c.args.plan.log) same plan.made)

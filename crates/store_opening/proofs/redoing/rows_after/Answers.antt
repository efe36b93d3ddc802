use Rattle.std.proofs.Common.{◌++◌, List, sym, subst}
use Rattle.policy_rules.specs.Rules.{Rules}
use Rattle.princ_record.specs.declared.princs.Princ.{Princ as Principal}
use Rattle.kdb_cells.specs.Scanning.{princ_in, AreApart}
use Rattle.store_files.specs.Found.{left_by, with_unit}
use Rattle.store_opening.proofs.Joining.{joined, joined_princs, joined_policies}
use Rattle.store_opening.proofs.redoing.rows_after.Goals as goal

pub rows_from-requires : goal.rows_from-requires
rows_from-requires c =
    let left = left_by c.args.op.now in
    subst (λ (ps : List Principal). AreApart ps c.add_left.new.policies.items) (sym c.in_ok-add_left.ensures.princs)
    (subst (λ (qs : List Rules). AreApart (c.args.princs.items ++ princ_in left) qs)
    (sym c.in_ok-add_left.ensures.policies)
    (joined left c.args.princs.items c.args.policies.items c.requires.apart c.requires.joins))

pub returns : goal.returns
returns c = λ unit all may ps qs.
    let left = left_by c.args.op.now in
    c.rows_from.ensures (with_unit unit left all)
    (joined_princs unit left all c.args.princs.items c.add_left.new.princs.items may ps c.in_ok-add_left.ensures.princs)
    (joined_policies unit left all c.args.policies.items c.add_left.new.policies.items may qs
    c.in_ok-add_left.ensures.policies)

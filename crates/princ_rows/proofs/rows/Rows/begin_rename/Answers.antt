use Rattle.princ_rows.proofs.Begins.{rename_stands, rename_finished, princ_undone, princ_begun, free_inside}
use Rattle.princ_rows.proofs.rows.Rows.begin_rename.Goals as goal

pub begin_rename_boxed-requires-clause-free : goal.begin_rename_boxed-requires-clause-free
begin_rename_boxed-requires-clause-free c =
    free_inside c.self.inside.princs.items c.self.inside.princs.items c.self.inside.policies.items c.args.self.now
    c.self.view_is c.self.invariant c.args.princ c.args.old.now c.requires.name

pub invariant_of-self-2 : goal.invariant_of-self-2
invariant_of-self-2 c = rename_stands c.self.inside.princs.items c.begin_rename_boxed.new.items.items
    c.self.inside.policies.items c.args.self.now c.self.view_is c.self.invariant c.args.princ c.args.old.now
    c.in_ok-back.ensures.ok c.requires.row c.requires.room

pub returns-clause-ok : goal.returns-clause-ok
returns-clause-ok c = rename_finished c.self.inside.princs.items c.begin_rename_boxed.new.items.items
    c.self.inside.policies.items c.args.self.now c.self.view_is c.self.invariant c.in_ok-back.back c.args.princ
    c.args.old.now c.in_ok-back.ensures.ok

pub returns-clause-back : goal.returns-clause-back
returns-clause-back c =
    princ_undone c.self.inside.princs.items c.begin_rename_boxed.new.items.items c.self.inside.policies.items
    c.args.self.now c.self.view_is c.self.invariant c.in_ok-back.back c.in_ok-back.ensures.back

pub returns-clause-fits : goal.returns-clause-fits
returns-clause-fits c = princ_begun c.self.inside.princs.items c.begin_rename_boxed.new.items.items
    c.self.inside.policies.items c.args.self.now c.self.view_is c.self.invariant c.in_ok-back.back
    c.in_ok-back.ensures.back c.in_ok-back.ensures.place

use Rattle.princ_rows.proofs.Changes.{princ_put, princ_put_view, princ_kept}
use Rattle.princ_rows.proofs.rows.Rows.put_princ.Goals as goal

pub invariant_of-self : goal.invariant_of-self
invariant_of-self c =
    princ_put c.self.inside.princs.items c.put_boxed.new.items.items c.self.inside.policies.items c.args.self.now
    c.self.view_is c.self.invariant c.put_boxed.result c.args.princ c.put_boxed.ensures.ok c.put_boxed.ensures.err
    c.requires.row c.requires.room

pub returns-clause-ok : goal.returns-clause-ok
returns-clause-ok c = princ_put_view c.self.inside.princs.items c.put_boxed.new.items.items c.self.inside.policies.items
    c.args.self.now c.self.view_is c.self.invariant c.put_boxed.result c.args.princ c.put_boxed.ensures.ok

pub returns-clause-err : goal.returns-clause-err
returns-clause-err c = princ_kept c.self.inside.princs.items c.put_boxed.new.items.items c.self.inside.policies.items
    c.args.self.now c.self.view_is c.self.invariant c.put_boxed.result c.put_boxed.ensures.err

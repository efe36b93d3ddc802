use Rattle.princ_rows.proofs.Changes.{princ_dropped, princ_dropped_view}
use Rattle.princ_rows.proofs.rows.Rows.drop_princ.Goals as goal

pub invariant_of-self : goal.invariant_of-self
invariant_of-self c = princ_dropped c.self.inside.princs.items c.drop_row.new.items.items c.self.inside.policies.items
    c.args.self.now c.self.view_is c.self.invariant c.args.name.now c.drop_row.ensures

pub returns : goal.returns
returns c = princ_dropped_view c.self.inside.princs.items c.drop_row.new.items.items c.self.inside.policies.items
    c.args.self.now c.self.view_is c.self.invariant c.args.name.now c.drop_row.ensures

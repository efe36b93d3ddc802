use Rattle.princ_rows.proofs.Changes.{policy_dropped, policy_dropped_view}
use Rattle.princ_rows.proofs.rows.Rows.drop_policy.Goals as goal

pub invariant_of-self : goal.invariant_of-self
invariant_of-self c = policy_dropped c.self.inside.princs.items c.self.inside.policies.items c.drop_row.new.items.items
    c.args.self.now c.self.view_is c.self.invariant c.args.name.now c.drop_row.ensures

pub returns : goal.returns
returns c = policy_dropped_view c.self.inside.princs.items c.self.inside.policies.items c.drop_row.new.items.items
    c.args.self.now c.self.view_is c.self.invariant c.args.name.now c.drop_row.ensures

use Rattle.dump_text.proofs.Orders.{fewer_rows}
use Rattle.dump_text.proofs.progress.Progress.back_to.Goals as goal

pub invariant_of-self : goal.invariant_of-self
invariant_of-self c =
    fewer_rows (record { princs = c.self.inside.princs.items; policies = c.self.inside.policies.items })
    c.args.mark.now.princs c.args.mark.now.policies _ _
    c.self.invariant c.truncate.ensures.items c.truncate-2.ensures.items

use Rattle.std.proofs.Common.{ap, subst, ◌∙◌}
use Rattle.update_log.specs.Logs.{Journal, ComesNext}
use Rattle.update_log.proofs.log.Log.holds_prepared.Goals as goal

pub returns : goal.returns
returns c next is = subst (λ (j : Journal). ComesNext j.held next) c.self.view_is
    (c.self.invariant.1.comes next (ap (λ (j : Journal). j.prepared) c.self.view_is ∙ is))

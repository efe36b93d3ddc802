use Rattle.std.proofs.Common.{option_map, subst}
use Rattle.std.specs.List.{All}
use Rattle.acl_text.proofs.RulesFit.{decision_fits}
use Rattle.acl_text.specs.Limits.{HasLimits}
use Rattle.acl_text.specs.declared.rules.AclLine.{AclLine}
use Rattle.std.proofs.Common.{List}
use Rattle.acl_text.proofs.acl.Acl.decide.Goals as goal

pub returns-in-Some-clause-fit : goal.returns-in-Some-clause-fit
returns-in-Some-clause-fit c =
    decision_fits c.args.self.now c.args.client.now c.args.letter (option_map (λ t. t.now) c.args.target)
    (subst (λ (lines : List AclLine). All HasLimits lines) c.self.view_is c.self.invariant)

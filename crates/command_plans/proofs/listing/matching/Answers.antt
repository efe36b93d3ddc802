use Rattle.std.proofs.Common.{rules}
use Rattle.std.proofs.lemmas.Fn.{filter_same}
use Rattle.kadm_values.specs.Globs.{matches}
use Rattle.command_plans.proofs.listing.matching.Goals as goal

pub returns : goal.returns
returns c = filter_same _ (matches c.args.glob.now) _ (λ x b f' called. search rules) _ _ c.retain.ensures.filtered

use Rattle.std.proofs.Common.{rules}
use Rattle.std.proofs.lemmas.Fn.{filter_same}
use Rattle.primary_answers.specs.Listing.{is_told, names_told}
use Rattle.primary_answers.proofs.listing.names_told.Goals as goal

pub returns : goal.returns
unfolding names_told
returns c = filter_same _ (is_told c.args.glob.now) _ (λ x b f' called. search rules) _ _ c.retain.ensures.filtered

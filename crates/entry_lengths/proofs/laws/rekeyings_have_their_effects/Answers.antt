use Rattle.entry_lengths.proofs.Effects.{rekeyed_takes_effect}
use Rattle.entry_lengths.proofs.laws.rekeyings_have_their_effects.Goals as goal

pub returns : goal.returns
returns c = rekeyed_takes_effect

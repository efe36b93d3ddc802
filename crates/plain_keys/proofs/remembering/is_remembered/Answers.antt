use Rattle.std.proofs.Common.{◌∙◌}
use Rattle.kdb_base.specs.Key.{is_same_key}
use Rattle.plain_keys.proofs.Used.{any_flat}
use Rattle.plain_keys.proofs.remembering.is_remembered.Goals as goal

pub returns : goal.returns
returns c = c.any_set.ensures ∙ any_flat (λ other. is_same_key other c.args.key.now) (λ set. set.keys) c.args.sets.now

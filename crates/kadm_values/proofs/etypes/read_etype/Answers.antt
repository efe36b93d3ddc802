use Rattle.std.proofs.Common.{◌∙◌}
use Rattle.kadm_values.proofs.EtypeLemmas.{if_named, spelled_named}
use Rattle.kadm_values.proofs.etypes.read_etype.Goals as goal

pub returns-clause-spelled : goal.returns-clause-spelled
returns-clause-spelled c = if_named c.args.word.now c.etype_named.result c.etype_named.ensures

pub returns-clause-only : goal.returns-clause-only
returns-clause-only c = λ etype h. c.etype_named.ensures ∙ spelled_named c.args.word.now etype h

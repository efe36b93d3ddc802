use Rattle.std.proofs.Common.{◌∙◌}
use Rattle.kadm_values.proofs.EtypeLemmas.{if_listed, spelled_list}
use Rattle.kadm_values.proofs.etypes.read_etypes.Goals as goal

pub returns-clause-spelled : goal.returns-clause-spelled
returns-clause-spelled c = if_listed (λ v. v.items) c.args.text.now c.in_ok-etypes.etypes c.in_ok-etypes.ensures

pub returns-clause-only : goal.returns-clause-only
returns-clause-only c = λ etypes h. c.in_ok-etypes.ensures ∙ spelled_list c.args.text.now etypes h

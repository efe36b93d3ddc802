use Rattle.std.proofs.Common.{ap, option_map}
use Rattle.kadm_values.specs.EtypeWords.{EtypeRow, etype_named}
use Rattle.kadm_values.proofs.etypes.etype_named.Goals as goal

pub returns-in-Some : goal.returns-in-Some
unfolding etype_named
returns-in-Some c = ap (option_map (λ (row : EtypeRow). row.etype)) c.in-Some.ensures

pub returns-in-None : goal.returns-in-None
unfolding etype_named
returns-in-None c = ap (option_map (λ (row : EtypeRow). row.etype)) c.in-None.ensures

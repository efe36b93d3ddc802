use Rattle.std.proofs.Common.{ap}
use Rattle.kdb_worlds.specs.Worlds.{World}
use Rattle.world_laws.proofs.Causing.{primary_goes}
use Rattle.world_laws.proofs.laws.logs_are_begun_anew_for_their_causes.Goals as goal

pub returns-clause-primary : goal.returns-clause-primary
returns-clause-primary c = primary_goes

pub returns-clause-replica : goal.returns-clause-replica
returns-clause-replica c = λ i event said w new e. ap (λ (x : World). x.site) e.is

use Rattle.world_laws.proofs.Losing.{primary_lost, replica_lost}
use Rattle.world_laws.proofs.laws.dumps_are_for_lost_points.Goals as goal

pub returns-clause-primary : goal.returns-clause-primary
returns-clause-primary c = λ events w new client access asked r run e wants.
    primary_lost w new client access asked r (c.world_law.ensures.lawful events w run) e wants

pub returns-clause-replica : goal.returns-clause-replica
returns-clause-replica c = replica_lost

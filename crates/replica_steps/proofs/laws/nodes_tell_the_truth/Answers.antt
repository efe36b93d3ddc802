use Rattle.replica_steps.proofs.ReplicaRuns.{told_true}
use Rattle.replica_steps.proofs.laws.nodes_tell_the_truth.Goals as goal

pub returns : goal.returns
returns c = told_true

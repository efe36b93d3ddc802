use Rattle.serving_versions.proofs.LatestKept.{still_active}
use Rattle.serving_versions.proofs.MasterSets.{serving_listed}
use Rattle.serving_versions.proofs.master_laws.purges_leave_what_serves.Goals as goal

pub returns-clause-listed : goal.returns-clause-listed
returns-clause-listed c = serving_listed

pub returns-clause-active : goal.returns-clause-active
returns-clause-active c = still_active

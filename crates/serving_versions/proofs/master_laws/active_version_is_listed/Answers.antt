use Rattle.serving_versions.proofs.LatestKept.{active_listed}
use Rattle.serving_versions.proofs.master_laws.active_version_is_listed.Goals as goal

pub returns : goal.returns
returns c = active_listed

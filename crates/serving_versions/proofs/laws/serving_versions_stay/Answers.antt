use Rattle.serving_versions.proofs.Causes.{serves_where}
use Rattle.serving_versions.proofs.Purged.{dead_rise, newest_serves, purged_serving}
use Rattle.serving_versions.proofs.laws.serving_versions_stay.Goals as goal

pub returns-clause-causes : goal.returns-clause-causes
returns-clause-causes c = serves_where

pub returns-clause-newest : goal.returns-clause-newest
returns-clause-newest c = newest_serves

pub returns-clause-rising : goal.returns-clause-rising
returns-clause-rising c = dead_rise

pub returns-clause-purged : goal.returns-clause-purged
returns-clause-purged c = λ s secs. purged_serving s secs

use Rattle.kdb_histories.specs.Sites.{story_of}
use Rattle.world_laws.proofs.Opening.{opened, place_opened, replica_opened}
use Rattle.world_laws.proofs.laws.each_listed_master_key_opens_all.Goals as goal

pub returns-clause-primary : goal.returns-clause-primary
returns-clause-primary c =
    λ events w a run there. place_opened (story_of w.site) a (c.world_law.ensures.lawful events w run).folded there

pub returns-clause-replicas : goal.returns-clause-replicas
returns-clause-replicas c =
    λ events w i p run is. replica_opened w p ((c.world_law.ensures.lawful events w run).replicas i p is)

pub returns-clause-shown : goal.returns-clause-shown
returns-clause-shown c = opened

use Rattle.kadm_session.specs.Steps.{local_client}
use Rattle.kadm_session.proofs.Naming.{answered, local_named, local_spelled}
use Rattle.kadm_session.proofs.clients.local_client.Goals as goal

pub returns-in-Ok : goal.returns-in-Ok
returns-in-Ok c =
    let realm = c.args.realm.now in
    answered c.parse_name.result c.in-Ok.name (local_client realm) c.in-Ok.is
    (c.parse_name.ensures.only (local_client realm) (local_spelled realm) (local_named realm c.requires))

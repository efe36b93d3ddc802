use Rattle.serving_versions.proofs.MasterSets.{add_valid, use_valid, purge_valid}
use Rattle.serving_versions.proofs.master_laws.master_changes_keep_states_valid.Goals as goal

pub returns-clause-add : goal.returns-clause-add
returns-clause-add c = λ time s entry m f there lt. add_valid time s entry f there m lt

pub returns-clause-activate : goal.returns-clause-activate
returns-clause-activate c =
    λ time s entry version secs f there is begun. use_valid time s entry f there version secs is begun

pub returns-clause-purge : goal.returns-clause-purge
returns-clause-purge c = purge_valid

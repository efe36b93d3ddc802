use Rattle.kdb_plain.proofs.Spared.{master_spared, history_spared, masters_spared, activations_spared}
use Rattle.kdb_plain.proofs.laws.spared_keys_stay.Goals as goal

pub returns-clause-master : goal.returns-clause-master
returns-clause-master c = master_spared

pub returns-clause-history : goal.returns-clause-history
returns-clause-history c = history_spared

pub returns-clause-masters : goal.returns-clause-masters
returns-clause-masters c = masters_spared

pub returns-clause-activations : goal.returns-clause-activations
returns-clause-activations c = activations_spared

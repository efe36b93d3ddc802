use Rattle.princ_record.specs.Princs.{facts_of}
use Rattle.princ_name.specs.Printed.{is_master}
use Rattle.princ_record.proofs.TagLists.{has_activations, has_aux}
use Rattle.princ_record.proofs.laws.the_master_alone_has_a_chain.Goals as goal

pub returns-clause-activations : goal.returns-clause-activations
returns-clause-activations c = λ p f. has_activations (is_master p.name) (facts_of p) f.facts

pub returns-clause-aux_keys : goal.returns-clause-aux_keys
returns-clause-aux_keys c = λ p f. has_aux (is_master p.name) (facts_of p) f.facts

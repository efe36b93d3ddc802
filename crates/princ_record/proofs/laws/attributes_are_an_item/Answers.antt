use Rattle.princ_record.specs.Princs.{facts_of}
use Rattle.princ_record.proofs.TagLists.{has_strings}
use Rattle.princ_record.proofs.laws.attributes_are_an_item.Goals as goal

pub returns-clause-item : goal.returns-clause-item
returns-clause-item c = λ p. has_strings (facts_of p)

pub returns-clause-master : goal.returns-clause-master
returns-clause-master c = λ p f is. f.facts.no_strings is

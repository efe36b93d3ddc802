use Rattle.princ_record.specs.Princs.{facts_of}
use Rattle.princ_name.specs.Printed.{is_master}
use Rattle.princ_record.proofs.TagLists.{facts_are_tagged, tags_are_items}
use Rattle.princ_record.proofs.laws.principals_have_tagged_lists.Goals as goal

pub returns-clause-text : goal.returns-clause-text
returns-clause-text c = λ p. facts_are_tagged (facts_of p)

pub returns-clause-items : goal.returns-clause-items
returns-clause-items c = λ p f. tags_are_items (is_master p.name) (facts_of p) f.facts

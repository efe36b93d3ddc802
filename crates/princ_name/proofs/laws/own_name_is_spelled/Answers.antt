-- By the reading of the word.
use Rattle.princ_name.proofs.OwnNames.{name_of_reading, reading_of_name, refusal_of_reading, reading_of_refusal}
use Rattle.princ_name.proofs.laws.own_name_is_spelled.Goals as goal

pub returns-clause-name : goal.returns-clause-name
returns-clause-name c =
    λ word given name. (name_of_reading word given name, λ h. reading_of_name word given name h.0 h.1 h.2)

pub returns-clause-refusal : goal.returns-clause-refusal
returns-clause-refusal c =
    λ word given place. (refusal_of_reading word given place, reading_of_refusal word given place)

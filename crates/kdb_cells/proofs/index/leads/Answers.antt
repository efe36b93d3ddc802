use Rattle.std.proofs.Common.{◌∙◌, sym}
use Rattle.kdb_cells.specs.Indexes.{unit_of}
use Rattle.kdb_cells.proofs.index.leads.Goals as goal

pub returns-in-Some-clause-led : goal.returns-in-Some-clause-led
unfolding unit_of
returns-in-Some-clause-led c = λ so none. let both = c.in-Some.ensures.value ∙ none in absurd cc

pub returns-in-None-clause-not_led : goal.returns-in-None-clause-not_led
unfolding unit_of
returns-in-None-clause-not_led c = λ so. sym c.in-None.ensures.value

use Rattle.primary_loading.proofs.Lines.{last_at, princ_at, realm_at, text_is}
use Rattle.primary_loading.proofs.laws.lines_have_their_numbers.Goals as goal

pub returns-clause-text : goal.returns-clause-text
returns-clause-text c = text_is

pub returns-clause-realm : goal.returns-clause-realm
returns-clause-realm c = realm_at

pub returns-clause-princ : goal.returns-clause-princ
returns-clause-princ c = princ_at

pub returns-clause-last : goal.returns-clause-last
returns-clause-last c = last_at

use Rattle.row_keys.proofs.Names.{counted_alike, protected_alike, users_alike}
use Rattle.row_keys.proofs.laws.rows_count_alike.Goals as goal

pub returns-clause-princs : goal.returns-clause-princs
returns-clause-princs c masters history princs plain h = counted_alike masters history princs plain h

pub returns-clause-users : goal.returns-clause-users
returns-clause-users c masters history princs plain name h = users_alike masters history princs plain h name

pub returns-clause-protected : goal.returns-clause-protected
returns-clause-protected c masters history princs plain realm version h =
    protected_alike masters history princs plain h realm version

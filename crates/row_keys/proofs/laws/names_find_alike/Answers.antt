use Rattle.kdb_plain.specs.States.{princ_named}
use Rattle.row_keys.specs.Lookups.{record_named}
use Rattle.row_keys.specs.Shows.{ShowsPrinc}
use Rattle.row_keys.proofs.Names.{found_alike}
use Rattle.row_keys.proofs.Sides.{both_beside, both_none}
use Rattle.row_keys.proofs.laws.names_find_alike.Goals as goal

pub returns-clause-both : goal.returns-clause-both
returns-clause-both c masters history princs plain name h = found_alike masters history princs plain h name

pub returns-clause-found : goal.returns-clause-found
returns-clause-found c masters history princs plain name p h e =
    both_beside (ShowsPrinc masters history) (record_named name princs) (princ_named name plain) p
    (found_alike masters history princs plain h name) e

pub returns-clause-none : goal.returns-clause-none
returns-clause-none c masters history princs plain name h e =
    both_none (ShowsPrinc masters history) (record_named name princs) (princ_named name plain)
    (found_alike masters history princs plain h name) e

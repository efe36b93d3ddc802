use Rattle.kdb_places.specs.Places.{no_point, base_marker}
use Rattle.kdb_places.proofs.Points.{committed_point, first_point}
use Rattle.kdb_places.proofs.laws.places_have_points.Goals as goal

pub returns-clause-committed : goal.returns-clause-committed
returns-clause-committed c = committed_point

pub returns-clause-anew : goal.returns-clause-anew
returns-clause-anew c = λ base size block p. first_point no_point (base_marker base)

pub returns-clause-replaced : goal.returns-clause-replaced
returns-clause-replaced c = λ realm rows base p. first_point no_point (base_marker base)

pub returns-clause-created : goal.returns-clause-created
returns-clause-created c = λ realm rows base size block stash format. first_point no_point (base_marker base)

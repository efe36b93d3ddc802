use Rattle.kdb_histories.proofs.Growing.{StaysValid}
use Rattle.kdb_histories.proofs.Naming.{names_one, one_seen}
use Rattle.kdb_histories.proofs.SiteRuns.{primary_holds}
use Rattle.kdb_histories.proofs.laws.primary_law.Goals as goal
use Rattle.kdb_histories.specs.Histories.{all_seen}
use Rattle.kdb_histories.specs.Sites.{story_of}

pub returns-clause-holds : goal.returns-clause-holds
returns-clause-holds c =
    primary_holds (record { later = c.valid_later.ensures.later; point = c.valid_later.ensures.point })

pub returns-clause-states : goal.returns-clause-states
returns-clause-states c = λ events s sent run.
    let valid : StaysValid = record { later = c.valid_later.ensures.later; point = c.valid_later.ensures.point } in
    one_seen (all_seen (story_of s)) (primary_holds valid events s sent run).story.rising

pub returns-clause-one : goal.returns-clause-one
returns-clause-one c = λ events s sent run.
    let valid : StaysValid = record { later = c.valid_later.ensures.later; point = c.valid_later.ensures.point } in
    names_one (story_of s) (primary_holds valid events s sent run).story.rising

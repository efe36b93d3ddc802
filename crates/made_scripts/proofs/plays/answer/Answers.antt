use Rattle.std.proofs.Common.{[], ◌∷◌, false}
use Rattle.kdb_histories.specs.Seen.{seen}
use Rattle.kadm_session.specs.Courses.{end_with}
use Rattle.kadm_session.specs.Steps.{said}
use Rattle.kadm_session.specs.Opened.{place_of}
use Rattle.made_scripts.proofs.Playing.{answered_so, ends_told}
use Rattle.made_scripts.proofs.plays.answer.Goals as goal

pub returns-in-Ok-clause-answered : goal.returns-in-Ok-clause-answered
returns-in-Ok-clause-answered g c = λ s draws has told.
    let taken = g.K.Sink.taken c.args.sink.now in
    let at = seen (place_of c.args.primary.now) s in
    answered_so taken _ c.args.asked.now draws at c.in-Ok.refused _ _
    (c.in-Ok.ensures.ended s (end_with taken false (said (c.args.asked.now ∷ []) draws at)) has
    (ends_told taken c.args.asked.now _ draws at told))

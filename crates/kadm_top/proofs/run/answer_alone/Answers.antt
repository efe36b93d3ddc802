use Rattle.std.proofs.Common.{◌∷◌, [], false}
use Rattle.std.specs.Prelude.{Some}
use Rattle.std.proofs.lemmas.Result.{on_ok_weaker}
use Rattle.kadm_session.specs.Courses.{course}
use Rattle.session_base.specs.Draws.{told_draws}
use Rattle.kadm_top.proofs.Courses.{one_run}
use Rattle.kadm_top.proofs.run.answer_alone.Goals as goal
use Rattle.kdb_histories.specs.Seen.{seen}
use Rattle.primary_core.specs.Opened.{place_of}

pub returns-clause-course : goal.returns-clause-course
returns-clause-course g c = λ tells left s has.
    let draws = told_draws (g.C.Clock.moments c.args.clock.now) (g.E.Entropy.stream c.args.entropy.now) in
    let its = course (g.K.Sink.taken c.args.sink.now) false (Some (c.args.asked.now ∷ [])) draws
    (seen (place_of c.args.opened) s) in
    let serves = c.serve_one-answered.ensures.serves tells s has in
    one_run {c = its} c.serve_one-answered.new.primary c.serve_one-answered.result
    (λ end e. c.serve_one-answered.ensures.ended s end has e)
    (on_ok_weaker c.serve_one-answered.result (c.what_is_kept_is_recovered.ensures _)
    (c.serve_one-answered.ensures.stays.on tells))
    serves.stopped serves.memory serves.drawn c.serve_one-answered.ensures.causes.halt serves.moments

use Rattle.std.proofs.Common.{false, subst}
use Rattle.std.proofs.lemmas.Result.{on_ok_weaker}
use Rattle.kadm_session.specs.Courses.{Course, course}
use Rattle.session_base.specs.Draws.{told_draws}
use Rattle.kadm_session.specs.Intake.{coming}
use Rattle.kadm_session.proofs.Turning.{between_rests}
use Rattle.kadm_top.proofs.Courses.{course_run, fresh_course, fresh_taken, read_whole, were_taken}
use Rattle.kadm_top.proofs.run.answer_input.Goals as goal
use Rattle.kadm_top.specs.Run.{HasCourse, told}
use Rattle.kdb_histories.specs.Seen.{seen}
use Rattle.primary_core.specs.Opened.{place_of}

pub returns-clause-course : goal.returns-clause-course
returns-clause-course g c = λ tells s has.
    let draws = told_draws (g.C.Clock.moments c.args.clock.now) (g.E.Entropy.stream c.args.entropy.now) in
    let at = seen (place_of c.args.opened) s in
    let its = course (g.K.Sink.taken c.args.sink.now) false
    (coming at.place.realm c.args.reader.now (g.S.Source.left c.args.source.now)) draws at in
    let serves = c.serve-answered.ensures.serves tells s has in
    let between = c.serve-answered.ensures.between tells s has in
    subst (λ (x : Course). HasCourse x (g.D.Disk.view c.args.disk.now) (g.D.Disk.view c.serve-answered.new.disk)
    (told (g.K.Sink.taken c.serve-answered.new.sink) (g.S.Source.left c.serve-answered.new.source)
    (told_draws (g.C.Clock.moments c.serve-answered.new.clock) (g.E.Entropy.stream c.serve-answered.new.entropy)))
    c.serve-answered.result)
    (fresh_course (g.K.Sink.taken c.args.sink.now) (g.S.Source.left c.args.source.now) draws c.args.reader.now
    (seen (place_of c.args.opened) s) c.requires.front)
    (course_run {c = its} c.serve-answered.new.primary c.serve-answered.result
    (λ end e. c.serve-answered.ensures.ended s end has e)
    (on_ok_weaker c.serve-answered.result (c.what_is_kept_is_recovered.ensures _)
    (c.serve-answered.ensures.stays.on tells))
    serves.stopped serves.memory serves.drawn
    (λ is. between_rests _ _ _ _ (between.read is)) (λ is. between_rests _ _ _ _ (between.at_limit is))
    serves.moments)

pub returns-clause-read : goal.returns-clause-read
returns-clause-read g c =
    read_whole c.serve-answered.result (g.S.Source.left c.args.source.now) _ _
    (c.serve-answered.ensures.takes.takes (g.S.Source.left c.args.source.now) (fresh_taken _ _ c.requires.front))
    c.serve-answered.ensures.over

pub returns-clause-too_long : goal.returns-clause-too_long
returns-clause-too_long g c = λ is.
    were_taken 4294967296 (g.S.Source.left c.args.source.now) _ _
    (c.serve-answered.ensures.takes.takes (g.S.Source.left c.args.source.now) (fresh_taken _ _ c.requires.front))
    (c.serve-answered.ensures.takes.too_long is)

pub returns-clause-causes : goal.returns-clause-causes
returns-clause-causes g c = record {
  reads = c.serve-answered.ensures.causes.reads;
  writes = c.serve-answered.ensures.causes.writes;
  calls = record {
    later = c.serve-answered.ensures.causes.call.later;
    cause = c.serve-answered.ensures.causes.call.cause;
  };
  draws = c.serve-answered.ensures.causes.draws;
}

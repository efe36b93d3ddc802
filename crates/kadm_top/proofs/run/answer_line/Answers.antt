use Rattle.std.proofs.Common.{◌∙◌, ℕ, List, Some, ap, subst}
use Rattle.session_base.specs.Draws.{told_draws}
use Rattle.kadm_session.specs.Input.{asked_by}
use Rattle.kadm_session.specs.declared.intake.Asked.{Asked}
use Rattle.kadm_top.proofs.Courses.{idle_course}
use Rattle.kadm_top.proofs.run.answer_line.Goals as goal
use Rattle.kadm_top.specs.Run.{HasCourse, course_from, told}
use Rattle.kadm_wire.specs.LineReadings.{words_answer}
use Rattle.kdb_histories.specs.Seen.{seen}
use Rattle.primary_core.specs.Opened.{place_of}

pub returns-in-Ok-clause-course : goal.returns-in-Ok-clause-course
returns-in-Ok-clause-course g c = λ tells left s has.
    let draws = told_draws (g.C.Clock.moments c.args.clock.now) (g.E.Entropy.stream c.args.entropy.now) in
    subst (λ (a : Asked). HasCourse
    (course_from (Some a) (told (g.K.Sink.taken c.args.sink.now) left draws) (seen (place_of c.args.opened) s))
    (g.D.Disk.view c.args.disk.now) (g.D.Disk.view c.answer_alone.new.disk)
    (told (g.K.Sink.taken c.answer_alone.new.sink) left (told_draws (g.C.Clock.moments c.answer_alone.new.clock)
    (g.E.Entropy.stream c.answer_alone.new.entropy))) c.answer_alone.result)
    (c.in-Ok.ensures.value ∙ ap (λ (realm : List ℕ). asked_by (words_answer realm c.args.words.now))
    (c.as_slice.ensures.value ∙ c.realm.ensures))
    (c.answer_alone.ensures.course tells left s has)

pub returns-in-Err-clause-course : goal.returns-in-Err-clause-course
returns-in-Err-clause-course g c = λ tells left s has.
    idle_course (g.K.Sink.taken c.args.sink.now) left
    (asked_by (words_answer c.args.opened.kept.realm c.args.words.now))
    (told_draws (g.C.Clock.moments c.args.clock.now) (g.E.Entropy.stream c.args.entropy.now))
    (seen (place_of c.args.opened) s) (g.D.Disk.view c.args.disk.now)
    (c.what_is_kept_is_recovered.ensures c.args.opened.kept (c.requires.on tells))

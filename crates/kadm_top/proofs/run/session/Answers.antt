use Rattle.std.proofs.Common.{subst, sym}
use Rattle.session_base.specs.Draws.{told_draws}
use Rattle.kadm_top.proofs.run.session.Goals as goal
use Rattle.kadm_top.specs.Openings.{asked_of}
use Rattle.kadm_top.specs.Run.{HasCourse, course_from, told}
use Rattle.kadm_top.specs.declared.asking.Asking.{Asking}
use Rattle.kdb_histories.specs.Seen.{seen}
use Rattle.primary_core.specs.Opened.{place_of}

pub returns-in-Input-clause-course : goal.returns-in-Input-clause-course
returns-in-Input-clause-course g c = λ tells s has.
    let draws = told_draws (g.C.Clock.moments c.args.clock.now) (g.E.Entropy.stream c.args.entropy.now) in
    subst (λ (a : Asking). HasCourse (course_from (asked_of a c.args.opened.kept.realm)
    (told (g.K.Sink.taken c.args.sink.now) (g.S.Source.left c.args.source.now) draws) (seen (place_of c.args.opened) s))
    (g.D.Disk.view c.args.disk.now) (g.D.Disk.view c.answer_input.new.disk)
    (told (g.K.Sink.taken c.answer_input.new.sink) (g.S.Source.left c.answer_input.new.source)
    (told_draws (g.C.Clock.moments c.answer_input.new.clock) (g.E.Entropy.stream c.answer_input.new.entropy)))
    c.answer_input.result) (sym c.in-Input.is)
    (c.answer_input.ensures.course tells s has)

pub returns-in-Line-clause-course : goal.returns-in-Line-clause-course
returns-in-Line-clause-course g c = λ tells s has.
    let left = g.S.Source.left c.args.source.now in
    let draws = told_draws (g.C.Clock.moments c.args.clock.now) (g.E.Entropy.stream c.args.entropy.now) in
    subst (λ (a : Asking). HasCourse (course_from (asked_of a c.args.opened.kept.realm)
    (told (g.K.Sink.taken c.args.sink.now) left draws) (seen (place_of c.args.opened) s))
    (g.D.Disk.view c.args.disk.now) (g.D.Disk.view c.answer_line.new.disk)
    (told (g.K.Sink.taken c.answer_line.new.sink) left (told_draws (g.C.Clock.moments c.answer_line.new.clock)
    (g.E.Entropy.stream c.answer_line.new.entropy))) c.answer_line.result) (sym c.in-Line.is)
    (c.answer_line.ensures.course tells left s has)

pub returns-in-ResetsLog-clause-course : goal.returns-in-ResetsLog-clause-course
returns-in-ResetsLog-clause-course g c = λ tells s has.
    let left = g.S.Source.left c.args.source.now in
    let draws = told_draws (g.C.Clock.moments c.args.clock.now) (g.E.Entropy.stream c.args.entropy.now) in
    subst (λ (a : Asking). HasCourse (course_from (asked_of a c.args.opened.kept.realm)
    (told (g.K.Sink.taken c.args.sink.now) left draws) (seen (place_of c.args.opened) s))
    (g.D.Disk.view c.args.disk.now) (g.D.Disk.view c.answer_alone.new.disk)
    (told (g.K.Sink.taken c.answer_alone.new.sink) left (told_draws (g.C.Clock.moments c.answer_alone.new.clock)
    (g.E.Entropy.stream c.answer_alone.new.entropy))) c.answer_alone.result) (sym c.in-ResetsLog.is)
    (c.answer_alone.ensures.course tells left s has)

use Rattle.std.proofs.Common.{◌∙◌, Option, ap, refl, subst, sym}
use Rattle.std.specs.Prelude.{None, Result, Err}
use Rattle.std.proofs.lemmas.Result.{on_ok_weaker}
use Rattle.session_base.specs.Draws.{Draws, behind_moment, told_draws}
use Rattle.kadm_top.proofs.RenewalRuns.{good_renewing, refused_renewing, renew_cut, renew_halted}
use Rattle.kadm_top.proofs.RenewalRuns.{renew_opened_run, renew_refused, renew_unread}
use Rattle.kadm_top.proofs.Openings.{Answers}
use Rattle.kadm_top.proofs.Telling.{behind_clock, clock_gave}
use Rattle.kadm_top.proofs.renewing.renew.Goals as goal
use Rattle.kadm_top.specs.Openings.{AMoment, HasAddingNew, behind}
use Rattle.kadm_top.specs.Run.{refusal_line, told}
use Rattle.kdb_base.specs.declared.outcomes.Refusal.{Refusal}
use Rattle.kdb_base.specs.declared.outcomes.Stop.{Stop}
use Rattle.kdb_ports.specs.Parts.{SaidPart}
use Rattle.kdb_ports.specs.Told.{after_told}
use Rattle.primary_core.specs.Opened.{Opened}
use Rattle.store_files.specs.Found.{found_in}

pub returns-in-Ok-clause-run : goal.returns-in-Ok-clause-run
returns-in-Ok-clause-run g c = λ tells o adds.
    let moments = g.C.Clock.moments c.args.clock.now in
    let stream = g.E.Entropy.stream c.args.entropy.now in
    let found = found_in (g.D.Disk.view c.args.disk.now).seen in
    let clock = c.now-moment.result in
    let old = g.D.Disk.view c.args.disk.now in
    let mid = g.D.Disk.view c.recover.new.disk in
    let answers : Answers found None clock c.recover.result old mid = record {
      opens = c.recover.ensures.opens tells;
      only_refused = c.recover.ensures.only_refused tells;
      complete = c.recover.ensures.complete tells;
      moments = c.recover.ensures.moments tells;
      refusals = c.recover.ensures.refusals tells;
      stays = c.recover.ensures.refused_stays tells;
    } in
    let gone = (λ i. told_draws (c.now-moment.ensures.others i) stream) ∙ behind_clock moments stream in
    renew_opened_run c.args.word.now c.args.etypes.now clock o c.in-Ok.opened
    (λ d e. clock_gave moments stream d clock e c.now-moment.ensures.first) adds
    (subst (λ (r : Result Opened Stop). Answers found None clock r old mid) c.in-Ok.is answers)
    (λ s draws reads what has told comes.
    c.renew_opened.ensures.renewed tells s draws reads what has (gone ∙ told) comes)
    c.renew_opened.ensures.read

pub returns-in-Ok-clause-unread : goal.returns-in-Ok-clause-unread
returns-in-Ok-clause-unread g c = λ tells o adds not.
    let moments = g.C.Clock.moments c.args.clock.now in
    let stream = g.E.Entropy.stream c.args.entropy.now in
    let found = found_in (g.D.Disk.view c.args.disk.now).seen in
    let clock = c.now-moment.result in
    let old = g.D.Disk.view c.args.disk.now in
    let mid = g.D.Disk.view c.recover.new.disk in
    let answers : Answers found None clock c.recover.result old mid = record {
      opens = c.recover.ensures.opens tells;
      only_refused = c.recover.ensures.only_refused tells;
      complete = c.recover.ensures.complete tells;
      moments = c.recover.ensures.moments tells;
      refusals = c.recover.ensures.refusals tells;
      stays = c.recover.ensures.refused_stays tells;
    } in
    renew_unread c.args.word.now c.args.etypes.now (g.S.Source.left c.args.source.now) (told_draws moments stream) clock
    o c.in-Ok.opened _ (λ d e. clock_gave moments stream d clock e c.now-moment.ensures.first) adds
    (subst (λ (r : Result Opened Stop). Answers found None clock r old mid) c.in-Ok.is answers) not
    c.renew_opened.ensures.unread

pub returns-in-Ok-refuse-clause-run : goal.returns-in-Ok-refuse-clause-run
returns-in-Ok-refuse-clause-run g c = λ tells o adds.
    let moments = g.C.Clock.moments c.args.clock.now in
    let stream = g.E.Entropy.stream c.args.entropy.now in
    let found = found_in (g.D.Disk.view c.args.disk.now).seen in
    let clock = c.now-moment.result in
    let old = g.D.Disk.view c.args.disk.now in
    let mid = g.D.Disk.view c.recover.new.disk in
    let is = c.in-Err-Refused.is ∙ ap Err c.in-Err-Refused.field-0-is in
    let answers : Answers found None clock c.recover.result old mid = record {
      opens = c.recover.ensures.opens tells;
      only_refused = c.recover.ensures.only_refused tells;
      complete = c.recover.ensures.complete tells;
      moments = c.recover.ensures.moments tells;
      refusals = c.recover.ensures.refusals tells;
      stays = c.recover.ensures.refused_stays tells;
    } in
    renew_refused c.args.word.now c.args.etypes.now clock o c.in-Err-Refused.refusal
    (λ d e. clock_gave moments stream d clock e c.now-moment.ensures.first) adds
    (subst (λ (r : Result Opened Stop). Answers found None clock r old mid) is answers)
    (c.in-Ok-refuse.ensures.ok
    ∙ ap (λ (r : Refusal). after_told (g.K.Sink.taken c.args.sink.now) (refusal_line r)) c.in-Err-Refused.refusal-is)
    ((λ i. told_draws (c.now-moment.ensures.others i) stream) ∙ behind_clock moments stream)

pub returns-in-Err-clause-run : goal.returns-in-Err-clause-run
returns-in-Err-clause-run g c = λ tells o adds.
    let moments = g.C.Clock.moments c.args.clock.now in
    let stream = g.E.Entropy.stream c.args.entropy.now in
    let found = found_in (g.D.Disk.view c.args.disk.now).seen in
    let clock = c.now-moment.result in
    let old = g.D.Disk.view c.args.disk.now in
    let mid = g.D.Disk.view c.recover.new.disk in
    let is = c.in-Err-Refused.is ∙ ap Err c.in-Err-Refused.field-0-is in
    let answers : Answers found None clock c.recover.result old mid = record {
      opens = c.recover.ensures.opens tells;
      only_refused = c.recover.ensures.only_refused tells;
      complete = c.recover.ensures.complete tells;
      moments = c.recover.ensures.moments tells;
      refusals = c.recover.ensures.refusals tells;
      stays = c.recover.ensures.refused_stays tells;
    } in
    let part : SaidPart (refusal_line c.in-Err-Refused.refusal) (g.K.Sink.taken c.args.sink.now)
    (g.K.Sink.taken c.refuse.new.sink) =
    subst (λ (r : Refusal). SaidPart (refusal_line r) (g.K.Sink.taken c.args.sink.now)
    (g.K.Sink.taken c.refuse.new.sink)) c.in-Err-Refused.refusal-is c.in-Err.ensures.err in
    renew_cut {before = told (g.K.Sink.taken c.args.sink.now) (g.S.Source.left c.args.source.now)
    (told_draws moments stream)} c.args.word.now c.args.etypes.now clock o c.in-Err-Refused.refusal _
    (λ d e. clock_gave moments stream d clock e c.now-moment.ensures.first) adds
    (subst (λ (r : Result Opened Stop). Answers found None clock r old mid) is answers)
    part (λ spares. ap g.K.Sink.taken (c.in-Err.ensures.rests spares))

pub returns-in-Err-Halt-clause-run : goal.returns-in-Err-Halt-clause-run
returns-in-Err-Halt-clause-run g c = λ tells o adds.
    let moments = g.C.Clock.moments c.args.clock.now in
    let stream = g.E.Entropy.stream c.args.entropy.now in
    let found = found_in (g.D.Disk.view c.args.disk.now).seen in
    let clock = c.now-moment.result in
    let answers : Answers found None clock c.recover.result (g.D.Disk.view c.args.disk.now)
    (g.D.Disk.view c.recover.new.disk) = record {
      opens = c.recover.ensures.opens tells;
      only_refused = c.recover.ensures.only_refused tells;
      complete = c.recover.ensures.complete tells;
      moments = c.recover.ensures.moments tells;
      refusals = c.recover.ensures.refusals tells;
      stays = c.recover.ensures.refused_stays tells;
    } in
    renew_halted c.args.word.now c.args.etypes.now clock o c.recover.result _
    (λ d e. clock_gave moments stream d clock e c.now-moment.ensures.first) adds answers refl

pub returns-in-Ok-clause-opening : goal.returns-in-Ok-clause-opening
returns-in-Ok-clause-opening g c = λ tells draws is.
    let moments = g.C.Clock.moments c.args.clock.now in
    let stream = g.E.Entropy.stream c.args.entropy.now in
    let found = found_in (g.D.Disk.view c.args.disk.now).seen in
    let clock = c.now-moment.result in
    let opened = c.renew_opened.ensures.opened in
    let gone = (λ i. told_draws (c.now-moment.ensures.others i) stream) ∙ behind_clock moments stream
    ∙ ap (behind AMoment) is in
    on_ok_weaker c.renew_opened.result (λ has. subst (λ (d : Option Draws).
    HasAddingNew c.args.word.now c.args.etypes.now (g.S.Source.left c.args.source.now) found d) (sym is)
    (good_renewing c.args.word.now c.args.etypes.now (g.S.Source.left c.args.source.now)
    found draws clock c.in-Ok.opened (clock_gave moments stream draws clock is c.now-moment.ensures.first)
    (c.in-Ok.ensures.opens tells) opened has))
    (c.renew_opened.ensures.renewal opened.state (behind_moment draws) opened.has gone)

pub returns-in-Ok-refuse-clause-opening : goal.returns-in-Ok-refuse-clause-opening
returns-in-Ok-refuse-clause-opening g c = λ tells draws is.
    refused_renewing c.args.word.now c.args.etypes.now (g.S.Source.left c.args.source.now)
    (found_in (g.D.Disk.view c.args.disk.now).seen) _ c.now-moment.result c.in-Err-Refused.refusal
    (c.recover.ensures.refused tells c.in-Err-Refused.refusal
    (c.in-Err-Refused.is ∙ ap Err c.in-Err-Refused.field-0-is))

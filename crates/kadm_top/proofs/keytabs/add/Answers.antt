use Rattle.std.proofs.Common.{◌∙◌, Option, ap, refl, subst, sym}
use Rattle.std.specs.Prelude.{None, Result, Err}
use Rattle.std.proofs.lemmas.Result.{on_ok_weaker}
use Rattle.session_base.specs.Draws.{Draws, told_draws}
use Rattle.kadm_top.proofs.KeytabRuns.{add_cut, add_halted, add_opened_run, add_refused}
use Rattle.kadm_top.proofs.KeytabRuns.{add_unread, good_adding, refused_adding}
use Rattle.kadm_top.proofs.Openings.{Answers}
use Rattle.kadm_top.proofs.Telling.{behind_clock, clock_gave}
use Rattle.kadm_top.proofs.keytabs.add.Goals as goal
use Rattle.kadm_top.specs.Openings.{HasAdding}
use Rattle.kadm_top.specs.Run.{refusal_line, told}
use Rattle.kdb_base.specs.declared.outcomes.Refusal.{Refusal}
use Rattle.kdb_base.specs.declared.outcomes.Stop.{Stop}
use Rattle.kdb_ports.specs.Parts.{SaidPart}
use Rattle.kdb_ports.specs.Told.{after_told}
use Rattle.primary_core.specs.Opened.{Opened}
use Rattle.store_files.specs.Found.{found_in}

pub returns-in-Ok-clause-run : goal.returns-in-Ok-clause-run
returns-in-Ok-clause-run g c = λ tells stream o adds.
    let moments = g.C.Clock.moments c.args.clock.now in
    let found = found_in (g.D.Disk.view c.args.disk.now).seen in
    let clock = c.now-moment.result in
    let old = g.D.Disk.view c.args.disk.now in
    let mid = g.D.Disk.view c.recover.new.disk in
    let answers : Answers found None clock c.recover.result old mid = record {
      opens = c.recover.ensures.opens tells;
      only_refused = c.recover.ensures.only_refused tells;
      complete = c.recover.ensures.complete tells;
      moments = c.recover.ensures.moments tells;
      refusals = c.recover.ensures.refusals tells;
      stays = c.recover.ensures.refused_stays tells;
    } in
    let gone = (λ i. told_draws (c.now-moment.ensures.others i) stream) ∙ behind_clock moments stream in
    add_opened_run c.args.word.now clock o c.in-Ok.opened
    (λ d e. clock_gave moments stream d clock e c.now-moment.ensures.first) adds
    (subst (λ (r : Result Opened Stop). Answers found None clock r old mid) c.in-Ok.is answers)
    (c.what_is_kept_is_recovered.ensures c.in-Ok.opened.kept (c.in-Ok.ensures.on tells))
    c.add_opened.ensures.written gone c.add_opened.ensures.read

pub returns-in-Ok-clause-unread : goal.returns-in-Ok-clause-unread
returns-in-Ok-clause-unread g c = λ tells stream o adds not.
    let moments = g.C.Clock.moments c.args.clock.now in
    let found = found_in (g.D.Disk.view c.args.disk.now).seen in
    let clock = c.now-moment.result in
    let old = g.D.Disk.view c.args.disk.now in
    let mid = g.D.Disk.view c.recover.new.disk in
    let answers : Answers found None clock c.recover.result old mid = record {
      opens = c.recover.ensures.opens tells;
      only_refused = c.recover.ensures.only_refused tells;
      complete = c.recover.ensures.complete tells;
      moments = c.recover.ensures.moments tells;
      refusals = c.recover.ensures.refusals tells;
      stays = c.recover.ensures.refused_stays tells;
    } in
    add_unread c.args.word.now (g.S.Source.left c.args.source.now) (told_draws moments stream) clock o c.in-Ok.opened _
    (λ d e. clock_gave moments stream d clock e c.now-moment.ensures.first) adds
    (subst (λ (r : Result Opened Stop). Answers found None clock r old mid) c.in-Ok.is answers) not
    c.add_opened.ensures.unread

pub returns-in-Ok-refuse-clause-run : goal.returns-in-Ok-refuse-clause-run
returns-in-Ok-refuse-clause-run g c = λ tells stream o adds.
    let moments = g.C.Clock.moments c.args.clock.now in
    let found = found_in (g.D.Disk.view c.args.disk.now).seen in
    let clock = c.now-moment.result in
    let old = g.D.Disk.view c.args.disk.now in
    let mid = g.D.Disk.view c.recover.new.disk in
    let is = c.in-Err-Refused.is ∙ ap Err c.in-Err-Refused.field-0-is in
    let answers : Answers found None clock c.recover.result old mid = record {
      opens = c.recover.ensures.opens tells;
      only_refused = c.recover.ensures.only_refused tells;
      complete = c.recover.ensures.complete tells;
      moments = c.recover.ensures.moments tells;
      refusals = c.recover.ensures.refusals tells;
      stays = c.recover.ensures.refused_stays tells;
    } in
    add_refused c.args.word.now clock o c.in-Err-Refused.refusal
    (λ d e. clock_gave moments stream d clock e c.now-moment.ensures.first) adds
    (subst (λ (r : Result Opened Stop). Answers found None clock r old mid) is answers)
    (c.in-Ok-refuse.ensures.ok
    ∙ ap (λ (r : Refusal). after_told (g.K.Sink.taken c.args.sink.now) (refusal_line r)) c.in-Err-Refused.refusal-is)
    ((λ i. told_draws (c.now-moment.ensures.others i) stream) ∙ behind_clock moments stream)

pub returns-in-Err-clause-run : goal.returns-in-Err-clause-run
returns-in-Err-clause-run g c = λ tells stream o adds.
    let moments = g.C.Clock.moments c.args.clock.now in
    let found = found_in (g.D.Disk.view c.args.disk.now).seen in
    let clock = c.now-moment.result in
    let old = g.D.Disk.view c.args.disk.now in
    let mid = g.D.Disk.view c.recover.new.disk in
    let is = c.in-Err-Refused.is ∙ ap Err c.in-Err-Refused.field-0-is in
    let answers : Answers found None clock c.recover.result old mid = record {
      opens = c.recover.ensures.opens tells;
      only_refused = c.recover.ensures.only_refused tells;
      complete = c.recover.ensures.complete tells;
      moments = c.recover.ensures.moments tells;
      refusals = c.recover.ensures.refusals tells;
      stays = c.recover.ensures.refused_stays tells;
    } in
    let part : SaidPart (refusal_line c.in-Err-Refused.refusal) (g.K.Sink.taken c.args.sink.now)
    (g.K.Sink.taken c.refuse.new.sink) =
    subst (λ (r : Refusal). SaidPart (refusal_line r) (g.K.Sink.taken c.args.sink.now)
    (g.K.Sink.taken c.refuse.new.sink)) c.in-Err-Refused.refusal-is c.in-Err.ensures.err in
    add_cut {before = told (g.K.Sink.taken c.args.sink.now)
    (g.S.Source.left c.args.source.now) (told_draws moments stream)} c.args.word.now clock o c.in-Err-Refused.refusal _
    (λ d e. clock_gave moments stream d clock e c.now-moment.ensures.first) adds
    (subst (λ (r : Result Opened Stop). Answers found None clock r old mid) is answers)
    part (λ spares. ap g.K.Sink.taken (c.in-Err.ensures.rests spares))

pub returns-in-Err-Halt-clause-run : goal.returns-in-Err-Halt-clause-run
returns-in-Err-Halt-clause-run g c = λ tells stream o adds.
    let moments = g.C.Clock.moments c.args.clock.now in
    let found = found_in (g.D.Disk.view c.args.disk.now).seen in
    let clock = c.now-moment.result in
    let answers : Answers found None clock c.recover.result (g.D.Disk.view c.args.disk.now)
    (g.D.Disk.view c.recover.new.disk) = record {
      opens = c.recover.ensures.opens tells;
      only_refused = c.recover.ensures.only_refused tells;
      complete = c.recover.ensures.complete tells;
      moments = c.recover.ensures.moments tells;
      refusals = c.recover.ensures.refusals tells;
      stays = c.recover.ensures.refused_stays tells;
    } in
    add_halted c.args.word.now clock o c.recover.result _
    (λ d e. clock_gave moments stream d clock e c.now-moment.ensures.first) adds answers refl

pub returns-in-Ok-clause-opening : goal.returns-in-Ok-clause-opening
returns-in-Ok-clause-opening g c = λ tells stream draws is.
    let moments = g.C.Clock.moments c.args.clock.now in
    let found = found_in (g.D.Disk.view c.args.disk.now).seen in
    let clock = c.now-moment.result in
    let opened = c.add_opened.ensures.opened in
    on_ok_weaker c.add_opened.result
    (λ has. subst (λ (d : Option Draws). HasAdding c.args.word.now (g.S.Source.left c.args.source.now) found d) (sym is)
    (good_adding c.args.word.now (g.S.Source.left c.args.source.now) found draws clock c.in-Ok.opened
    (clock_gave moments stream draws clock is c.now-moment.ensures.first) (c.in-Ok.ensures.opens tells) opened has))
    (c.add_opened.ensures.addition opened.state opened.has)

pub returns-in-Ok-refuse-clause-opening : goal.returns-in-Ok-refuse-clause-opening
returns-in-Ok-refuse-clause-opening g c = λ tells stream draws is.
    refused_adding c.args.word.now (g.S.Source.left c.args.source.now)
    (found_in (g.D.Disk.view c.args.disk.now).seen) _ c.now-moment.result c.in-Err-Refused.refusal
    (c.recover.ensures.refused tells c.in-Err-Refused.refusal
    (c.in-Err-Refused.is ∙ ap Err c.in-Err-Refused.field-0-is))

use Rattle.std.proofs.Common.{◌∙◌, Option, ap, refl, subst, sym}
use Rattle.std.specs.Prelude.{Result, Err}
use Rattle.session_base.specs.Draws.{Draws, told_draws}
use Rattle.kadm_top.proofs.Openings.{Answers, admin_cut, admin_halted, admin_opened, admin_refused}
use Rattle.kadm_top.proofs.Openings.{any_ok, good_opening, opened_reads, refused_opening}
use Rattle.kadm_top.proofs.Telling.{behind_clock, clock_gave}
use Rattle.kadm_top.proofs.run.open_and_answer.Goals as goal
use Rattle.kadm_top.specs.Openings.{HasOpeningFor}
use Rattle.kadm_top.specs.Run.{refusal_line, told}
use Rattle.kdb_base.specs.declared.outcomes.Refusal.{Refusal}
use Rattle.kdb_base.specs.declared.outcomes.Stop.{Stop}
use Rattle.kdb_ports.specs.Told.{after_told}
use Rattle.primary_core.specs.Opened.{Opened}
use Rattle.store_files.specs.Found.{found_in}

pub returns-in-Ok-clause-run : goal.returns-in-Ok-clause-run
returns-in-Ok-clause-run g c = λ tells o opens.
    let moments = g.C.Clock.moments c.args.clock.now in
    let stream = g.E.Entropy.stream c.args.entropy.now in
    let found = found_in (g.D.Disk.view c.args.disk.now).seen in
    let clock = c.now-moment.result in
    let old = g.D.Disk.view c.args.disk.now in
    let mid = g.D.Disk.view c.recover.new.disk in
    let answers : Answers found c.args.size clock c.recover.result old mid = record {
      opens = c.recover.ensures.opens tells;
      only_refused = c.recover.ensures.only_refused tells;
      complete = c.recover.ensures.complete tells;
      moments = c.recover.ensures.moments tells;
      refusals = c.recover.ensures.refusals tells;
      stays = c.recover.ensures.refused_stays tells;
    } in
    admin_opened c.args.asking.now clock o c.in-Ok.opened
    (λ d e. clock_gave moments stream d clock e c.now-moment.ensures.first) opens
    (subst (λ (r : Result Opened Stop). Answers found c.args.size clock r old mid) c.in-Ok.is answers)
    (ap (λ (d : Option Draws). told (g.K.Sink.taken c.args.sink.now) (g.S.Source.left c.args.source.now) d)
    ((λ i. told_draws (c.now-moment.ensures.others i) stream) ∙ behind_clock moments stream))
    (c.session.ensures.course tells) c.session.ensures.read

pub returns-in-Ok-clause-unread : goal.returns-in-Ok-clause-unread
returns-in-Ok-clause-unread g c = λ tells o opens not.
    let moments = g.C.Clock.moments c.args.clock.now in
    let stream = g.E.Entropy.stream c.args.entropy.now in
    let found = found_in (g.D.Disk.view c.args.disk.now).seen in
    let clock = c.now-moment.result in
    let old = g.D.Disk.view c.args.disk.now in
    let mid = g.D.Disk.view c.recover.new.disk in
    let answers : Answers found c.args.size clock c.recover.result old mid = record {
      opens = c.recover.ensures.opens tells;
      only_refused = c.recover.ensures.only_refused tells;
      complete = c.recover.ensures.complete tells;
      moments = c.recover.ensures.moments tells;
      refusals = c.recover.ensures.refusals tells;
      stays = c.recover.ensures.refused_stays tells;
    } in
    c.session.ensures.unread
    (λ input. not (opened_reads c.args.asking.now (told_draws moments stream) clock o c.in-Ok.opened opens
    (subst (λ (r : Result Opened Stop). Answers found c.args.size clock r old mid) c.in-Ok.is answers) input))

pub returns-in-Ok-refuse-clause-run : goal.returns-in-Ok-refuse-clause-run
returns-in-Ok-refuse-clause-run g c = λ tells o opens.
    let moments = g.C.Clock.moments c.args.clock.now in
    let stream = g.E.Entropy.stream c.args.entropy.now in
    let found = found_in (g.D.Disk.view c.args.disk.now).seen in
    let clock = c.now-moment.result in
    let old = g.D.Disk.view c.args.disk.now in
    let mid = g.D.Disk.view c.recover.new.disk in
    let is = c.in-Err-Refused.is ∙ ap Err c.in-Err-Refused.field-0-is in
    let answers : Answers found c.args.size clock c.recover.result old mid = record {
      opens = c.recover.ensures.opens tells;
      only_refused = c.recover.ensures.only_refused tells;
      complete = c.recover.ensures.complete tells;
      moments = c.recover.ensures.moments tells;
      refusals = c.recover.ensures.refusals tells;
      stays = c.recover.ensures.refused_stays tells;
    } in
    admin_refused c.args.asking.now clock o c.in-Err-Refused.refusal
    (λ d e. clock_gave moments stream d clock e c.now-moment.ensures.first) opens
    (subst (λ (r : Result Opened Stop). Answers found c.args.size clock r old mid) is answers)
    (c.in-Ok-refuse.ensures.ok
    ∙ ap (λ (r : Refusal). after_told (g.K.Sink.taken c.args.sink.now) (refusal_line r)) c.in-Err-Refused.refusal-is)
    ((λ i. told_draws (c.now-moment.ensures.others i) stream) ∙ behind_clock moments stream)

pub returns-in-Err-clause-run : goal.returns-in-Err-clause-run
returns-in-Err-clause-run g c = λ tells o opens.
    let moments = g.C.Clock.moments c.args.clock.now in
    let stream = g.E.Entropy.stream c.args.entropy.now in
    let found = found_in (g.D.Disk.view c.args.disk.now).seen in
    let clock = c.now-moment.result in
    let old = g.D.Disk.view c.args.disk.now in
    let mid = g.D.Disk.view c.recover.new.disk in
    let is = c.in-Err-Refused.is ∙ ap Err c.in-Err-Refused.field-0-is in
    let answers : Answers found c.args.size clock c.recover.result old mid = record {
      opens = c.recover.ensures.opens tells;
      only_refused = c.recover.ensures.only_refused tells;
      complete = c.recover.ensures.complete tells;
      moments = c.recover.ensures.moments tells;
      refusals = c.recover.ensures.refusals tells;
      stays = c.recover.ensures.refused_stays tells;
    } in
    admin_cut c.args.asking.now clock o c.in-Err-Refused.refusal _
    (λ d e. clock_gave moments stream d clock e c.now-moment.ensures.first) opens
    (subst (λ (r : Result Opened Stop). Answers found c.args.size clock r old mid) is answers)
    c.in-Err.ensures.err (λ spares. ap g.K.Sink.taken (c.in-Err.ensures.rests spares))

pub returns-in-Err-Halt-clause-run : goal.returns-in-Err-Halt-clause-run
returns-in-Err-Halt-clause-run g c = λ tells o opens.
    let moments = g.C.Clock.moments c.args.clock.now in
    let stream = g.E.Entropy.stream c.args.entropy.now in
    let found = found_in (g.D.Disk.view c.args.disk.now).seen in
    let clock = c.now-moment.result in
    let answers : Answers found c.args.size clock c.recover.result (g.D.Disk.view c.args.disk.now)
    (g.D.Disk.view c.recover.new.disk) = record {
      opens = c.recover.ensures.opens tells;
      only_refused = c.recover.ensures.only_refused tells;
      complete = c.recover.ensures.complete tells;
      moments = c.recover.ensures.moments tells;
      refusals = c.recover.ensures.refusals tells;
      stays = c.recover.ensures.refused_stays tells;
    } in
    admin_halted c.args.asking.now clock o c.recover.result _
    (λ d e. clock_gave moments stream d clock e c.now-moment.ensures.first) opens answers refl

pub returns-in-Ok-clause-opening : goal.returns-in-Ok-clause-opening
returns-in-Ok-clause-opening g c = λ tells draws is.
    let moments = g.C.Clock.moments c.args.clock.now in
    let stream = g.E.Entropy.stream c.args.entropy.now in
    let found = found_in (g.D.Disk.view c.args.disk.now).seen in
    let clock = c.now-moment.result in
    any_ok c.session.result _
    (subst (λ (d : Option Draws). HasOpeningFor c.args.size c.args.asking.now found d) (sym is)
    (good_opening c.args.size c.args.asking.now found draws clock c.in-Ok.opened
    (clock_gave moments stream draws clock is c.now-moment.ensures.first)
    (c.in-Ok.ensures.opens tells) c.session.ensures.opened))

pub returns-in-Ok-refuse-clause-opening : goal.returns-in-Ok-refuse-clause-opening
returns-in-Ok-refuse-clause-opening g c = λ tells draws is.
    refused_opening c.args.size c.args.asking.now (found_in (g.D.Disk.view c.args.disk.now).seen) _ c.now-moment.result
    c.in-Err-Refused.refusal
    (c.recover.ensures.refused tells c.in-Err-Refused.refusal
    (c.in-Err-Refused.is ∙ ap Err c.in-Err-Refused.field-0-is))

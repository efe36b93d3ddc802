use Rattle.std.proofs.Common.{◌∙◌, ap}
use Rattle.std.specs.Prelude.{Err}
use Rattle.session_base.specs.Draws.{told_draws}
use Rattle.kadm_top.proofs.Accounts.{cut_told_run, opened_stays, refused_stays, text_then, told_run, untold_run}
use Rattle.kadm_top.proofs.Telling.{behind_clock, clock_gave}
use Rattle.kadm_top.proofs.accounting.tell.Goals as goal
use Rattle.kadm_top.specs.Accounts.{account_text, texts_of}
use Rattle.kadm_top.specs.Run.{refusal_line}
use Rattle.kdb_base.specs.declared.outcomes.Refusal.{Refusal}
use Rattle.kdb_ports.specs.Told.{after_told}
use Rattle.store_files.specs.Found.{place_in, recovers}
use Rattle.store_files.specs.Kept.{place_kept}

pub returns-in-Ok-say_account-clause-run : goal.returns-in-Ok-say_account-clause-run
returns-in-Ok-say_account-clause-run g c = λ tells left stream o opens.
    let moments = g.C.Clock.moments c.args.clock.now in
    let now = c.now-moment.result in
    let place = place_kept c.in-Ok.database in
    let draws = told_draws moments stream in
    told_run (texts_of c.args.account draws) (recovers (g.D.Disk.view c.args.disk.now).seen) o place
    (account_text c.args.account now.secs place) (c.in-Ok.ensures.answer tells) opens
    (λ f e. text_then c.args.account draws now
    (λ d is. clock_gave moments stream d now is c.now-moment.ensures.first) f e place)
    c.in-Ok-say_account.ensures.ok
    ((λ i. told_draws (c.now-moment.ensures.others i) stream) ∙ behind_clock moments stream)
    (opened_stays (g.D.Disk.view c.args.disk.now) (g.D.Disk.view c.recover.new.disk) place
    (c.in-Ok.ensures.answer tells) (c.what_is_kept_is_recovered.ensures _ (c.in-Ok.ensures.on tells))
    (c.recover.ensures.moments tells))

pub returns-in-Ok-clause-run : goal.returns-in-Ok-clause-run
returns-in-Ok-clause-run g c = λ tells left stream o opens.
    let moments = g.C.Clock.moments c.args.clock.now in
    let now = c.now-moment.result in
    let place = place_kept c.in-Ok.database in
    let draws = told_draws moments stream in
    cut_told_run (texts_of c.args.account draws) (recovers (g.D.Disk.view c.args.disk.now).seen) o place
    (account_text c.args.account now.secs place) c.in-Err.halt (c.in-Ok.ensures.answer tells) opens
    (λ f e. text_then c.args.account draws now
    (λ d is. clock_gave moments stream d now is c.now-moment.ensures.first) f e place)
    c.in-Err.ensures.err (c.recover.ensures.moments tells)

pub returns-in-Ok-refuse-clause-run : goal.returns-in-Ok-refuse-clause-run
returns-in-Ok-refuse-clause-run g c = λ tells left stream o opens.
    let moments = g.C.Clock.moments c.args.clock.now in
    let is = c.in-Err-Refused.is ∙ ap Err c.in-Err-Refused.field-0-is in
    untold_run (texts_of c.args.account (told_draws moments stream)) (recovers (g.D.Disk.view c.args.disk.now).seen) o
    c.in-Err-Refused.refusal (ap place_in (c.recover.ensures.refused tells c.in-Err-Refused.refusal is)) opens
    (c.in-Ok-refuse.ensures.ok
    ∙ ap (λ (r : Refusal). after_told (g.K.Sink.taken c.args.sink.now) (refusal_line r)) c.in-Err-Refused.refusal-is)
    ((λ i. told_draws (c.now-moment.ensures.others i) stream) ∙ behind_clock moments stream)
    (refused_stays (c.recover.ensures.refused_keeps tells c.in-Err-Refused.refusal is)
    (c.recover.ensures.refused_settled tells c.in-Err-Refused.refusal is) (c.recover.ensures.moments tells))
